-- A key parts rising entries: those before its place are below it, those behind it above.
use mathlib.Core.Path.{◌≡◌, refl, sym, ap, subst, ◌∙◌}
use mathlib.Core.Bool.{Bool, true, false, cond}
use mathlib.Core.List.{List, [], ◌∷◌, ◌++◌}
use mathlib.Core.Option.{Option, none, some}
use Prim.Native.Nat.{ℕ, suc, ◌≤◌}
use native.Mathlib.Numerals.{add-one}
use native.Mathlib.Omega.{arith}
use lib.ListN.{length, take, drop}
use Rattle.std.specs.Prelude.{Result, Ok, Err}
use Rattle.rules.specs.Lists.{present, rises}
use Rattle.rules.specs.Entries.{find, entry}
use Rattle.rules.specs.ByNumber.{lower}
use Rattle.rules.proofs.Tests.{split}
use Rattle.rules.proofs.Rises.{Over, Climbs}
use Rattle.rules.proofs.ByKey.{Linear, apart, apart-back, key-climbs}
use Rattle.rules.proofs.PutsByKey.{Above, Under}
use Rattle.store.specs.Places.{place_of, stands_at, index_of, behind_of}
use Rattle.store.proofs.PlaceLaws.{rank, place-rank, looked-found}

-- where the entries behind the key begin
abbrev behind : Bool → ℕ → ℕ
behind stands i = cond stands (suc i) i

behind-suc : (b : Bool) (i : ℕ) → suc (behind b i) ≡ behind b (suc i)
behind-suc true i = refl
behind-suc false i = refl

module _ {K X : Type 0} {same below : K → K → Bool} (o : Linear same below) (k : K) where
  -- entries in two parts about the key, whose own entry, where there is one, stands between them
  record Parts (l : List (K × X)) (i from : ℕ) (v : Option X) : Type 0 where
    parts : l ≡ take i l ++ entry k v (drop from l)
    low : Above below k (take i l)
    high : Under below k (drop from l)
    inside : from ≤ length l

  recast : (l : List (K × X)) {i i' from from' : ℕ} {v v' : Option X} → Parts l i from v → i ≡ i' → from ≡ from' → v ≡ v' → Parts l i' from' v'
  recast l {i} {i'} {from} {from'} {v} {v'} p a b c =
      subst (λ (x : ℕ). Parts l x from' v') a (subst (λ (x : ℕ). Parts l i x v') b (subst (λ (x : Option X). Parts l i from x) c p))

  under-over : (e : K × X) (l : List (K × X)) → below k e.0 ≡ true → Over (lower below) e l → Under below k l
  under-over e [] b h = tt
  under-over e (f ∷ l) b h = (o.carries k e.0 f.0 b h.0, under-over e l b h.1)

  under_same : (e : K × X) (l : List (K × X)) → e.0 ≡ k → Over (lower below) e l → Under below k l
  under_same e [] q h = tt
  under_same e (f ∷ l) q h = (ap (λ (z : K). below z f.0) (sym q) ∙ h.0, under_same e l q h.1)

  under_none : (l : List (K × X)) → Under below k l → find same l k ≡ none
  under_none [] u = refl
  under_none (e ∷ l) u = cc (apart o k e.0 u.0, under_none l u.1)

  parts-of : (l : List (K × X)) → Climbs (lower below) l → Parts l (rank below l k) (behind (present (find same l k)) (rank below l k)) (find same l k)
  parts-of [] c = record { parts = refl; low = tt; high = tt; inside = omega arith }
  parts-of (e ∷ l) c = split (below e.0 k)
      (λ p. let r = parts-of l c.1 in
      let i : suc (rank below l k) ≡ rank below (e ∷ l) k = rw p refl in
      let v : find same l k ≡ find same (e ∷ l) k = cc (apart-back o e.0 k p) in
      recast (e ∷ l) (further p r) i (behind-suc (present (find same l k)) (rank below l k) ∙ (λ t. behind (present (v t)) (i t))) v)
      (λ p. let i : 0 ≡ rank below (e ∷ l) k = rw p refl in
      split (below k e.0)
      (λ q. let u : Under below k (e ∷ l) = (q, under-over e l q c.0) in
      let v : none ≡ find same (e ∷ l) k = sym (under_none (e ∷ l) u) in
      recast (e ∷ l) {v = none} (record { parts = refl; low = tt; high = u; inside = omega arith }) i (λ t. behind (present (v t)) (i t)) v)
      (λ q. let own = o.total e.0 k p q in
      let v : some e.1 ≡ find same (e ∷ l) k = cc (ap (same k) own ∙ o.itself k) in
      recast (e ∷ l) {v = some e.1} (record { parts = λ t. (own t, e.1) ∷ l; low = tt; high = under_same e l own c.0; inside = omega arith })
      i (λ t. behind (present (v t)) (i t)) v))
    where
      further : {i from : ℕ} {v : Option X} → below e.0 k ≡ true → Parts l i from v → Parts (e ∷ l) (suc i) (suc from) v
      further p r = record {
        parts = ap (λ (z : List (K × X)). e ∷ z) r.parts;
        low = (p, r.low);
        high = r.high;
        inside = omega (arith, r.inside);
      }

  -- the same of the place that is looked for
  pub record Parted (l : List (K × X)) (place : Result ℕ ℕ) : Type 0 where
    pub stands : stands_at place ≡ present (find same l k)
    pub ordered : index_of place ≤ behind_of place
    pub inside : behind_of place ≤ length l
    pub parts : l ≡ take (index_of place) l ++ entry k (find same l k) (drop (behind_of place) l)
    pub low : Above below k (take (index_of place) l)
    pub high : Under below k (drop (behind_of place) l)

  pub parted : (l : List (K × X)) → rises (lower below) l ≡ true → Parted l (place_of below same l k)
  parted l r =
      let c = key-climbs o l r in
      rw (looked-found o l k r, place-rank o l k c) (go (present (find same l k)) refl (parts-of l c))
    where
      go : (b : Bool) → present (find same l k) ≡ b → Parts l (rank below l k) (behind (present (find same l k)) (rank below l k)) (find same l k)
          → Parted l (cond b (Ok (rank below l k)) (Err (rank below l k)))
      go true e p =
          let q = recast l p refl ((λ t. behind (e t) (rank below l k)) ∙ sym (add-one (rank below l k))) refl in
          record { stands = sym e; ordered = omega arith; inside = q.inside; parts = q.parts; low = q.low; high = q.high }
      go false e p =
          let q = recast l p refl (λ t. behind (e t) (rank below l k)) refl in
          record { stands = sym e; ordered = omega arith; inside = q.inside; parts = q.parts; low = q.low; high = q.high }
