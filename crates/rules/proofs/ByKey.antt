-- Entries by rising keys: a put is lawful, and such entries go by what is found: any two that find the same are one.
use Prim.Native.Nat.{◌+◌}
use mathlib.Core.Path.{◌≡◌, refl, sym, ◌∙◌, ap}
use mathlib.Core.Bool.{Bool, true, false, cond}
use mathlib.Core.List.{List, [], ◌∷◌}
use mathlib.Core.Option.{Option, none, some}
use lib.ListN.{length}
use native.Mathlib.Omega.{arith}
use Rattle.rules.specs.Lists.{present, rises}
use Rattle.rules.specs.Entries.{find, entry, alter}
use Rattle.rules.specs.Placing.{LawfulPut}
use Rattle.rules.specs.ByNumber.{put, lower, by_key}
use Rattle.rules.proofs.Tests.{split, clash}
use Rattle.rules.proofs.EntryLaws.{Single, distinct-single}
use Rattle.rules.proofs.Rises.{Over, Climbs, over-trans, rises-climbs, climbs-rises}

-- keys in a row: none is below itself, and of two that differ one is below the other
pub record Linear {K : Type 0} (same below : K → K → Bool) : Type 0 where
  pub sound : (a b : K) → same a b ≡ true → a ≡ b
  pub itself : (a : K) → same a a ≡ true
  pub strict : (a : K) → below a a ≡ false
  pub carries : (a b c : K) → below a b ≡ true → below b c ≡ true → below a c ≡ true
  pub total : (a b : K) → below a b ≡ false → below b a ≡ false → a ≡ b

module _ {K : Type 0} {same below : K → K → Bool} (o : Linear same below) where
  pub apart : (a b : K) → below a b ≡ true → same a b ≡ false
  apart a b h = split (same a b)
      (λ e. clash (sym h ∙ ap (below a) (sym (o.sound a b e)) ∙ o.strict a))
      (λ e. e)

  pub apart-back : (a b : K) → below a b ≡ true → same b a ≡ false
  apart-back a b h = split (same b a)
      (λ e. clash (sym h ∙ ap (below a) (o.sound b a e) ∙ o.strict a))
      (λ e. e)

  pub not_back : (a b : K) → below a b ≡ true → below b a ≡ false
  not_back a b h = split (below b a) (λ e. clash (sym (o.carries a b a h e) ∙ o.strict a)) (λ e. e)

module _ {K X : Type 0} {same below : K → K → Bool} (o : Linear same below) where
  abbrev under : K × X → K × X → Bool
  under = lower below

  carries-on : (x y z : K × X) → under x y ≡ true → under y z ≡ true → under x z ≡ true
  carries-on x y z = o.carries x.0 y.0 z.0

  pub key-climbs : (l : List (K × X)) → rises (lower below) l ≡ true → Climbs (lower below) l
  key-climbs = rises-climbs under carries-on

  -- a key that is below all is not found
  pub over_none : (x : K × X) (l : List (K × X)) → Over (lower below) x l → find same l x.0 ≡ none
  over_none x [] h = refl
  over_none x (e ∷ l) h = cc (apart o x.0 e.0 h.0, over_none x l h.1)

  climbs-single : (l : List (K × X)) → Climbs under l → Single same l
  climbs-single [] c = tt
  climbs-single (e ∷ l) c = (ap present (over_none e l c.0), climbs-single l c.1)

  -- ---- a put ----

  find-put : (l : List (K × X)) (k j : K) (v : X) → find same (put below l k v) j ≡ cond (same j k) (some v) (find same l j)
  find-put [] k j v = refl
  find-put (e ∷ l) k j v = split (below e.0 k)
      (λ h. split (same j e.0)
      (λ q. cc (o.sound j e.0 q, apart o e.0 k h))
      (λ q. cc (find-put l k j v)))
      (λ h. split (below k e.0)
      (λ q. cc)
      (λ q. split (same j k) (λ p. cc) (λ p. cc (o.total e.0 k h q))))

  over-put : (x : K × X) (l : List (K × X)) (k : K) (v : X) → below x.0 k ≡ true → Over under x l → Over under x (put below l k v)
  over-put x [] k v b h = (b, tt)
  over-put x (e ∷ l) k v b h = split (below e.0 k)
      (λ p. rw p (h.0, over-put x l k v b h.1))
      (λ p. split (below k e.0) (λ q. rw (p, q) (b, h)) (λ q. rw (p, q) (b, h.1)))

  climbs-put : (l : List (K × X)) (k : K) (v : X) → Climbs under l → Climbs under (put below l k v)
  climbs-put [] k v c = (tt, tt)
  climbs-put (e ∷ l) k v c = split (below e.0 k)
      (λ p. rw p (over-put e l k v p c.0, climbs-put l k v c.1))
      (λ p. split (below k e.0)
      (λ q. rw (p, q) ((q, over-trans under carries-on (k, v) e l q c.0), c))
      (λ q. rw (p, q) (rekeyed (o.total e.0 k p q) l c.0, c.1)))
    where
      rekeyed : e.0 ≡ k → (l : List (K × X)) → Over under e l → Over under (k, v) l
      rekeyed q [] h = tt
      rekeyed q (f ∷ l) h = (ap (λ (z : K). below z f.0) (sym q) ∙ h.0, rekeyed q l h.1)

  length-put : (l : List (K × X)) (k : K) (v : X) → Climbs under l → length (put below l k v) ≡ length l + cond (present (find same l k)) 0 1
  length-put [] k v c = refl
  length-put (e ∷ l) k v c = split (below e.0 k)
      (λ p. rw (p, apart-back o e.0 k p) (let h = length-put l k v c.1 in omega arith))
      (λ p. split (below k e.0)
      (λ q. rw (p, q, apart o k e.0 q, over_none (k, v) l (over-trans under carries-on (k, v) e l q c.0)) (omega arith))
      (λ q. rw (p, q, there (o.total e.0 k p q)) (omega arith)))
    where
      there : e.0 ≡ k → same k e.0 ≡ true
      there q = ap (same k) q ∙ o.itself k

  -- ---- entries changed or taken out ----

  over-alter : (x : K × X) (f : K → X → Option X) (l : List (K × X)) → Over under x l → Over under x (alter f l)
  over-alter x f [] h = tt
  over-alter x f (e ∷ l) h = go (f e.0 e.1) (over-alter x f l h.1)
    where
      go : (v : Option X) → Over under x (alter f l) → Over under x (entry e.0 v (alter f l))
      go none r = r
      go (some v) r = (h.0, r)

  climbs-alter : (f : K → X → Option X) (l : List (K × X)) → Climbs under l → Climbs under (alter f l)
  climbs-alter f [] c = tt
  climbs-alter f (e ∷ l) c = go (f e.0 e.1) (climbs-alter f l c.1)
    where
      rekeyed : (v : X) (l : List (K × X)) → Over under e l → Over under (e.0, v) l
      rekeyed v [] h = tt
      rekeyed v (y ∷ l) h = (h.0, rekeyed v l h.1)

      go : (v : Option X) → Climbs under (alter f l) → Climbs under (entry e.0 v (alter f l))
      go none r = r
      go (some v) r = (rekeyed v (alter f l) (over-alter e f l c.0), r)

  pub by_key_lem : LawfulPut same (by_key {K = K} {X = X} below)
  by_key_lem = record {
    begins = refl;
    stays = λ l k v h. climbs-rises under (put below l k v) (climbs-put l k v (key-climbs l h));
    alters = λ f l h. climbs-rises under (alter f l) (climbs-alter f l (key-climbs l h));
    single = λ l h. distinct-single same l (climbs-single l (key-climbs l h));
    found = λ l k v h j. find-put l k j v;
    counted = λ l k v h. length-put l k v (key-climbs l h);
  }

  -- ---- rising entries go by what is found ----

  pub same_entries : (a b : List (K × X)) → Climbs (lower below) a → Climbs (lower below) b → ((k : K) → find same a k ≡ find same b k) → a ≡ b
  same_entries [] [] c d h = refl
  same_entries [] (y ∷ b) c d h = clash (cc (h y.0, o.itself y.0))
  same_entries (x ∷ a) [] c d h = clash (cc (h x.0, o.itself x.0))
  same_entries (x ∷ a) (y ∷ b) c d h =
      split (below x.0 y.0)
      (λ e. clash (cc (h x.0, o.itself x.0, over_none x (y ∷ b) (e, over-trans under carries-on x y b e d.0))))
      (λ e. split (below y.0 x.0)
      (λ f. clash (cc (h y.0, o.itself y.0, over_none y (x ∷ a) (f, over-trans under carries-on y x a f c.0))))
      (λ f. let q = o.total x.0 y.0 e f in
      let v : x.1 ≡ y.1 = cc (h x.0, o.itself x.0) in
      let t = same_entries a b c.1 d.1 (tails q) in
      λ i. (q i, v i) ∷ t i))
    where
      tails : x.0 ≡ y.0 → (z : K) → find same a z ≡ find same b z
      tails q z = split (same z x.0)
          (λ e. cc (o.sound z x.0 e, over_none x a c.0, over_none y b d.0))
          (λ e. cc (h z))
