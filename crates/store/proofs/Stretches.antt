-- Where the pairs rise, a group's stretch holds the group's pairs, and no other.
use mathlib.Core.Path.{◌≡◌, refl, sym, ap, ◌∙◌}
use mathlib.Core.Bool.{Bool, true, false, cond, not, ◌&&◌}
use mathlib.Core.List.{List, [], ◌∷◌, map}
use Prim.Native.Nat.{ℕ, ◌≤◌, ◌<◌}
use native.Mathlib.Omega.{arith}
use lib.Dec.{eqb, ltb}
use lib.ListN.{length, get_or}
use borrow.Author.Tests.{not-true, leb-false, ltb-true, lt-ltb, le-ltb, eqb-true, eqb-false, eq-eqb, ne_eqb}
use Rattle.rules.specs.Lists.{keep, all, rises}
use Rattle.rules.specs.Mark.{Mark}
use Rattle.rules.specs.Number.{key_limit, wide_key}
use Rattle.rules.specs.Ledger.{Pair, radios_of}
use Rattle.rules.specs.Listing.{gathered}
use Rattle.rules.specs.ByNumber.{lower, below_pair}
use Rattle.rules.proofs.Tests.{split, clash, and_l, and_r, or_l}
use Rattle.rules.proofs.Rises.{Climbs}
use Rattle.rules.proofs.ByKey.{Linear, key-climbs}
use Rattle.rules.proofs.ByNumber.{pairs-linear, pair-cases}
use Rattle.order.specs.Walks.{left}
use Rattle.order.proofs.Walks.{left_end}
use Rattle.store.specs.Halving.{place_in}
use Rattle.store.specs.Places.{past_radios, stretch_of}
use Rattle.store.specs.declared.Stretch.{Stretch}
use Rattle.store.proofs.PlaceLaws.{rank, rank-zero, place-rank, place_inside, below-place, not-below-place}

-- ---- the entries between two keys, of any kind ----

abbrev between : {K X : Type 0} → (K → K → Bool) → K → K → K × X → Bool
between below low high e = not (below e.0 low) && below e.0 high

module _ {K X : Type 0} {same below : K → K → Bool} (o : Linear same below) (low high : K) (h : below low high ≡ true) where
  ranks : (l : List (K × X)) → rank below l low ≤ rank below l high
  ranks [] = omega arith
  ranks (e ∷ l) = split (below e.0 low)
      (λ p. rw (p, o.carries e.0 low high p h) (omega (arith, ranks l)))
      (λ p. rw p (omega arith))

  keep-ranks : (l : List (K × X)) → Climbs (lower below) l → keep (between below low high) l ≡ left (rank below l low) (rank below l high) l
  keep-ranks [] c = refl
  keep-ranks (e ∷ l) c = split (below e.0 low)
      (λ p. rw (p, o.carries e.0 low high p h) (keep-ranks l c.1))
      (λ p. split (below e.0 high)
      (λ q. rw (p, q) (ap (λ (z : List (K × X)). e ∷ z) (rw (rank-zero o e l low c.0 p) at (keep-ranks l c.1))))
      (λ q. rw (p, q) (keep-ranks l c.1 ∙ left_end l (rank below l high) (rank below l low) (rw (rank-zero o e l high c.0 q) (omega arith)))))

  places-ordered : (l : List (K × X)) → Climbs (lower below) l → place_in below l low ≤ place_in below l high
  places-ordered l c = rw (place-rank o l low c, place-rank o l high c) (ranks l)

  -- they stand from the one's place to the other's
  keep-between : (l : List (K × X)) → Climbs (lower below) l → keep (between below low high) l ≡ left (place_in below l low) (place_in below l high) l
  keep-between l c = rw (place-rank o l low c, place-rank o l high c) (keep-ranks l c)

-- ---- a group's pairs ----

-- its radio's key is of 24 bits
abbrev pub narrow : Pair × Mark → Bool
narrow e = not (wide_key e.0.1)

module _ (g : ℕ) where
  -- its first radio is below its last
  first-last : below_pair (g, 0) (g, past_radios) ≡ true
  first-last = rw (le-ltb g g (omega arith), eq-eqb g g refl)

  -- a pair is the group's where it stands between them
  in_group : (e : Pair × Mark) → narrow e ≡ true → eqb g e.0.0 ≡ between below_pair (g, 0) (g, past_radios) e
  in_group e w =
      let n = leb-false key_limit e.0.1 (not-true (wide_key e.0.1) w) in
      let a = le-ltb e.0.1 0 (omega arith) in
      let b = lt-ltb e.0.1 past_radios (omega arith) in
      split (ltb e.0.0 g)
      (λ p. let m = ltb-true e.0.0 g p in rw (p, ne_eqb g e.0.0 (λ q. omega arith)))
      (λ p. split (eqb g e.0.0)
      (λ q. rw (p, q, eq-eqb e.0.0 g (sym (eqb-true g e.0.0 q)), a, b))
      (λ q. rw (p, q, ne_eqb e.0.0 g (λ m. eqb-false g e.0.0 q (sym m)))))

  -- what is made of the group's pairs alone is made of those between
  module _ {B : Type 0} (f : Pair × Mark → B) (F : List (Pair × Mark) → List B) (first : F [] ≡ [])
      (turn : (e : Pair × Mark) (l : List (Pair × Mark)) → F (e ∷ l) ≡ cond (eqb g e.0.0) (f e ∷ F l) (F l)) where
    of-group : (l : List (Pair × Mark)) → all narrow l ≡ true
        → F l ≡ map f (keep (between below_pair (g, 0) (g, past_radios)) l)
    of-group [] w = first
    of-group (e ∷ l) w =
        turn e l ∙ rw (of-group l (and_r (narrow e) (all narrow l) w), in_group e (and_l (narrow e) (all narrow l) w))
        (go (between below_pair (g, 0) (g, past_radios) e))
      where
        go : (b : Bool) → let k = keep (between below_pair (g, 0) (g, past_radios)) l in cond b (f e ∷ map f k) (map f k) ≡ map f (cond b (e ∷ k) k)
        go true = refl
        go false = refl

-- what a stretch says: the group's pairs, in their order, are those that stand in it
pub record Stretched (l : List (Pair × Mark)) (g : ℕ) (s : Stretch) : Type 0 where
  pub ordered : s.from ≤ s.to
  pub inside : s.to ≤ length l
  pub group : (i : ℕ) (d : Pair × Mark) → s.from ≤ i → i < s.to → (get_or l i d).0.0 ≡ g
  pub listed : gathered g l ≡ map (λ (e : Pair × Mark). (e.0.1, e.1.state)) (left s.from s.to l)
  pub radios : radios_of g l ≡ map (λ (e : Pair × Mark). e.0.1) (left s.from s.to l)

pub stretched : (l : List (Pair × Mark)) (g : ℕ) → rises (lower below_pair) l ≡ true → all narrow l ≡ true
    → Stretched l g (stretch_of l g)
stretched l g r w =
    let c = key-climbs pairs-linear l r in
    let k = keep-between pairs-linear (g, 0) (g, past_radios) (first-last g) l c in
    record {
      ordered = places-ordered pairs-linear (g, 0) (g, past_radios) (first-last g) l c;
      inside = place_inside pairs-linear l (g, past_radios) c;
      group = λ i d h m.
          let a = below-place pairs-linear l (g, past_radios) d c i m in
          let b = not-below-place pairs-linear l (g, 0) d c i h (omega (arith, place_inside pairs-linear l (g, past_radios) c)) in
          pair-cases (get_or l i d).0 (g, past_radios) a
          (λ p. clash (sym p ∙ or_l (ltb (get_or l i d).0.0 g) (eqb (get_or l i d).0.0 g && ltb (get_or l i d).0.1 0) b))
          (λ p q. p);
      listed = of-group g (λ e. (e.0.1, e.1.state)) (gathered g) refl (λ e l. refl) l w ∙ ap (map _) k;
      radios = of-group g (λ e. e.0.1) (radios_of g) refl (λ e l. refl) l w ∙ ap (map _) k;
    }
