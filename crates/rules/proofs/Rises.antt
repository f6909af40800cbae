-- Rising lists: each is below all that follow, by any order that carries over; and the rising lists of numbers.
use Prim.Native.Nat.{ℕ}
use mathlib.Core.Path.{◌≡◌, refl}
use mathlib.Core.Bool.{Bool, true}
use mathlib.Core.List.{List, [], ◌∷◌}
use lib.Dec.{ltb}
use native.Mathlib.Omega.{arith}
use borrow.Author.Tests.{ltb-true, lt-ltb}
use Rattle.rules.specs.Lists.{rises, Above, Rising}
use Rattle.rules.proofs.Tests.{and_in, and_l, and_r}

module _ {A : Type 0} (below : A → A → Bool) where
  -- x is below all of the list
  abbrev pub Over : A → List A → Type 0
  Over x [] = Unit {0}
  Over x (y ∷ l) = (below x y ≡ true) × Over x l

  -- each is below all that follow
  abbrev pub Climbs : List A → Type 0
  Climbs [] = Unit {0}
  Climbs (x ∷ l) = Over x l × Climbs l

module _ {A : Type 0} (below : A → A → Bool) (carries : (x y z : A) → below x y ≡ true → below y z ≡ true → below x z ≡ true) where
  pub over-trans : (x y : A) (l : List A) → below x y ≡ true → Over below y l → Over below x l
  over-trans x y [] h o = tt
  over-trans x y (z ∷ l) h o = (carries x y z h o.0, over-trans x y l h o.1)

  pub rises-climbs : (l : List A) → rises below l ≡ true → Climbs below l
  rises-climbs [] h = tt
  rises-climbs (x ∷ []) h = (tt, tt)
  rises-climbs (x ∷ y ∷ l) h =
      let a = and_l (below x y) (rises below (y ∷ l)) h in
      let c = rises-climbs (y ∷ l) (and_r (below x y) (rises below (y ∷ l)) h) in
      ((a, over-trans x y l a c.0), c)

pub climbs-rises : {A : Type 0} (below : A → A → Bool) (l : List A) → Climbs below l → rises below l ≡ true
climbs-rises below [] c = refl
climbs-rises below (x ∷ []) c = refl
climbs-rises below (x ∷ y ∷ l) c = and_in c.0.0 (climbs-rises below (y ∷ l) c.1)

-- ---- numbers ----

pub below-trans : (x y z : ℕ) → ltb x y ≡ true → ltb y z ≡ true → ltb x z ≡ true
below-trans x y z h k = let a = ltb-true x y h in let b = ltb-true y z k in lt-ltb x z (omega arith)

pub climbs-rising : (l : List ℕ) → Climbs ltb l → Rising l
climbs-rising [] c = tt
climbs-rising (x ∷ l) c = (above l c.0, climbs-rising l c.1)
  where
    above : (l : List ℕ) → Over ltb x l → Above x l
    above [] o = tt
    above (y ∷ l) o = (ltb-true x y o.0, above l o.1)

rising-climbs : (l : List ℕ) → Rising l → Climbs ltb l
rising-climbs [] r = tt
rising-climbs (x ∷ l) r = (over l r.0, rising-climbs l r.1)
  where
    over : (l : List ℕ) → Above x l → Over ltb x l
    over [] a = tt
    over (y ∷ l) a = (lt-ltb x y a.0, over l a.1)

pub rises-rising : (l : List ℕ) → rises ltb l ≡ true → Rising l
rises-rising l h = climbs-rising l (rises-climbs ltb below-trans l h)

pub rising-rises : (l : List ℕ) → Rising l → rises ltb l ≡ true
rising-rises l r = climbs-rises ltb l (rising-climbs l r)
