-- Tests: by cases on a Bool, what `&&`, `||` and `not` say, and a test over what is made of each element.
use mathlib.Core.Path.{◌≡◌, refl, sym, ap}
use mathlib.Core.Bool.{Bool, true, false, not, ◌&&◌, ◌||◌}
use mathlib.Core.List.{List, [], ◌∷◌, map}
use Rattle.rules.specs.Lists.{any}

pub split {ℓ} : {P : Type ℓ} (t : Bool) → (t ≡ true → P) → (t ≡ false → P) → P
split true yes' no' = yes' refl
split false yes' no' = no' refl

pub clash {ℓ} : {P : Type ℓ} → true ≡ false → P
clash e = absurd (mathlib.Core.Bool.true≢false e)

-- two tests that pass together are one
pub both_ways : (a b : Bool) → (a ≡ true → b ≡ true) → (b ≡ true → a ≡ true) → a ≡ b
both_ways true b h k = sym (h refl)
both_ways false true h k = k refl
both_ways false false h k = refl

pub and-false : (b : Bool) → (b && false) ≡ false
and-false true = refl
and-false false = refl

pub and-true : (b : Bool) → (b && true) ≡ b
and-true true = refl
and-true false = refl

pub or_assoc : (a b c : Bool) → (a || (b || c)) ≡ ((a || b) || c)
or_assoc true b c = refl
or_assoc false b c = refl

pub or_swap : (a b c : Bool) → (a || (b || c)) ≡ (b || (a || c))
or_swap true true c = refl
or_swap true false c = refl
or_swap false true c = refl
or_swap false false c = refl

pub and_in : {a b : Bool} → a ≡ true → b ≡ true → (a && b) ≡ true
and_in p q = cc

pub and_l : (a b : Bool) → (a && b) ≡ true → a ≡ true
and_l true b e = refl
and_l false b e = e

pub and_r : (a b : Bool) → (a && b) ≡ true → b ≡ true
and_r true b e = e
and_r false b e = clash (sym e)

pub or-second : (a b : Bool) → b ≡ true → (a || b) ≡ true
or-second true b e = refl
or-second false b e = e

pub or-in : (a b : Bool) → a ≡ false → b ≡ false → (a || b) ≡ false
or-in a b p q = cc

pub or_l : (a b : Bool) → (a || b) ≡ false → a ≡ false
or_l true b e = e
or_l false b e = refl

pub or_r : (a b : Bool) → (a || b) ≡ false → b ≡ false
or_r true b e = clash e
or_r false b e = e

pub not_in : (a : Bool) → a ≡ false → not a ≡ true
not_in a p = cc

-- a test over what is made of each element
pub any-map : {A B : Type 0} (p : B → Bool) (f : A → B) (l : List A) → any (λ x. p (f x)) l ≡ any p (map f l)
any-map p f [] = refl
any-map p f (x ∷ l) = ap (λ b. p (f x) || b) (any-map p f l)
