-- Marks by computation, in states 0 to 7: which are under T1; and "states 0 to 6, ticks 0 to 29 in 1 and 4, else 0".
use Prim.Native.Nat.{ℕ}
use mathlib.Core.Path.{◌≡◌, refl}
use mathlib.Core.Bool.{Bool, true, false}
use mathlib.Core.List.{List, [], ◌∷◌, map}
use Rattle.rules.specs.Mark.{timed}
use Rattle.rules.specs.Written.{good_mark}

abbrev states : List ℕ
states = 0 ∷ 1 ∷ 2 ∷ 3 ∷ 4 ∷ 5 ∷ 6 ∷ 7 ∷ []

-- 1 and 4 alone; all but 7; no state
abbrev one_and_four : List Bool
one_and_four = false ∷ true ∷ false ∷ false ∷ true ∷ false ∷ false ∷ false ∷ []

abbrev all_but_seven : List Bool
all_but_seven = true ∷ true ∷ true ∷ true ∷ true ∷ true ∷ true ∷ false ∷ []

abbrev no_state : List Bool
no_state = false ∷ false ∷ false ∷ false ∷ false ∷ false ∷ false ∷ false ∷ []

-- the states in which a mark with so many ticks is good
abbrev good_with : ℕ → List Bool
good_with n = map (λ (s : ℕ). good_mark (record { state = s; ticks = n })) states

pub under-timer : map timed states ≡ one_and_four
under-timer = refl

pub with-no-tick : good_with 0 ≡ all_but_seven
with-no-tick = refl

pub with-one-tick : good_with 1 ≡ one_and_four
with-one-tick = refl

pub with-29-ticks : good_with 29 ≡ one_and_four
with-29-ticks = refl

pub with-30-ticks : good_with 30 ≡ no_state
with-30-ticks = refl
