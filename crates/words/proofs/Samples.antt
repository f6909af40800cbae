-- A line as its readers take it, by computation: X 00000001/00000002 0800 0:1.00000005.00000000 Y N -
use mathlib.Core.Path.{◌≡◌, refl}
use mathlib.Core.List.{List, [], ◌∷◌, ◌++◌}
use Prim.Native.Nat.{ℕ}
use lib.ListN.{length, replicate}
use Rattle.std.specs.Prelude.{true, Some, None}
use Rattle.house.specs.Hex.{digit_value}
use Rattle.rules.specs.declared.AnswerKind.TheVariants.{Assignment, Deassignment}
use Rattle.order.specs.declared.GroupAsked.TheVariants.{Whole, Plain}
use Rattle.words.specs.Words.{stands_at, mark_at, enough_at, digits_at, number_at, group_at, room_at, either_at, choice_at, kind_at}
use Rattle.words.proofs.Lists.{listed}
use Rattle.words.specs.Series.{identity_with, nobody, named_at, item_at, list_from, series_at, series_or_none_at}

-- so many zeros
abbrev zeros : ℕ → List ℕ
zeros count = replicate count 48

abbrev number : List ℕ
number = 32 ∷ zeros 7 ++ 49 ∷ 47 ∷ zeros 7 ++ 50 ∷ []

abbrev room : List ℕ
room = 32 ∷ 48 ∷ 56 ∷ zeros 2

abbrev list : List ℕ
list = 32 ∷ 48 ∷ 58 ∷ 49 ∷ 46 ∷ zeros 7 ++ 53 ∷ 46 ∷ zeros 8

abbrev line : List ℕ
line = 88 ∷ number ++ room ++ list ++ 32 ∷ 89 ∷ 32 ∷ 78 ∷ 32 ∷ 45 ∷ []

pub number-sample : number_at line 1 ≡ Some (record { value = (1, 2); next = 19 })
unfolding number_at digits_at enough_at mark_at stands_at digit_value
number-sample = refl

-- a GROUP is whole where a slash stands behind its SSI, else plain
pub whole-sample : group_at line 1 ≡ Some (record { value = Whole (1, 2); next = 19 })
unfolding group_at number_at digits_at enough_at mark_at stands_at digit_value
whole-sample = refl

pub plain-sample : group_at (32 ∷ zeros 7 ++ 53 ∷ 32 ∷ []) 0 ≡ Some (record { value = Plain 5; next = 9 })
unfolding group_at digits_at enough_at mark_at stands_at digit_value
plain-sample = refl

pub room-sample : room_at line 19 ≡ Some (record { value = 2048; next = 24 })
unfolding room_at digits_at enough_at mark_at stands_at digit_value
room-sample = refl

pub list-sample : series_at line 24 ≡ listed 0 (record { form = 1; sna = 0; ssi = 5; extension = 0 } ∷ replicate 9 nobody) 46
unfolding series_at list_from item_at named_at identity_with digits_at enough_at mark_at stands_at digit_value
list-sample = refl

pub choice-sample : choice_at line 46 ≡ Some (record { value = true; next = 48 })
unfolding either_at mark_at stands_at
choice-sample = refl

-- d, and a
pub deassignment-sample : kind_at (32 ∷ 100 ∷ []) 0 ≡ Some (record { value = Deassignment; next = 2 })
unfolding either_at mark_at stands_at
deassignment-sample = refl

pub assignment-sample : kind_at (32 ∷ 97 ∷ []) 0 ≡ Some (record { value = Assignment; next = 2 })
unfolding either_at mark_at stands_at
assignment-sample = refl

pub none-sample : series_or_none_at line 50 ≡ Some (record { value = None; next = length line })
unfolding series_or_none_at mark_at stands_at
none-sample = refl

-- a lower-case digit is none: 0a
pub lower-case-sample : digits_at (48 ∷ 97 ∷ []) 0 2 ≡ None
unfolding digits_at enough_at digit_value
lower-case-sample = refl
