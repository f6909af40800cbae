-- Writing: a record, laid out, is each row as it is there, with its value.
-- Assumes nothing.
use Rattle.std.specs.Prelude.{ℕ, ◌+◌, ◌-◌, Bool, cond, ◌&&◌, ◌||◌, leb, ltb, eqb, get_or}
use mathlib.Core.List.{List, [], ◌∷◌, ◌++◌, tail}
use Rattle.refusal.specs.Number.{number_of}
use Rattle.bits.specs.Bits.{digits}
use Rattle.layout.specs.Row.{Row, there}

pub record Laid : Type 0 where
  pub row : Row
  pub val : ℕ

-- a row whose place can hold nothing but 0 carries nothing (the M-bit, the rows of no bits): its place is not looked at
abbrev pub idle : Row → Bool
idle r = eqb r.first 0 && leb r.codes 1

abbrev pub held : Row → ℕ → ℕ
held r v = cond (idle r) 0 v

-- the rows that are left, after the places that are done; places that are not used are not looked at
unfoldable pub lay : List Row → List ℕ → List ℕ → List Laid
lay [] done s = []
lay (r ∷ rows) done s =
    let here = there done r in
    let v = held here (get_or s 0 0) in
    record { row = here; val = v } ∷ lay rows (done ++ (v ∷ [])) (tail s)

-- the value has a code
abbrev pub good : Laid → Bool
good x = leb x.row.first x.val && ltb x.val (x.row.first + x.row.codes)

-- good, or only without a group
abbrev pub good_but_group : Laid → Bool
good_but_group x = good x || eqb (number_of x.row.refusal) 5

unfoldable pub vals : List Laid → List ℕ
vals [] = []
vals (x ∷ xs) = x.val ∷ vals xs

unfoldable pub emit : List Laid → List Bool
emit [] = []
emit (x ∷ xs) = digits x.row.width (x.val - x.row.first) ++ emit xs
