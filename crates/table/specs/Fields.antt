-- The fields that elements are made of, and the row that each is.
-- Assumes nothing.
use Rattle.std.specs.Prelude.{ℕ, ◌+◌, ◌%◌, ◌^◌, ◌≤◌, ◌<◌, ◌≡◌, false, List, eqb}
use Rattle.refusal.specs.declared.Refusal.TheVariants.{Reserved}
use Rattle.refusal.specs.Number.{number_of}
use Rattle.layout.specs.declared.Items.{Items}
use Rattle.layout.specs.Row.{Row, Condition}
use Rattle.layout.specs.Shape.{row, codes_of}
use Rattle.table.specs.declared.Field.{Field}

-- the row of a field, under conditions
abbrev pub row_for : Field → List Condition → Row
row_for f hang = row f.width f.first f.codes f.refusal 0 hang

-- a field that the code can read and write: a bit or more, in 32, values that fit, and not the row of the missing group
pub record Narrow (f : Field) : Type 0 where
  pub some : 0 < f.width
  pub few : f.width ≤ 32
  pub low : f.first + f.codes ≤ 2 ^ 32
  pub plain : eqb (number_of f.refusal) 5 ≡ false

-- a plain number of w bits; of 32 or more the codes are not told, as no table has one
abbrev pub number_field : ℕ → Field
number_field w = record { width = w; first = 0; codes = 2 ^ (w % 32); refusal = Reserved }

-- w bits of which the first n codes have a meaning
abbrev pub choice_field : ℕ → ℕ → Field
choice_field w n = record { width = w; first = 1; codes = n; refusal = Reserved }

-- a list's count
abbrev pub count_field : Items → Field
count_field items = choice_field 4 (codes_of items)
