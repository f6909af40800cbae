-- The fields of a sound shape: narrow ones, each the row that the definitions have.
-- Assumes nothing.
use Prim.Native.Nat.{ℕ, ◌%◌, ◌^◌, ◌≤◌, ◌<◌}
use mathlib.Core.Path.{◌≡◌, refl, ap}
use mathlib.Core.List.{[]}
use native.Mathlib.Nat.{mod-eq_of_lt}
use native.Mathlib.Omega.{arith}
use lib.Pow.{pow_mono}
use Rattle.layout.specs.Shape.{number}
use Rattle.table.specs.Fields.{row_for, Narrow, number_field, choice_field}

module _ (w : ℕ) (some : 0 < w) (few : w ≤ 24) where
  power : 2 ^ (w % 32) ≡ 2 ^ w
  power = ap (λ (n : ℕ). 2 ^ n) (mod-eq_of_lt (omega arith))

  pub number-row : row_for (number_field w) [] ≡ number w []
  number-row = rw power

  pub number-narrow : Narrow (number_field w)
  number-narrow =
      let small : 2 ^ w ≤ 2 ^ 24 = pow_mono few in
      record { some = some; few = omega arith; low = omega (arith, power, small); plain = refl }

  pub choice-narrow : (n : ℕ) → n < 256 → Narrow (choice_field w n)
  choice-narrow n h = record { some = some; few = omega arith; low = omega arith; plain = refl }
