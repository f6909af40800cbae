-- `house::digit` meets its contract: the table holds the digit of each value at its place.
use mathlib.Core.Path.{refl}
use native.Mathlib.Omega.{arith}
use Rattle.house.specs.Hex.{digit_of}
use Rattle.house.proofs.Hex.{table_at}
use Rattle.house.proofs.digit.Goals as goal

pub returns : goal.returns
unfolding digit_of
returns c = table_at digit_of 16 refl c.from.ensures (omega arith)
