-- `house::value_of` meets its contract: the table holds the value of each character at its place.
use mathlib.Core.Path.{refl}
use native.Mathlib.Omega.{arith}
use Rattle.house.specs.Hex.{digit_value}
use Rattle.house.proofs.Hex.{table_at}
use Rattle.house.proofs.value_of.Goals as goal

pub returns : goal.returns
unfolding digit_value
returns c = table_at digit_value 256 refl c.from.ensures (omega arith)
