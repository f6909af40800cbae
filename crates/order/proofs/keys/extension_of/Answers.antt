-- `order::extension_of` meets its contract.
use mathlib.Core.Path.{refl}
use Rattle.rules.specs.Number.{extension_of}
use Rattle.order.proofs.keys.extension_of.Goals as goal

pub returns : goal.returns
unfolding extension_of
returns c = refl
