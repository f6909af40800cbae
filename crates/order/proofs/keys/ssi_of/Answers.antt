-- `order::ssi_of` meets its contract.
use mathlib.Core.Path.{refl}
use Rattle.rules.specs.Number.{ssi_of}
use Rattle.order.proofs.keys.ssi_of.Goals as goal

pub returns : goal.returns
unfolding ssi_of
returns c = refl
