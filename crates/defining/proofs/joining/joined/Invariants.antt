-- `defining::joined` meets its contract: the first of those who come are entered.
use mathlib.Core.Path.{◌≡◌}
use lib.ListN.{length, take}
use Rattle.rules.specs.Owners.{max_owners}
use Rattle.order.specs.Keys.{placed, keys_held}
use Rattle.defining.proofs.Entering.{up_to}
use Rattle.defining.proofs.joining.joined.Given as goal

abbrev pub invariant-loop-owner : goal.invariant-loop-owner
invariant-loop-owner l =
    (l.key ≡ placed max_owners (up_to (take l.initial.count l.initial.key) (keys_held l.come) l.owner-index))
    × (l.count ≡ length (up_to (take l.initial.count l.initial.key) (keys_held l.come) l.owner-index))
