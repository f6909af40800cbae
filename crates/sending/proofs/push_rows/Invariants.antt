-- `sending::push_rows` meets its contract.
use mathlib.Core.Path.{◌≡◌}
use mathlib.Core.List.{map}
use lib.ListN.{length}
use lib.Seq.{paste}
use Rattle.rules.specs.Outgoing.{orders}
use Rattle.replies.specs.Sending.{order_row}
use Rattle.sending.proofs.push_rows.Given as goal

abbrev pub invariant-loop-i : goal.invariant-loop-i
invariant-loop-i l = (length l.out ≡ length l.initial.out) × (l.out ≡ paste l.initial.out l.at (map order_row (orders l.kind l.group.0 l.radios)) l.i)
