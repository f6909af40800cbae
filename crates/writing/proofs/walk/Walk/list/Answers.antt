-- `writing::walk::Walk::list` meets its contract: the count, then the items.
-- Assumes nothing.
use Rattle.std.proofs.Common.{arith}
use Rattle.writing.proofs.LayLists.{list-then, list-bad}
use Rattle.writing.proofs.Parts.{goes_on, goes-off}
use Rattle.writing.proofs.walk.Walk.list.Goals as goal

pub returns-clause-writes : goal.returns-clause-writes
returns-clause-writes g c =
    list-then c.args.items _ _ c.count_field.ensures c.field.ensures.passes (omega (arith, c.requires.room))
    (goes_on c.in_ok-field.was) (rw c.field.ensures.stays.0 at c.items.ensures.writes)

pub returns-in_err-field-clause-writes : goal.returns-in_err-field-clause-writes
returns-in_err-field-clause-writes g c =
    rw c.from_residual.ensures
    (list-bad c.args.items _ _ c.count_field.ensures c.field.ensures.passes (omega (arith, c.requires.room))
    (goes-off _ c.in_err-field.was))
