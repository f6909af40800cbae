-- `writing::walk::Walk::listed` meets its contract: the item is there where the count says so.
-- Assumes nothing.
use Rattle.std.proofs.Common.{arith}
use Rattle.writing.proofs.Identities.{item-there, item-absent}
use Rattle.writing.proofs.walk.Walk.listed.Goals as goal

pub returns-then-least_for-self-clause-writes : goal.returns-then-least_for-self-clause-writes
returns-then-least_for-self-clause-writes g c =
    item-there c.args.items c.args.count c.args.place _ c.requires.1 c.requires.0.room
    (omega (arith, c.least_for.ensures, c.if-least_for-self.true)) c.item.ensures.writes

pub returns-else-least_for-self-clause-writes : goal.returns-else-least_for-self-clause-writes
returns-else-least_for-self-clause-writes g c =
    item-absent c.args.items c.args.count c.args.place _ c.requires.1 c.requires.0.room _
    (omega (arith, c.least_for.ensures, c.if-least_for-self.false))
