-- `writing::walk::Walk::extension` meets its contract: the row is there under form 3.
-- Assumes nothing.
use Rattle.std.proofs.Common.{arith}
use Rattle.writing.proofs.Identities.{extension-there, no-extension}
use Rattle.writing.proofs.walk.Walk.extension.Goals as goal

pub returns-then-self-place-eq3-clause-writes : goal.returns-then-self-place-eq3-clause-writes
returns-then-self-place-eq3-clause-writes g c =
    extension-there c.args.place (omega (arith, c.requires.room)) c.if-self-place-eq3.true c.field.ensures.passes

pub returns-else-self-place-eq3-clause-writes : goal.returns-else-self-place-eq3-clause-writes
returns-else-self-place-eq3-clause-writes g c =
    no-extension c.args.place (omega (arith, c.requires.room)) _ c.if-self-place-eq3.false
