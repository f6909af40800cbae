-- `echo::Output::answer` puts the reply behind what is filled, where it fits.
use native.Mathlib.Omega.{arith}
use Rattle.echo.specs.Reply.{reply_to}
use Rattle.echo.proofs.Replies.{part-stored, waits, none-waits}
use Rattle.echo.proofs.Output.answer.Goals as goal

pub returns-then-filled-le-BUFFER-clause-stored : goal.returns-then-filled-le-BUFFER-clause-stored
returns-then-filled-le-BUFFER-clause-stored g c =
    let out = c.args.self.now in
    part-stored out.bytes (reply_to c.args.line.now) _ out.filled 65536 (omega arith) (omega arith) c.reply-count.ensures.out_after

pub returns-clause-stored : goal.returns-clause-stored
returns-clause-stored g c =
    let out = c.args.self.now in
    part-stored out.bytes (reply_to c.args.line.now) _ out.filled 65536 (omega arith) (omega arith) c.reply-count.ensures.out_after

pub returns-then-filled-le-BUFFER-clause-emptied : goal.returns-then-filled-le-BUFFER-clause-emptied
returns-then-filled-le-BUFFER-clause-emptied g c =
    waits _ _ _ c.reply-count.ensures.upper_bound.1 c.if-filled-le-BUFFER.true

pub returns-clause-emptied : goal.returns-clause-emptied
returns-clause-emptied g c =
    none-waits _ _ _ c.reply-count.ensures.upper_bound.1 c.if-filled-le-BUFFER.false
