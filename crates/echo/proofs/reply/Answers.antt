-- `echo::reply` puts the reply to the line and a newline at the front.
use native.Mathlib.Omega.{arith}
use Rattle.echo.proofs.Replies.{reply-counted, reply-stored}
use Rattle.echo.proofs.reply.Goals as goal

pub returns : goal.returns
returns c =
    let given = c.args in
    let answered = c.echo_line-count in
    let counted = reply-counted given.line.now given.out.now answered.new.out answered.result (omega arith) answered.ensures in
    let stored = reply-stored given.line.now given.out.now answered.new.out answered.result (omega arith) answered.ensures in
    record { upper_bound = (omega arith, counted); out_after = stored }
