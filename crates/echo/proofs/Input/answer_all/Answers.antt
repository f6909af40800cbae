-- `echo::Input::answer_all` keeps the unfinished line: it lies at the end of what was read, and its start is moved to the front.
use native.Mathlib.Omega.{arith}
use Rattle.echo.specs.Room.{most_held}
use Rattle.echo.proofs.Rest.{rest-within, front_kept}
use Rattle.echo.proofs.Input.answer_all.Goals as goal

pub overflow_sub-from : goal.overflow_sub-from
overflow_sub-from g c = rest-within c.args.self.now.bytes _ c.args.end (omega arith) c.in_ok-left.ensures.left

pub returns-clause-kept : goal.returns-clause-kept
returns-clause-kept g c =
    front_kept c.args.self.now.bytes _ c.args.end (omega arith) c.in_ok-left.ensures.left
    _ _ most_held c.min-held.ensures c.copy_within.ensures.after
