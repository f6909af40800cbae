-- `echo::line_end` finds the first newline.
use Rattle.echo.proofs.Lines.{newline-found}
use Rattle.echo.proofs.line_end.Goals as goal

pub returns-clause-first : goal.returns-clause-first
returns-clause-first c = newline-found _ _ c.memchr.ensures
