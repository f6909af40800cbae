-- `echo::answer_lines` ends, since what is left of the text gets shorter; behind each newline the same is unfinished.
use mathlib.Core.Path.{◌≡◌}
use lib.ListN.{length}
use Rattle.echo.specs.Line.{unfinished}
use Rattle.echo.proofs.answer_lines.Given as goal

abbrev pub invariant-loop-end : goal.invariant-loop-end
invariant-loop-end g l = unfinished l.rest ≡ unfinished l.text

abbrev pub decreases-loop-end : goal.decreases-loop-end
decreases-loop-end g l = length l.rest
