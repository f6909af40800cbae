-- `echo::echo_all` reads on with nothing left to write out.
use mathlib.Core.Path.{◌≡◌}
use Rattle.echo.proofs.echo_all.Given as goal

abbrev pub invariant-loop : goal.invariant-loop
invariant-loop g l = l.out.filled ≡ 0
