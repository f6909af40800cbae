-- `words::mark` meets its contract: where the character stands there is a place behind it.
use mathlib.Core.Path.{sym, ◌∙◌}
use native.Mathlib.Omega.{arith}
use Rattle.words.proofs.Words.{stands-within}
use Rattle.words.proofs.mark.Goals as goal

pub then-requires : goal.then-requires
then-requires c there κs captured called fits =
    let a = c.args in
    omega (arith, stands-within a.line.now a.at a.character (sym c.stands.ensures ∙ there))
