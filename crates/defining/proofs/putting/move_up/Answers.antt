-- `defining::move_up` meets its contract: where nothing new comes, nothing moves.
use mathlib.Core.Path.{◌≡◌, sym, ap, ◌∙◌}
use Prim.Native.Nat.{ℕ}
use native.Mathlib.Omega.{arith}
use Rattle.order.specs.Walks.{moved}
use Rattle.order.proofs.Moves.{moved-zero}
use Rattle.defining.proofs.Downward.{copied-moved}
use Rattle.defining.proofs.putting.move_up.Goals as goal

pub returns-then-by-gt0 : goal.returns-then-by-gt0
returns-then-by-gt0 g c = c.copy_within.ensures.after ∙ copied-moved c.args.by c.args.from c.args.to c.args.rows.now c.requires.0

pub returns-else-by-gt0 : goal.returns-else-by-gt0
returns-else-by-gt0 g c =
    let a = c.args in
    let none : 0 ≡ a.by = omega arith in
    sym (moved-zero a.to a.from a.rows.now c.requires.0 (omega (arith, c.requires.1)))
    ∙ ap (λ (n : ℕ). moved n a.from a.to a.rows.now) none
