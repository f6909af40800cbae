-- `order::letter_at` meets its contract.
use mathlib.Core.Path.{◌∙◌}
use native.Mathlib.Omega.{arith}
use Rattle.order.proofs.Named.{letter-place}
use borrow.Author.Rules.{rules}
use Rattle.order.proofs.row.letter_at.Goals as goal

pub returns-then-k-name_count : goal.returns-then-k-name_count
returns-then-k-name_count c =
    let a = c.args in
    c.from.ensures ∙ letter-place a.place (search rules) a.k (omega (arith, c.name_count.ensures, c.if-k-name_count.true))
