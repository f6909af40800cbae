-- `order::name_count` meets its contract.
use mathlib.Core.Path.{sym, ◌∙◌}
use Rattle.order.proofs.Named.{name-length}
use borrow.Author.Rules.{rules}
use Rattle.order.proofs.row.name_count.Goals as goal

pub returns-then-optional : goal.returns-then-optional
returns-then-optional c =
    c.from.ensures ∙ c.min.ensures ∙ name-length c.args.place (search rules) (sym c.optional.ensures ∙ c.if-optional.true)
