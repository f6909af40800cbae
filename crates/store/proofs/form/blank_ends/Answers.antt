-- `store::blank_ends` meets its contract.
use mathlib.Core.Path.{sym, ◌∙◌}
use Rattle.store.proofs.Groups.{ends-blank, tidy-row}
use borrow.Author.Rules.{rules}
use Rattle.store.proofs.form.blank_ends.Goals as goal

pub returns : goal.returns
returns c =
    let row = c.args.row.now in
    let t = ends-blank row (search rules) c.large.result c.large-2.result c.requires.0 c.requires.1
    c.large.ensures c.large-2.ensures in
    (t, λ e. tidy-row row (search rules) (sym t ∙ e))
