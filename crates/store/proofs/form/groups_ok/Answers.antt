-- `store::form::groups_ok` meets its contract: past the test the row is in its form, so its key is small.
use mathlib.Core.Path.{sym, ◌∙◌}
use mathlib.Core.List.{[]}
use native.Mathlib.Omega.{arith}
use lib.ListN.{get_or}
use borrow.Author.Tests.{leb-true}
use Rattle.store.proofs.Groups.{key-narrow}
use Rattle.store.proofs.form.groups_ok.Goals as goal
use Rattle.store.proofs.form.groups_ok.Goals.{then-least-row, else-least-row}

pub overflow_add-least : goal.overflow_add-least
overflow_add-least c =
    let row = get_or c.args.groups.now c.loop-row.row-index [] in
    elim c.if-least-row.branch [
      | then-least-row w ↦ (let small = key-narrow row (sym w.group_ok-fine.ensures.0 ∙ sym w.fine-is ∙ c.if-not-fine.false) in omega arith)
      | else-least-row w ↦ (let low = leb-true c.loop-row.least (get_or row 0 0) (sym w.fine-is ∙ c.if-not-fine.false) in absurd (omega (arith, w.if-least-row.false)))
    ]
