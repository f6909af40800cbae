-- `handing::handover_fault` meets its contract.
use mathlib.Core.Path.{sym, subst, ◌∙◌}
use Rattle.std.proofs.lemmas.Result.{err_from_is_err_and}
use Rattle.store.specs.Lent.{contents_of}
use Rattle.std.proofs.Common.{rules}
use Rattle.replies.specs.Orders.{Judges}
use Rattle.order.specs.Steps.{handover_step}
use Rattle.handing.proofs.Handing.{form-refused, owned-judged}
use Rattle.handing.proofs.refusing.handover_fault.Goals as goal

-- past the first test the contents that are lent are in the written form
pub returns-in_err-form_fault : goal.returns-in_err-form_fault
returns-in_err-form_fault c =
    let a = c.args in
    let e = err_from_is_err_and c.from_residual.result c.from_residual.ensures.1 in
    rw (e.1, e.2)
    (form-refused (contents_of a.lent) (c.written.ensures.1 c.if-not-written.false) a.asker a.group a.owners _
    (sym c.in_err-form_fault.was ∙ c.form_fault.ensures))

-- past the second it is judged by whose the group is, and what is told of that is handed back
pub returns : goal.returns
returns c =
    let a = c.args in
    subst (Judges (contents_of a.lent) (handover_step a.asker a.group a.owners)) (search rules)
    (owned-judged (contents_of a.lent) (c.written.ensures.1 c.if-not-written.false) a.asker a.group a.owners
    (sym c.in_ok-form_fault.was ∙ c.form_fault.ensures) _ _ _ c.group_rows.ensures c.group_in-key.ensures c.from.ensures _ c.owned_by.ensures)
