-- `asking::ask_fault` meets its contract: past the tests the contents are in their form, and the numbers in their ranges.
use mathlib.Core.Path.{sym, ◌∙◌}
use Rattle.store.specs.Lent.{contents_of}
use Rattle.asking.proofs.Asking.{asked-owned}
use Rattle.asking.proofs.ask_fault.Goals as goal

pub returns : goal.returns
returns c =
    let a = c.args in
    asked-owned (contents_of a.lent) a.asker a.group (c.written.ensures.1 c.if-not-written.false)
    (sym c.wide_radio.ensures ∙ c.if-wide_radio.false) (sym c.wide_group.ensures ∙ c.if-wide_group.false)
    _ _ _ c.group_rows.ensures c.from.ensures c.from-2.ensures _ c.owned_by.ensures
