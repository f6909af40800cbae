-- `store::form::Lent::written` meets its contract: where there is room and the counts are within it, the form is what the walks say.
use mathlib.Core.Path.{◌≡◌, sym, ◌∙◌}
use mathlib.Core.Bool.{true, false≢true}
use Rattle.store.specs.Lent.{contents_of}
use Rattle.store.specs.Form.{roomy}
use Rattle.store.proofs.FormLaws.{form-cut, form-over, walk-refuses, walks-tell}
use Rattle.store.proofs.form.Lent.written.Goals as goal

pub returns-then-not-roomy : goal.returns-then-not-roomy
returns-then-not-roomy c =
    let x = contents_of c.args.self in
    (sym (form-cut x (sym c.roomy.ensures ∙ c.if-not-roomy.true)), λ e. absurd (false≢true e))

pub returns-then-not-within : goal.returns-then-not-within
returns-then-not-within c =
    let x = contents_of c.args.self in
    let r : roomy x ≡ true = sym c.roomy.ensures ∙ c.if-not-roomy.false in
    (sym (form-over x r c.if-not-within.true), λ e. absurd (false≢true e))

pub returns-then-groups_ok : goal.returns-then-groups_ok
returns-then-groups_ok c =
    let x = contents_of c.args.self in
    let r : roomy x ≡ true = sym c.roomy.ensures ∙ c.if-not-roomy.false in
    walks-tell x r c.if-not-within.false c.group_rows-groups.result.now c.group_rows-groups.ensures c.pair_rows.result.now c.pair_rows.ensures
    c.if-groups_ok.ensures c.pairs_ok.result c.pairs_ok.ensures

pub returns-else-groups_ok : goal.returns-else-groups_ok
returns-else-groups_ok c =
    let x = contents_of c.args.self in
    let r : roomy x ≡ true = sym c.roomy.ensures ∙ c.if-not-roomy.false in
    let f = walk-refuses x r c.if-not-within.false c.group_rows-groups.result.now c.group_rows-groups.ensures c.groups_ok.result c.groups_ok.ensures.0
    c.if-groups_ok.false in
    (c.if-groups_ok.false ∙ f, λ e. absurd (false≢true (sym c.if-groups_ok.false ∙ e)))
