-- `Frame::field` meets its contract: what the field holds is the row's turn.
-- Assumes nothing.
use mathlib.Core.Path.{◌≡◌, refl, ap, sym, ◌∙◌}
use Rattle.std.specs.Prelude.{Some, None, Err}
use native.Mathlib.Omega.{arith}
use Rattle.reading.proofs.ReadLaws.{field_end, field-good, field-bad, field-short}
use Rattle.reading.proofs.FillLaws.{fills, left_by}
use Rattle.reading.proofs.parts.Frame.field.Goals as goal

pub overflow_add-result : goal.overflow_add-result
overflow_add-result c =
    let a = c.args in
    let is : c.field_from-found.result ≡ Some c.in_ok-code.code = grind arith in
    let e = field_end a.field a.self.bytes.now a.self.bits a.at a.into.now.place a.into.now.values a.self.lent c.requires.1 _
    (sym is ∙ c.field_from-found.ensures) in
    omega (arith, e)

pub returns-in_err-code : goal.returns-in_err-code
returns-in_err-code c =
    let a = c.args in
    let is : c.field_from-found.result ≡ None = grind arith in
    fills a.into.now.place refl refl (left_by c.from_residual.result c.from_residual.ensures.1 ∙ sym c.in_err-code.was ∙ cc) tt
    (field-short a.field a.self.bytes.now a.self.bits a.at a.into.now.place a.into.now.values a.self.lent c.requires.1 (omega arith)
    (sym is ∙ c.field_from-found.ensures))

pub returns-then-field-code : goal.returns-then-field-code
returns-then-field-code c =
    let a = c.args in
    let is : c.field_from-found.result ≡ Some c.in_ok-code.code = grind arith in
    fills a.into.now.place refl refl (ap Err c.refused-then-field-code.ensures) tt
    (field-bad a.field a.self.bytes.now a.self.bits a.at a.into.now.place a.into.now.values a.self.lent c.requires.1 (omega arith) _
    (sym is ∙ c.field_from-found.ensures) c.if-field-code.true)

pub returns : goal.returns
returns c =
    let a = c.args in
    let is : c.field_from-found.result ≡ Some c.in_ok-code.code = grind arith in
    fills a.into.now.place refl c.push.ensures.0 refl c.push.ensures.1
    (field-good a.field a.self.bytes.now a.self.bits a.at a.into.now.place a.into.now.values a.self.lent c.requires.1 (omega arith) _
    (sym is ∙ c.field_from-found.ensures) c.if-field-code.false)
