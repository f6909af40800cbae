-- `Frame::shape` meets its contract, shape by shape.
-- Assumes nothing.
use mathlib.Core.Path.{refl, ap, sym, ◌∙◌, subst}
use mathlib.Core.List.{List, [], ◌∷◌}
use native.Mathlib.Omega.{arith}
use Rattle.std.proofs.lemmas.Result.{on_ok_weaker}
use Rattle.layout.specs.Row.{Row}
use Rattle.layout.specs.Shape.{rows_of, span}
use Rattle.table.specs.Fields.{row_for, Narrow}
use Rattle.table.proofs.Absent.{length-shape}
use Rattle.table.proofs.FieldLaws.{number-row, number-narrow, choice-narrow}
use Rattle.table.proofs.ShapeLaws.{sound-number, sound-choice, sound-missing, list-room, span-some}
use Rattle.reading.specs.Reads.{bits_in, Fills}
use Rattle.reading.proofs.RefusalLaws.{shape-missing, shape-nothing}
use Rattle.reading.proofs.FillLaws.{fills}
use Rattle.reading.proofs.parts.Frame.shape.Goals as goal

pub field-requires : goal.field-requires
field-requires c =
    let f = sound-number c.args.shape c.args.into.now.place _ c.in-Number.is c.requires.1 in
    (omega (arith, span-some c.args.shape), subst Narrow (sym c.number.ensures) (number-narrow _ f.0 f.1))

pub field-requires-in-Choice : goal.field-requires-in-Choice
field-requires-in-Choice c =
    let f = sound-choice c.args.shape c.args.into.now.place _ _ c.in-Choice.is c.requires.1 in
    (omega (arith, span-some c.args.shape), subst Narrow (sym c.choice.ensures) (choice-narrow _ f.0 f.1 _ (omega arith)))

pub field-requires-in-Ending : goal.field-requires-in-Ending
field-requires-in-Ending c =
    (omega (arith, span-some c.args.shape), record { some = omega arith; few = omega arith; low = omega arith; plain = refl })

pub identity-requires : goal.identity-requires
unfolding span
identity-requires c = omega (arith, ap span c.in-Identity.is)

pub list-requires : goal.list-requires
list-requires c = omega (arith, list-room c.args.shape _ c.in-List.is)

pub barred-requires : goal.barred-requires
barred-requires c = omega (arith, span-some c.args.shape)

pub barred-requires-in-Nothing : goal.barred-requires-in-Nothing
barred-requires-in-Nothing c = omega (arith, span-some c.args.shape)

pub returns-in-Number : goal.returns-in-Number
unfolding rows_of
returns-in-Number c =
    let a = c.args in
    let f = sound-number a.shape a.into.now.place _ c.in-Number.is c.requires.1 in
    let row = ap (λ x. row_for x []) c.number.ensures ∙ number-row _ f.0 f.1 in
    subst (λ (rows : List Row). Fills rows (bits_in a.self) a.at a.into.now c.field.new.into c.field.result)
    (ap (λ (r : Row). r ∷ []) row ∙ sym (ap (λ s. rows_of s [] a.into.now.place) c.in-Number.is)) c.field.ensures

pub returns-in-Choice : goal.returns-in-Choice
unfolding rows_of
returns-in-Choice c =
    let a = c.args in
    subst (λ (rows : List Row). Fills rows (bits_in a.self) a.at a.into.now c.field-in-Choice.new.into c.field-in-Choice.result)
    (ap (λ x. row_for x [] ∷ []) c.choice.ensures ∙ sym (ap (λ s. rows_of s [] a.into.now.place) c.in-Choice.is)) c.field-in-Choice.ensures

pub returns-in-Identity : goal.returns-in-Identity
unfolding rows_of
returns-in-Identity c = rw c.in-Identity.is c.identity.ensures

pub returns-in-List : goal.returns-in-List
returns-in-List c = rw c.in-List.is c.list.ensures

pub returns-in-Ending : goal.returns-in-Ending
unfolding rows_of
returns-in-Ending c = rw c.in-Ending.is c.field-in-Ending.ensures

pub returns-in-Missing : goal.returns-in-Missing
unfolding span
returns-in-Missing c =
    let a = c.args in
    let one = length-shape a.shape [] a.into.now.place ∙ ap span c.in-Missing.is in
    fills a.into.now.place refl c.barred.ensures.1 refl (on_ok_weaker c.barred.result (λ m. omega (arith, m, one)) c.barred.ensures.2)
    (shape-missing a.shape _ a.at a.into.now.place a.into.now.values (omega arith) a.into.now.clear _ _ _ c.in-Missing.is
    (sound-missing a.shape a.into.now.place _ c.in-Missing.is c.requires.1) c.holds-missing.ensures c.barred.ensures.0)

pub returns-in-Nothing : goal.returns-in-Nothing
unfolding span
returns-in-Nothing c =
    let a = c.args in
    let one = length-shape a.shape [] a.into.now.place ∙ ap span c.in-Nothing.is in
    fills a.into.now.place refl c.barred-in-Nothing.ensures.1 refl
    (on_ok_weaker c.barred-in-Nothing.result (λ m. omega (arith, m, one)) c.barred-in-Nothing.ensures.2)
    (shape-nothing a.shape _ a.at a.into.now.place a.into.now.values (omega arith) a.into.now.clear _ _ _ c.in-Nothing.is
    c.nothing_since-nothing.ensures c.barred-in-Nothing.ensures.0)
