-- `writing::walk::Walk::shape` meets its contract, shape by shape.
-- Assumes nothing.
use Rattle.std.proofs.Common.{◌≡◌, ℕ, le-leb, rules, tests, ◌+◌, Bool, leb, Option, Some, None, MatchOption, IsTrue, add-one, ◌∙◌, sym, ap, subst, arith}
use Prim.Native.Nat.compare
use Rattle.layout.specs.Shape.{span}
use Rattle.table.specs.Fields.{Narrow}
use Rattle.table.proofs.FieldLaws.{number-narrow, choice-narrow}
use Rattle.table.proofs.ShapeLaws.{sound-number, sound-choice, list-room}
use Rattle.writing.specs.Found.{behind}
use Rattle.writing.proofs.Parts.{ready-most, ready-few}
use Rattle.writing.proofs.LayShapes.{first-inside}
use Rattle.writing.proofs.FoundShapes.{number-found, choice-found, identity-found, list-found, ending-found, missing-found, nothing-found}
use Rattle.writing.proofs.walk.Walk.shape.Goals as goal

pub bounds-values-place : goal.bounds-values-place
bounds-values-place g c = first-inside c.args.shape c.requires.0

pub field-requires : goal.field-requires
field-requires g c =
    let fit = sound-number c.args.shape c.args.place _ c.in-Number.is c.requires.1 in
    (subst Narrow (sym c.number.ensures) (number-narrow _ fit.0 fit.1), ready-most c.requires.0)

pub field-requires-in-Choice : goal.field-requires-in-Choice
field-requires-in-Choice g c =
    let fit = sound-choice c.args.shape c.args.place _ _ c.in-Choice.is c.requires.1 in
    (subst Narrow (sym c.choice.ensures) (choice-narrow _ fit.0 fit.1 _ (omega arith)), ready-most c.requires.0)

pub identity-requires : goal.identity-requires
unfolding span
identity-requires g c = ready-few 4 c.requires.0 (omega (arith, ap span c.in-Identity.is))

pub list-requires : goal.list-requires
list-requires g c =
    ready-few _ c.requires.0 (omega (arith, list-room c.args.shape _ c.in-List.is))

pub returns-in-Number-clause-puts : goal.returns-in-Number-clause-puts
returns-in-Number-clause-puts g c =
    number-found _ (first-inside _ c.requires.0) _ _ c.in-Number.is c.requires.1 c.number.ensures c.field.ensures.passes c.found.ensures

pub returns-in-Choice-clause-puts : goal.returns-in-Choice-clause-puts
returns-in-Choice-clause-puts g c =
    choice-found _ (first-inside _ c.requires.0) _ _ _ c.in-Choice.is c.choice.ensures c.field-in-Choice.ensures.passes c.found-in-Choice.ensures

pub returns-in-Identity-clause-puts : goal.returns-in-Identity-clause-puts
returns-in-Identity-clause-puts g c =
    identity-found _ (first-inside _ c.requires.0) _ c.in-Identity.is c.identity.ensures.writes c.found-in-Identity.ensures

pub returns-in-List-clause-puts : goal.returns-in-List-clause-puts
returns-in-List-clause-puts g c =
    list-found _ (first-inside _ c.requires.0) _ _ c.in-List.is c.list.ensures.writes c.found-in-List.ensures

pub returns-in-Ending-clause-puts : goal.returns-in-Ending-clause-puts
returns-in-Ending-clause-puts g c =
    ending-found _ (first-inside _ c.requires.0) _ c.in-Ending.is c.field-in-Ending.ensures.passes c.found-in-Ending.ensures

pub returns-in-Missing-clause-puts : goal.returns-in-Missing-clause-puts
returns-in-Missing-clause-puts g c =
    missing-found _ (first-inside _ c.requires.0) _ c.in-Missing.is c.requires.1 c.holds-missing.ensures c.barred.ensures

-- nothing has come since an O-bit where the last place that holds something is not behind it
none_or : (last : Option ℕ) (r : Bool) (o : ℕ) (Q : ℕ → Type 0) → MatchOption last (IsTrue r) Q → ((held : ℕ) → Q held → r ≡ leb held o)
    → r ≡ leb (behind last) (o + 1)
none_or None r o Q h f = h ∙ sym (le-leb 0 (o + 1) (omega arith))
none_or (Some held) r o Q h f = f held h ∙ rw (add-one held, add-one o, compare.suc-suc)

pub returns-in-Nothing-clause-puts : goal.returns-in-Nothing-clause-puts
returns-in-Nothing-clause-puts g c =
    nothing-found _ (first-inside _ c.requires.0) _ c.in-Nothing.is
    (none_or c.args.last _ _ _ c.is_none_or-nothing.ensures (λ held q. search (rules, tests))) c.barred-in-Nothing.ensures
