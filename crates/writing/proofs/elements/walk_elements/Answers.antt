-- `writing::elements::walk_elements` meets its contract. The loop's invariant: what is passed so far, and what is left.
-- Assumes nothing.
use Rattle.std.proofs.Common.{ℕ, List, sym, subst}
use Rattle.refusal.specs.declared.Refusal.{Refusal}
use Rattle.layout.specs.Write.{Laid}
use Rattle.writing.specs.Pass.{Pass}
use Rattle.writing.specs.Lay.{Lent}
use Rattle.writing.specs.Whole.{Walks}
use Rattle.layout.specs.Frame.{places}
use Rattle.std.proofs.Common.{◌≡◌, ◌+◌, ◌≤◌, Option, Some, None, Result, Err, Ok, ok_or, ap, refl, ◌∙◌, arith, rules}
use Rattle.writing.proofs.elements.walk_elements.Goals.{in-Empty, in-Held, in-NoGroup}
use Rattle.refusal.specs.declared.Refusal.TheVariants.{Reserved}
use Rattle.writing.proofs.WholeRecord.{wrote_none, wrote-bits, wrote-group}
use Rattle.writing.proofs.WholeRecord.{turn-room, turn-ready, turn-empty, turn-held, turn-missing, turn-bad}
use Rattle.writing.proofs.elements.walk_elements.Goals as goal

-- what `ok_or` makes of an element's passing
some_passed : {A E : Type 0} (o : Option A) (e : E) (r : Result A E) (x : A) → r ≡ ok_or o e → r ≡ Ok x → o ≡ Some x
some_passed (Some y) e r x p q = cc
some_passed None e r x p q = cc

none_passed : {A E : Type 0} (o : Option A) (e : E) (r : Result A E) (x : E) → r ≡ ok_or o e → r ≡ Err x → o ≡ None
none_passed (Some y) e r x p q = cc
none_passed None e r x p q = refl

-- what the pass holds at the end, it held after the last element
left_in : {A : Type 0} {pass : Pass} {laid : List Laid} {out : Lent} {r : Result ℕ Refusal} (lent : A → Lent) (x y : A) → y ≡ x
    → Walks pass laid out (lent x) r → Walks pass laid out (lent y) r
left_in {pass = pass} {laid = laid} {out = out} {r = r} lent x y e f = subst (λ (z : _). Walks pass laid out (lent z) r) (sym e) f

pub loop-element-init : goal.loop-element-init
loop-element-init g c =
    let first = c.args in
    (wrote_none g.P.Pass.pass c.args.kind _ first.values.now (g.P.Pass.lent first.pass.now) c.table_of-element-items.ensures, refl, refl)

pub overflow_add-place : goal.overflow_add-place
overflow_add-place g c =
    let room : c.loop-element.place + c.places_of-place.result ≤ places =
    rw c.places_of-place.ensures (turn-room c.loop-element.invariant.0 _ c.loop-element-test.true) in
    omega arith

pub element-requires : goal.element-requires
element-requires g c = turn-ready c.loop-element.invariant.0 _ c.loop-element-test.true

pub loop-element-preserved : goal.loop-element-preserved
loop-element-preserved g c =
    let some : c.element.result ≡ Some c.in_ok-ok_or.field-0 = some_passed _ _ _ _ c.ok_or.ensures.value c.in_ok-ok_or.was in
    let now = c.loop-element.invariant.0 in
    let less = c.loop-element-test.true in
    let puts = rw c.loop-element.invariant.1 at c.element.ensures.puts in (
      elim c.match-branch-2.branch [
        | in-Empty w ↦
            rw (w.grouped-is, w.last-is)
            (turn-empty now _ less puts c.places_of-place.ensures (some ∙ ap Some w.in-Empty.is))
        | in-Held w ↦
            rw (w.grouped-is, w.last-is)
            (turn-held now _ less puts c.places_of-place.ensures (some ∙ ap Some w.in-Held.is))
        | in-NoGroup w ↦
            rw (w.grouped-is, w.last-is)
            (turn-missing now _ less puts c.places_of-place.ensures (some ∙ ap Some w.in-NoGroup.is))
      ],
      c.element.ensures.stays.0 ∙ c.loop-element.invariant.1,
      c.element.ensures.stays.1 ∙ c.loop-element.invariant.2,
    )

pub returns-in_err-ok_or : goal.returns-in_err-ok_or
returns-in_err-ok_or g c =
    let reserved : c.from_residual.result ≡ Err Reserved = search rules in
    let none : c.element.result ≡ None = none_passed _ _ _ _ c.ok_or.ensures.value c.in_err-ok_or.was in
    let puts = rw c.loop-element.invariant.1 at c.element.ensures.puts in
    let same = c.element.ensures.stays.1 ∙ c.loop-element.invariant.2 in
    rw reserved (left_in g.P.Pass.lent _ _ (search rules) (turn-bad c.loop-element.invariant.0 _ c.loop-element-test.true puts refl none))

pub returns-then-grouped : goal.returns-then-grouped
returns-then-grouped g c =
    left_in g.P.Pass.lent _ _ (search rules)
    (wrote-bits c.loop-element.invariant.0 c.loop-element-test.false c.if-grouped.true)

pub returns-else-grouped : goal.returns-else-grouped
returns-else-grouped g c =
    left_in g.P.Pass.lent _ _ (search rules)
    (wrote-group c.loop-element.invariant.0 c.loop-element-test.false c.if-grouped.false)
