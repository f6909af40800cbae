-- `Frame::elements` meets its contract. The loop's invariant: the rest, read from here, is what the whole is read as.
-- Assumes nothing.
use Prim.Native.Nat.{ℕ, ◌+◌, ◌≤◌, ◌<◌}
use mathlib.Core.Path.{◌≡◌, ap, sym, ◌∙◌, subst}
use mathlib.Core.List.{List}
use native.Mathlib.Omega.{arith}
use lib.Dec.{T}
use lib.ListN.{length, get_or}
use Rattle.std.specs.Prelude.{Err}
use Rattle.std.proofs.lemmas.Result.{IfOk-at_ok}
use Rattle.layout.specs.declared.Element.{Element}
use Rattle.layout.specs.declared.When.TheVariants.{Always}
use Rattle.layout.specs.declared.Shape.TheVariants.{Number}
use Rattle.layout.specs.Frame.{places, as_reading}
use Rattle.layout.specs.Kinds.{table_of}
use Rattle.layout.specs.Shape.{conditions_of, rows_of, span}
use Rattle.table.specs.Sound.{sound}
use Rattle.table.proofs.Absent.{length-shape}
use Rattle.table.proofs.TableLaws.{element-room, element-sound}
use Rattle.reading.specs.Reads.{bits_in, recorded, Reads}
use Rattle.reading.proofs.ReadLaws.{whole_length}
use Rattle.reading.proofs.FillLaws.{left_by}
use Rattle.reading.proofs.Going.{Going, going-none, turn-next, turn-stop, going-over, going_end}
use Rattle.reading.proofs.parts.Frame.elements.Goals as goal

-- what stands past the end of a table, as the loop has it; in the answers `list` says that the loop's elements are the kind's table
abbrev past : Element
past = (Always, Number 0)

pub loop-element-init : goal.loop-element-init
loop-element-init c = rw (c.requires.0, c.requires.1) (going-none c.args.kind _ c.args.from)

pub element-requires : goal.element-requires
element-requires c =
    let l = c.loop-element in
    let list = c.table_of-element-items.ensures in
    let inside : l.element-index < length (table_of c.args.kind) = omega (arith, ap length list, c.loop-element-test.true) in (
      subst (λ (es : List Element). l.into.place + span (get_or es l.element-index past).1 ≤ places) (sym list) (element-room past l.invariant.placed inside),
      subst (λ (es : List Element). T (sound (get_or es l.element-index past).1 l.into.place)) (sym list) (element-sound past l.invariant.placed inside),
    )

pub returns-in_err-at : goal.returns-in_err-at
unfolding as_reading
returns-in_err-at c =
    let l = c.loop-element in
    let list = c.table_of-element-items.ensures in
    let inside : l.element-index < length (table_of c.args.kind) = omega (arith, ap length list, c.loop-element-test.true) in
    let found = subst (λ (es : List Element). Reads (rows_of (get_or es l.element-index past).1 (conditions_of (get_or es l.element-index past).0) l.into.place)
    (bits_in c.args.self) l.at l.into.place l.into.values c.element.new.into.values c.element.result) list c.element.ensures.reads in
    ap (recorded _) (left_by c.from_residual.result c.from_residual.ensures.1)
    ∙ ap as_reading (sym (turn-stop l.invariant past inside found c.in_err-at.was))

pub loop-element-preserved : goal.loop-element-preserved
loop-element-preserved c =
    let l = c.loop-element in
    let list = c.table_of-element-items.ensures in
    let inside : l.element-index < length (table_of c.args.kind) = omega (arith, ap length list, c.loop-element-test.true) in
    let found = subst (λ (es : List Element). Reads (rows_of (get_or es l.element-index past).1 (conditions_of (get_or es l.element-index past).0) l.into.place)
    (bits_in c.args.self) l.at l.into.place l.into.values c.element.new.into.values c.element.result) list c.element.ensures.reads in
    let e = get_or c.table_of-element-items.result.now l.element-index past in
    let moved = IfOk-at_ok _ c.in_ok-at.was c.element.ensures.moved in
    let place : l.into.place + span (get_or (table_of c.args.kind) l.element-index past).1 ≡ c.element.new.into.place =
    omega (arith, moved, length-shape e.1 (conditions_of e.0) l.into.place, ap (λ (es : List Element). span (get_or es l.element-index past).1) list) in
    subst (λ (p : ℕ). Going c.args.kind (bits_in c.args.self) c.args.from c.element.new.into.values c.in_ok-at.at p (l.element-index + 1)) place
    (turn-next l.invariant past inside found c.in_ok-at.was)

pub returns-then-at-self : goal.returns-then-at-self
unfolding as_reading
returns-then-at-self c =
    let frame = c.args.self in
    let over = going-over c.loop-element.invariant (omega (arith, ap length c.table_of-element-items.ensures, c.loop-element-test.false))
    (omega (arith, whole_length frame.bytes.now frame.bits frame.lent, c.if-at-self.true)) in
    ap Err c.refused.ensures ∙ ap as_reading (sym over)

pub returns : goal.returns
returns c =
    let frame = c.args.self in
    sym (going_end c.loop-element.invariant (omega (arith, ap length c.table_of-element-items.ensures, c.loop-element-test.false))
    (omega (arith, whole_length frame.bytes.now frame.bits frame.lent, c.if-at-self.false)))
