-- `Frame::element` meets its contract: the shape's rows under the element's conditions, or none of them.
-- Assumes nothing.
use mathlib.Core.Path.{◌≡◌, refl, sym, ◌∙◌}
use mathlib.Core.List.{[]}
use lib.ListN.{length}
use native.Mathlib.Omega.{arith}
use Rattle.std.proofs.lemmas.Result.{on_ok_weaker}
use Rattle.layout.specs.Shape.{conditions_of, rows_of}
use Rattle.table.proofs.Absent.{present-before, shut-element, passes, length-shape}
use Rattle.table.proofs.ShapeLaws.{shape-under}
use Rattle.reading.specs.Reads.{bits_in}
use Rattle.reading.proofs.ReadLaws.{reading}
use Rattle.reading.proofs.FillLaws.{fills}
use Rattle.reading.proofs.parts.Frame.element.Goals as goal

pub returns-then-there : goal.returns-then-there
returns-then-there c =
    let a = c.args in
    let p = a.into.now.place in
    let when = a.element.0 in
    let on = present-before when a.into.now.values p a.into.now.clear ∙ sym c.there.ensures ∙ c.if-there.true in
    let size : length (rows_of a.element.1 [] p) ≡ length (rows_of a.element.1 (conditions_of when) p) =
    length-shape a.element.1 [] p ∙ sym (length-shape a.element.1 (conditions_of when) p) in
    fills p refl refl refl (on_ok_weaker c.shape.result (λ m. omega (arith, m, size)) c.shape.ensures.moved)
    (shape-under (reading (bits_in a.self)) a.element.1 _ a.at p a.into.now.values _ _ on c.shape.ensures.reads)

pub returns-else-there : goal.returns-else-there
returns-else-there c =
    let a = c.args in
    let p = a.into.now.place in
    let when = a.element.0 in
    let size = length-shape a.element.1 (conditions_of when) p in
    let shut = shut-element when a.element.1 p a.into.now.values (sym c.there.ensures ∙ c.if-there.false) a.into.now.clear in
    fills p refl c.skip.ensures.0 refl (omega (arith, c.skip.ensures.1, c.places_of.ensures, size))
    (passes (reading (bits_in a.self)) a.at p a.into.now.values _ shut a.into.now.clear (omega (arith, size)))
