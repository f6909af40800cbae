-- `Frame::listed` meets its contract: the item is there where the count says so.
-- Assumes nothing.
use Rattle.std.proofs.lemmas.Result.{on_ok_weaker}
use mathlib.Core.Path.{refl}
use native.Mathlib.Omega.{arith}
use mathlib.Core.List.{[], ◌∷◌}
use Rattle.layout.specs.Row.{at_least}
use Rattle.layout.specs.Shape.{least}
use Rattle.reading.specs.Reads.{bits_in}
use Rattle.reading.proofs.ReadLaws.{reading}
use Rattle.reading.proofs.FillLaws.{fills}
use Rattle.table.proofs.ListLaws.{item_on, item-off}
use Rattle.table.proofs.Absent.{length-item}
use Rattle.reading.proofs.parts.Frame.listed.Goals as goal

pub returns-then-least_for-into : goal.returns-then-least_for-into
returns-then-least_for-into c =
    let a = c.args in
    let hang = at_least a.count (least a.items a.i) ∷ [] in
    fills _ refl refl refl (on_ok_weaker c.item.result (λ m. omega (arith, m, length-item a.items [] a.into.now.place, length-item a.items hang a.into.now.place)) c.item.ensures.moved)
    (item_on (reading (bits_in a.self)) a.items a.count a.into.now.place _ a.into.now.values c.requires.0 a.at _ _
    (omega (arith, c.least_for.ensures)) c.item.ensures.reads)

pub returns-else-least_for-into : goal.returns-else-least_for-into
returns-else-least_for-into c =
    let a = c.args in
    let hang = at_least a.count (least a.items a.i) ∷ [] in
    fills _ refl c.skip.ensures.0 refl (omega (arith, c.skip.ensures.1, c.stride_of.ensures, length-item a.items hang a.into.now.place))
    (item-off (reading (bits_in a.self)) a.items a.count a.into.now.place _ a.into.now.values c.requires.0 a.at
    (omega (arith, c.least_for.ensures)) a.into.now.clear (omega arith))
