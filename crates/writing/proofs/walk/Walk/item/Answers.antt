-- `writing::walk::Walk::item` meets its contract: an identity, or a letter.
-- Assumes nothing.
use Rattle.std.proofs.Common.{◌<◌, refl, ap, arith}
use Rattle.layout.specs.Shape.{stride}
use Rattle.layout.specs.Frame.{places}
use Rattle.writing.proofs.Parts.{field-writes}
use Rattle.writing.proofs.walk.Walk.item.Goals as goal

pub returns-in-Letters-clause-writes : goal.returns-in-Letters-clause-writes
returns-in-Letters-clause-writes g c =
    let inside : c.args.place < places = omega (arith, c.requires.room, ap stride c.in-Letters.is) in
    rw c.in-Letters.is (field-writes c.field.ensures.passes inside refl)
