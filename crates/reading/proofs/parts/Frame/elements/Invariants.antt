-- `Frame::elements` meets its contract. The loop's invariant: the rest, read from here, is what the whole is read as.
-- Assumes nothing.
use Rattle.reading.specs.Reads.{bits_in}
use Rattle.reading.proofs.Going.{Going}
use Rattle.reading.proofs.parts.Frame.elements.Given as goal

abbrev pub invariant-loop-element : goal.invariant-loop-element
invariant-loop-element l = Going l.fn.kind (bits_in l.self) l.from l.into.values l.at l.into.place l.element-index
