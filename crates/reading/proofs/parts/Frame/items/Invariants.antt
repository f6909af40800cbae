-- `Frame::items` meets its contract. The loop's invariant: i items are read, and the next is the record's next.
-- Assumes nothing.
use Rattle.reading.proofs.ReadLaws.{reading}
use Rattle.reading.specs.Reads.{bits_in}
use Rattle.table.proofs.ListLaws.{Listing}
use Rattle.reading.proofs.parts.Frame.items.Given as goal

abbrev pub invariant-loop-i : goal.invariant-loop-i
invariant-loop-i l = Listing (reading (bits_in l.self)) l.items l.from l.count l.initial.into.values l.into.values l.at l.into.place l.i
