-- `reading::parts::Filling::new` meets its contract: every place holds 0.
-- Assumes nothing.
use Rattle.table.proofs.Walks.{clear_none}
use Rattle.reading.proofs.parts.Filling.new.Goals as goal

pub invariant_of-result : goal.invariant_of-result
invariant_of-result c = record { clear = clear_none 166 0 }
