-- `writing::measure_record` meets its contract: what the walk that judges finds is what is told of the record.
-- Assumes nothing.
use Rattle.writing.proofs.WriteLaws.{measures}
use Rattle.writing.proofs.measure_record.Goals as goal

pub returns : goal.returns
returns c = measures c.args.kind c.args.values.now _ _ _ c.walk_elements.ensures
