-- `store::places::rows_before` meets its contract: the place sought among the rows left is the place among all.
use Rattle.store.proofs.HalvingLaws.{Sought}
use Rattle.store.proofs.places.rows_before.Given as goal

abbrev pub invariant-loop-left : goal.invariant-loop-left
invariant-loop-left g l = let row = g.R.Row in Sought row.below row.item_of l.rows (row.number_of l.key) l.from l.left

abbrev pub decreases-loop-left : goal.decreases-loop-left
decreases-loop-left g l = l.left
