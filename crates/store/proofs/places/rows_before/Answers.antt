-- `store::places::rows_before` meets its contract: the place sought among the rows left is the place among all.
use mathlib.Core.Path.{sym, ◌∙◌}
use native.Mathlib.Omega.{arith}
use Rattle.store.proofs.HalvingLaws.{sought-first, sought-behind, sought-before, sought-last}
use Rattle.store.proofs.places.rows_before.Goals as goal

pub loop-left-init : goal.loop-left-init
loop-left-init g c = let row = g.R.Row in sought-first row.below row.item_of c.args.rows.now (row.number_of c.args.key)

pub loop-left-preserved-then-is_before : goal.loop-left-preserved-then-is_before
loop-left-preserved-then-is_before g c =
    let row = g.R.Row in
    sought-behind row.below row.item_of c.args.rows.now (row.number_of c.args.key) _ _ (omega arith) c.loop-left.invariant
    _ c.index-rows-from.is (sym c.is_before.ensures ∙ c.if-is_before.true)

pub loop-left-preserved : goal.loop-left-preserved
loop-left-preserved g c =
    let row = g.R.Row in
    sought-before row.below row.item_of c.args.rows.now (row.number_of c.args.key) _ _ (omega arith) c.loop-left.invariant
    _ c.index-rows-from.is (sym c.is_before.ensures ∙ c.if-is_before.false)

pub returns : goal.returns
returns g c =
    let row = g.R.Row in
    sought-last row.below row.item_of c.args.rows.now (row.number_of c.args.key) _ _ c.loop-left-test.false c.loop-left.invariant
