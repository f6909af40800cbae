-- `sending::push_rows` meets its contract.
use lib.ListN.{length-set}
use Rattle.sending.proofs.Pushing.{push-turn}
use Rattle.sending.proofs.push_rows.Goals as goal

pub loop-i-preserved : goal.loop-i-preserved
loop-i-preserved c =
    let a = c.args in
    let l = c.loop-i in (
      simp length-set l.invariant.0,
      push-turn a.radios.now l.out a.out.now a.at a.kind a.group.0 l.i c.loop-i-test.true c.requires l.invariant.1 _ c.order_row.ensures,
    )
