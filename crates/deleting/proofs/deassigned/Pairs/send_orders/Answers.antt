-- `deleting::Pairs::send_orders` meets its contract: the orders to the groups passed stand at the front of the room.
use mathlib.Core.Path.{refl}
use mathlib.Core.List.{map}
use native.Mathlib.Omega.{arith}
use Prim.Native.Nat.{◌<◌}
use lib.ListN.{length}
use Rattle.store.specs.Storage.{pair_of}
use Rattle.deleting.specs.Deletes.{named, listed}
use Rattle.deleting.proofs.DeassignedLaws.{counted, within, sent-more}
use Rattle.deleting.proofs.deassigned.Pairs.send_orders.Goals as goal

-- the group is one of those named, and the room has place for its orders
pub push_deassigned-at-requires : goal.push_deassigned-at-requires
push_deassigned-at-requires c =
    let l = c.loop-j in
    let a = c.args in
    let inside : l.j < length (named a.asked.now) = omega (arith, c.len-j-end.ensures.value, c.loop-j-test.true) in
    let h = within a.asked.now.deassign (listed a.asked.now) (map pair_of a.self.rows.now) (named a.asked.now) l.j
    _ _ l.at inside c.at.ensures refl l.invariant.counts in
    omega (arith, h, c.requires, l.auto.out)

pub loop-j-preserved : goal.loop-j-preserved
loop-j-preserved c =
    let l = c.loop-j in
    let a = c.args in
    let e = c.push_deassigned-at.ensures in
    let inside : l.j < length (named a.asked.now) = omega (arith, c.len-j-end.ensures.value, c.loop-j-test.true) in
    record {
      counts = counted a.asked.now.deassign (listed a.asked.now) (map pair_of a.self.rows.now) (named a.asked.now) l.j _ _ l.at inside c.at.ensures e.0
          l.invariant.counts;
      rows = sent-more a.asked.now.deassign (listed a.asked.now) (map pair_of a.self.rows.now) (named a.asked.now) l.j _ _ l.at inside c.at.ensures e.0
          l.invariant.counts l.out _ a.out.now l.invariant.rows e.1;
    }
