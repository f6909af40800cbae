-- `defining::assign_orders` meets its contract: the orders to the groups passed stand at the front of the room.
use mathlib.Core.Path.{refl}
use native.Mathlib.Omega.{arith}
use Prim.Native.Nat.{◌≤◌, ◌<◌}
use lib.ListN.{length}
use Rattle.order.specs.Keys.{keys_held}
use Rattle.defining.specs.Sent.{assign_orders}
use Rattle.defining.proofs.Assigning.{assign-room, assign-next}
use borrow.Author.Rules.{rules}
use Rattle.defining.proofs.outgoing.assign_orders.Goals as goal
use Rattle.defining.proofs.outgoing.assign_orders.Goals.{After-push_orders}

-- the group at hand is one of those named, and what goes out fits
inside : (c : After-push_orders) → c.loop-j.j < length (keys_held c.args.named.now)
inside c = omega (arith, c.len-j-end.ensures.value, c.loop-j-test.true)

fits : (c : After-push_orders) → length (assign_orders c.as_slice-listed.result.now (keys_held c.args.named.now)) ≤ length c.args.out.now
fits c = rw c.as_slice-listed.ensures c.requires

pub overflow_add-at : goal.overflow_add-at
overflow_add-at c =
    let d = (goal.at.overflow_add-at c).After-push_orders in
    let l = c.loop-j in
    let room = assign-room c.as_slice-listed.result.now (keys_held c.args.named.now) c.args.out.now l.out l.j l.at l.invariant (fits d) (inside d) in
    search rules

pub loop-j-preserved : goal.loop-j-preserved
loop-j-preserved c =
    let d = (goal.at.loop-j-preserved c).After-push_orders in
    let l = c.loop-j in
    assign-next c.as_slice-listed.result.now (keys_held c.args.named.now) c.args.out.now l.out l.j l.at l.invariant (fits d) (inside d)
    _ _ c.at.ensures refl _ c.push_orders.ensures
