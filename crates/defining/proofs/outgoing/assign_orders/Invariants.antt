-- `defining::assign_orders` meets its contract: the orders to the groups passed stand at the front of the room.
use lib.ListN.{take}
use Rattle.order.specs.Keys.{keys_held}
use Rattle.store.specs.Lists.{Fills}
use Rattle.replies.specs.Sending.{order_row}
use Rattle.defining.specs.Sent.{assign_orders}
use Rattle.defining.proofs.outgoing.assign_orders.Given as goal

abbrev pub invariant-loop-j : goal.invariant-loop-j
invariant-loop-j l = Fills order_row (assign_orders l.listed (take l.j (keys_held l.named))) l.initial.out l.out l.at
