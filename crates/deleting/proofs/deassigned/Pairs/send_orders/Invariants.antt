-- `deleting::Pairs::send_orders` meets its contract: the orders to the groups passed stand at the front of the room.
use mathlib.Core.List.{map}
use lib.ListN.{take}
use Rattle.store.specs.Lists.{Fills}
use Rattle.store.specs.Storage.{pair_of}
use Rattle.replies.specs.Sending.{order_row}
use Rattle.deleting.specs.Deassigned.{deassign_orders}
use Rattle.deleting.specs.Deletes.{named, listed}
use Rattle.deleting.proofs.deassigned.Pairs.send_orders.Given as goal

abbrev pub invariant-loop-j : goal.invariant-loop-j
invariant-loop-j l =
    Fills order_row (deassign_orders l.asked.deassign (listed l.asked) (map pair_of l.self.rows.now) (take l.j (named l.asked))) l.initial.out l.out l.at
