-- `deleting::Pairs::exceeds` meets its contract: the room that is left behind the orders to the groups passed.
use mathlib.Core.Path.{◌≡◌}
use mathlib.Core.List.{map}
use Prim.Native.Nat.{◌+◌}
use lib.ListN.{length, take}
use Rattle.store.specs.Storage.{pair_of}
use Rattle.deleting.specs.Deassigned.{deassign_orders}
use Rattle.deleting.specs.Deletes.{named, listed}
use Rattle.deleting.proofs.deassigned.Pairs.exceeds.Given as goal

abbrev pub invariant-loop-j : goal.invariant-loop-j
invariant-loop-j l =
    l.left + length (deassign_orders l.asked.deassign (listed l.asked) (map pair_of l.self.rows.now) (take l.j (named l.asked))) ≡ l.room
