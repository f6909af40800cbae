-- `deleting::Pairs::push_among` meets its contract: orders to those of the first radios that are found are laid.
use mathlib.Core.Path.{◌≡◌}
use mathlib.Core.List.{map}
use lib.ListN.{length, take}
use lib.Seq.{paste}
use Rattle.order.specs.Keys.{keys_held}
use Rattle.store.specs.Storage.{pair_of}
use Rattle.deleting.specs.Deassigned.{among, deassign_rows}
use Rattle.deleting.proofs.deassigned.Pairs.push_among.Given as goal

abbrev pub invariant-loop-k : goal.invariant-loop-k
invariant-loop-k l =
    (l.n ≡ length (among (map pair_of l.self.rows.now) l.group.0 (take l.k (keys_held l.radios))))
    × (l.out ≡ paste l.initial.out l.at (deassign_rows l.group.0 (among (map pair_of l.self.rows.now) l.group.0 (keys_held l.radios))) l.n)
