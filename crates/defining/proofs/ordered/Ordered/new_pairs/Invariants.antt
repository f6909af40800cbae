-- `defining::Ordered::new_pairs` meets its contract: those of the groups passed are counted.
use mathlib.Core.Path.{◌≡◌}
use mathlib.Core.List.{map}
use lib.ListN.{take}
use Rattle.order.specs.Keys.{keys_held}
use Rattle.store.specs.Storage.{pair_of}
use Rattle.defining.specs.Totals.{new_pairs}
use Rattle.defining.proofs.ordered.Ordered.new_pairs.Given as goal

abbrev pub invariant-loop-j : goal.invariant-loop-j
invariant-loop-j l = l.n ≡ new_pairs (map pair_of l.self.pairs.now) (keys_held l.radios) (take l.j (keys_held l.named))
