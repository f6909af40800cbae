-- `asking::list_pairs` meets its contract: the pairs up to i stand at the front.
use mathlib.Core.Path.{◌≡◌}
use mathlib.Core.List.{map}
use lib.ListN.{length, take}
use Rattle.order.specs.Walks.{onto}
use Rattle.store.specs.Storage.{pair_of}
use Rattle.replies.specs.Listing.{entry_row}
use Rattle.asking.specs.Listed.{listed}
use Rattle.asking.proofs.list_pairs.Given as goal

abbrev pub invariant-loop-i : goal.invariant-loop-i
invariant-loop-i l = (length l.out ≡ length l.initial.out) × (l.out ≡ onto (take l.i (map (λ row. entry_row (listed (pair_of row))) l.pairs)) l.initial.out)
