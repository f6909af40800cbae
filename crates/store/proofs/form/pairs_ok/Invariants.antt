-- `store::form::pairs_ok` meets its contract: the groups and pairs left tell the whole, and the rows passed are rows of pairs.
use mathlib.Core.Path.{◌≡◌}
use Prim.Native.Nat.{◌≤◌, ◌-◌, ◌+◌}
use mathlib.Core.List.{map}
use lib.ListN.{length, drop}
use Rattle.store.specs.Lists.{Plain}
use Rattle.store.specs.Storage.{pair_of, pair_row}
use Rattle.store.specs.Form.{key_in, good_pairs}
use Rattle.store.proofs.form.pairs_ok.Given as goal

abbrev pub invariant-loop-i : goal.invariant-loop-i
invariant-loop-i l =
    (l.group ≤ length l.groups) × (l.i ≤ length l.pairs)
    × (good_pairs (map key_in (drop l.group l.groups)) l.least (map pair_of (drop l.i l.pairs)) ≡ good_pairs (map key_in l.groups) 0 (map pair_of l.pairs))
    × Plain pair_of pair_row l.i l.pairs

abbrev pub decreases-loop-i : goal.decreases-loop-i
decreases-loop-i l = (length l.groups - l.group) + (length l.pairs - l.i)
