-- `deleting::remove_groups` meets its contract: those of the first i that stay stand at the front; the rest is as it was.
use Prim.Native.Nat.{◌≤◌}
use Rattle.store.specs.Lists.{Fills}
use Rattle.store.specs.Storage.{group_row, groups_of}
use Rattle.deleting.specs.Deassigned.{remaining}
use Rattle.deleting.proofs.remaining.remove_groups.Given as goal

abbrev pub invariant-loop-i : goal.invariant-loop-i
invariant-loop-i l = (l.kept ≤ l.i) × Fills group_row (remaining l.gone (groups_of l.i l.initial.groups)) l.initial.groups l.groups l.kept
