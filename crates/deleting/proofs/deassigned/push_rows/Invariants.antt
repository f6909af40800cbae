-- `deleting::push_rows` meets its contract: orders to the radios of the first i rows are laid.
use mathlib.Core.Path.{◌≡◌}
use mathlib.Core.List.{map}
use lib.Seq.{paste}
use Rattle.deleting.specs.Deassigned.{deassign_rows, radio_in}
use Rattle.deleting.proofs.deassigned.push_rows.Given as goal

abbrev pub invariant-loop-i : goal.invariant-loop-i
invariant-loop-i l = l.out ≡ paste l.initial.out l.at (deassign_rows l.group.0 (map radio_in l.rows)) l.i
