-- `order::consecutive_keys` meets its contract: the first i keys stand at the front.
use mathlib.Core.Path.{◌≡◌}
use lib.ListN.{length, take, drop, replicate}
use Rattle.rules.specs.Named.{consecutive, max_numbers}
use Rattle.order.proofs.spelling.consecutive_keys.Given as goal

abbrev pub invariant-loop-i : goal.invariant-loop-i
invariant-loop-i g l =
    (length l.key ≡ max_numbers) × (take l.i l.key ≡ consecutive l.first l.i) × (drop l.i l.key ≡ drop l.i (replicate max_numbers 0))
