-- `turning::turn_pairs` meets its contract: those of the first i that stay stand at the front, changed; the rest is as it was. What was sought
-- last is told of the order's groups.
use mathlib.Core.Path.{◌≡◌}
use Prim.Native.Nat.{◌≤◌}
use Rattle.std.specs.Prelude.{option_map}
use Rattle.rules.specs.Lists.{mem}
use Rattle.rules.specs.Entries.{alter}
use Rattle.order.specs.Keys.{keys_held}
use Rattle.store.specs.Lists.{Fills}
use Rattle.store.specs.Storage.{pair_row, pairs_of}
use Rattle.turning.specs.Turns.{turn_of}
use Rattle.turning.proofs.turn_pairs.Given as goal

abbrev pub invariant-loop-i : goal.invariant-loop-i
invariant-loop-i l = (l.kept ≤ l.i) × (l.sought.0.now ≡ keys_held l.groups) × (l.sought.1.1.0 ≡ mem l.sought.1.0 l.sought.0.now)
    × Fills pair_row (alter (turn_of l.turn (keys_held l.groups) (option_map (λ r. keys_held r.now) l.radios)) (pairs_of l.i l.initial.pairs)) l.initial.pairs l.pairs l.kept
