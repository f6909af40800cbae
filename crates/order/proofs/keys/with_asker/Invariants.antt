-- `order::with_asker` meets its contract: the asker, then those passed that differ from him.
use mathlib.Core.Path.{◌≡◌}
use Prim.Native.Nat.{◌+◌, ◌≤◌}
use mathlib.Core.Bool.{not}
use mathlib.Core.List.{◌∷◌}
use lib.Dec.{eqb}
use lib.ListN.{length, take, drop, replicate}
use Rattle.rules.specs.Lists.{keep}
use Rattle.rules.specs.Written.{max_owners}
use Rattle.order.proofs.keys.with_asker.Given as goal

abbrev pub invariant-loop-owner : goal.invariant-loop-owner
invariant-loop-owner l =
    (l.count ≤ l.owner-index + 1) × (length l.key ≡ max_owners)
    × (take l.count l.key ≡ l.asker.0 ∷ keep (λ y. not (eqb l.asker.0 y)) (take l.owner-index l.listed))
    × (drop l.count l.key ≡ drop l.count (replicate max_owners 0))
