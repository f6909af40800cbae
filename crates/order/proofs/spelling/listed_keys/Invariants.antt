-- `order::listed_keys` meets its contract: the keys of the identities passed stand at the front, each once.
use mathlib.Core.Path.{◌≡◌}
use Prim.Native.Nat.{◌≤◌}
use lib.ListN.{length, take, drop, replicate}
use Rattle.rules.specs.Named.{max_numbers}
use Rattle.rules.specs.Lists.{once}
use Rattle.order.proofs.ListLaws.{keys_to}
use Rattle.order.proofs.spelling.listed_keys.Given as goal

abbrev pub invariant-loop-identity : goal.invariant-loop-identity
invariant-loop-identity g l =
    (l.count ≤ l.identity-index) × (length l.key ≡ max_numbers) × (take l.count l.key ≡ once (keys_to l.home l.identity-index l.identity-items))
    × (drop l.count l.key ≡ drop l.count (replicate max_numbers 0))
