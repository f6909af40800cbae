-- A row has no more owners than there is room for.
use Prim.Native.Nat.{ℕ, ◌≤◌}
use mathlib.Core.Path.{◌≡◌, refl}
use mathlib.Core.List.{List}
use native.Mathlib.Omega.{arith}
use lib.ListN.{length, get_or}
use Rattle.std.specs.Prelude.{min}
use Rattle.rules.specs.Owners.{max_owners}
use Rattle.rows.specs.Layout.{group_words, owner_count}
use Rattle.store.specs.Storage.{group_of}
use Rattle.store.proofs.Groups.{owners-length}

pub owners-within : (row owners : List ℕ) → owners ≡ (group_of row).1.owners → length row ≡ group_words → length owners ≤ max_owners
owners-within row owners e len = rw e (omega (arith, owners-length row len (min (get_or row owner_count 0) max_owners) refl))
