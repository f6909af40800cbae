-- How many owners a group has with those who come.
use Rattle.std.specs.Prelude.{ℕ, ◌+◌, not, List, length}
use Rattle.std.proofs.Math.Option.{Option}
use Rattle.rules.specs.Lists.{keep, mem}
use Rattle.rules.specs.Ledger.{Group, owners_of}

-- of those who come, how many do not stand
abbrev pub new_owners : List ℕ → List ℕ → ℕ
new_owners standing come = length (keep (λ a. not (mem a standing)) come)

-- how many there are then, of the group that was there
abbrev pub owner_total : Option Group → List ℕ → ℕ
owner_total x come = length (owners_of x) + new_owners (owners_of x) come
