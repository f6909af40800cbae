-- A row has room for its owners and those who come.
use Rattle.std.specs.Prelude.{ℕ, ◌≤◌, List, [], ◌++◌, length, get_or}
use Rattle.rules.specs.Lists.{rising, Rising}
use Rattle.rules.specs.Owners.{max_owners}
use Rattle.store.specs.Storage.{Rows, group_of}
use Rattle.std.specs.Prelude.{Result}
use Rattle.std.specs.Prelude.{Ok, Err}

-- the owners of a row rise, and have room together with those who come
pub record Joins (row come : List ℕ) : Type 0 where
  pub rises : Rising (group_of row).1.owners
  pub few : length (rising ((group_of row).1.owners ++ come)) ≤ max_owners

-- so of the row that stands at a place
abbrev pub Fits : Result ℕ ℕ → Rows → List ℕ → Type 0
Fits (Ok i) rows come = Joins (get_or rows i []) come
Fits (Err i) rows come = Unit {0}
