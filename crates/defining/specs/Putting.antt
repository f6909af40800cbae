-- Rows put among lent rows, from the last down, each at its place.
use Rattle.std.specs.Prelude.{◌≡◌, ℕ, ◌+◌, ◌-◌, ◌≤◌, ◌<◌, Bool, true, List, map, length, set, take}
use Rattle.rules.specs.Lists.{rises}
use Rattle.rules.specs.Refusals.{max_pairs}
use Rattle.rules.specs.ByNumber.{lower}
use Rattle.order.specs.Walks.{moved}
use Rattle.store.specs.Lists.{Plain}
use Rattle.store.specs.Places.{index_of, behind_of}
use Rattle.store.specs.Storage.{Rows}
use Rattle.std.specs.Prelude.{Result}
use Rattle.defining.specs.declared.putting.Step.{Step}

-- the row at `at` is done; those before the place stand as they were
abbrev pub step_after : Result ℕ ℕ → ℕ → Step
step_after place at = record { left = index_of place; by = at - index_of place }

-- there is room for a row at its place, among `left` rows that stand, when those behind it move up by so many places
pub record Opens {A : Type 0} (place : Result ℕ ℕ) (left by : ℕ) (rows : List A) : Type 0 where
  pub few : left ≤ max_pairs
  pub inside : behind_of place ≤ left
  pub room : left + by ≤ length rows
  pub opens : index_of place < behind_of place + by

-- the rows behind the place have moved up, and the row stands before them
pub record Puts {A : Type 0} (place : Result ℕ ℕ) (left by : ℕ) (row : A) (before after : List A) (step : Step) : Type 0 where
  pub rows : after ≡ set (moved by (behind_of place) left before) (behind_of place + by - 1) row
  pub steps : step ≡ step_after place (behind_of place + by - 1)

-- what lent rows must have so that entries can be put among them: they rise, and are read back; `more` come, and there is room
pub record Takes {K X : Type 0} (below : K → K → Bool) (item_of : List ℕ → K × X) (row_of : K × X → List ℕ) (after : List (K × X))
    (rows : Rows) (count more : ℕ) : Type 0 where
  pub few : count ≤ max_pairs
  pub within : count ≤ length rows
  pub plain : Plain item_of row_of count rows
  pub rise : rises (lower below) (map item_of (take count rows)) ≡ true
  pub total : count + more ≡ length after
  pub room : length after ≤ length rows
