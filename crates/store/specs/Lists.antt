-- Lent rows and the items that they hold.
use Rattle.std.specs.Prelude.{◌≡◌, List, [], map, ℕ, ◌<◌, length, get_or}
use Rattle.order.specs.Walks.{onto}

-- each of the first n rows is the row of what it says
abbrev pub Plain : {X : Type 0} → (List ℕ → X) → (X → List ℕ) → ℕ → List (List ℕ) → Type 0
Plain item_of row_of n rows = (i : ℕ) → i < n → row_of (item_of (get_or rows i [])) ≡ get_or rows i []

-- the items stand at the front, the rows past them are as they were; the count is theirs
pub record Fills {X : Type 0} (row_of : X → List ℕ) (items : List X) (before after : List (List ℕ)) (count : ℕ) : Type 0 where
  pub counts : count ≡ length items
  pub rows : after ≡ onto (map row_of items) before
