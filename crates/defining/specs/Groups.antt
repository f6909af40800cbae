-- Groups made, or made anew, each at its place.
use Rattle.std.specs.Prelude.{◌≡◌, ℕ, ◌≤◌, true, false, List, [], ◌++◌, eqb, ltb, length, get_or, replicate}
use Rattle.std.proofs.Math.Option.{some}
use Rattle.rules.specs.Lists.{mem, rising, Rising}
use Rattle.rules.specs.Entries.{find}
use Rattle.rules.specs.Owners.{added, max_owners}
use Rattle.rules.specs.Parameters.{Parameters, bad_name}
use Rattle.rules.specs.Placing.{puts}
use Rattle.rules.specs.ByNumber.{by_key}
use Rattle.rules.specs.Ledger.{Group}
use Rattle.rules.specs.Steps.{group_after}
use Rattle.rows.specs.Layout.{group_words}
use Rattle.store.specs.Storage.{Rows, placing, group_of, group_row}
use Rattle.std.specs.Prelude.{Result}
use Rattle.std.specs.Prelude.{Ok, Err}
use Rattle.making.specs.Row.{made_row}
use Rattle.making.specs.Fine.{Fine}

-- a group by the law, from what stood before; come: the owners who come
abbrev pub made_group : List ℕ → Parameters → List (ℕ × Group) → ℕ → Group
made_group come new l g = group_after placing (added come) new (find eqb l g)

abbrev pub made_groups : List ℕ → Parameters → List ℕ → List (ℕ × Group) → List (ℕ × Group)
made_groups come new groups l = puts (by_key ltb) l groups (made_group come new l)

-- its row: made anew from the row that stands at its place, or made from none
abbrev pub row_for : Result ℕ ℕ → ℕ → List ℕ → List ℕ → Rows → List ℕ
row_for (Ok i) g order come rows = made_row g order (get_or rows i []) (rising ((group_of (get_or rows i [])).1.owners ++ come))
row_for (Err i) g order come rows = made_row g order (replicate group_words 0) come

-- the groups that stand, those named, and the owners who come to them: rows have room for all
pub record Grows (l : List (ℕ × Group)) (named come : List ℕ) : Type 0 where
  pub fine : (g : ℕ) (x : Group) → find eqb l g ≡ some x → Fine x × Rising x.owners
  pub few : (g : ℕ) (x : Group) → mem g named ≡ true → find eqb l g ≡ some x → length (rising (x.owners ++ come)) ≤ max_owners
  pub rises : Rising come
  pub fits : length come ≤ max_owners

-- an order's row is that of its parameters, and they have room
pub record FineOrder (order : List ℕ) : Type 0 where
  pub name : bad_name (group_of order).1.parameters.name ≡ false
  pub plain : group_row (0, record { owners = []; parameters = (group_of order).1.parameters }) ≡ order
