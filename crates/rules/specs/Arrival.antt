-- The placing by arrival: entries stand in the order in which they came.
use Rattle.std.specs.Prelude.{Bool, cond, List, [], ◌∷◌, eqb}
use Rattle.rules.specs.Lists.{unique, once}
use Rattle.rules.specs.Entries.{distinct}
use Rattle.rules.specs.Ledger.{same_pair}
use Rattle.rules.specs.Placing.{Put, Roll, Placing}

module _ {K X : Type 0} (same : K → K → Bool) where
  -- a key's value replaced at its place, or a new entry at the end
  abbrev pub put : List (K × X) → K → X → List (K × X)
  put [] k v = (k, v) ∷ []
  put (e ∷ l) k v = cond (same k e.0) ((e.0, v) ∷ l) (e ∷ put l k v)

  abbrev pub arrival : Put K X
  arrival = record { put = put; form = distinct same }

-- each once, as they were listed
abbrev pub listed_roll : Roll
listed_roll = record { entered = once; form = unique }

abbrev pub by_arrival : Placing
by_arrival = record { groups = arrival eqb; pairs = arrival same_pair; owners = listed_roll }
