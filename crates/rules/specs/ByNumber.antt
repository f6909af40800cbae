-- The placing by number: entries stand by rising keys, a new one at its place. So a group's pairs are one unbroken stretch, radios
-- rising, the stretches in the order of the group numbers; and a group's owners rise.
use Rattle.std.specs.Prelude.{Bool, cond, ◌&&◌, ◌||◌, List, [], ◌∷◌, eqb, ltb}
use Rattle.rules.specs.Lists.{rises, rising}
use Rattle.rules.specs.Ledger.{Pair}
use Rattle.rules.specs.Placing.{Put, Roll, Placing}

module _ {K X : Type 0} (below : K → K → Bool) where
  -- a key's value replaced at its place, or a new entry before the first whose key is above its own
  abbrev pub put : List (K × X) → K → X → List (K × X)
  put [] k v = (k, v) ∷ []
  put (e ∷ l) k v = cond (below e.0 k) (e ∷ put l k v) (cond (below k e.0) ((k, v) ∷ e ∷ l) ((k, v) ∷ l))

  -- one entry's key is below another's
  abbrev pub lower : K × X → K × X → Bool
  lower e f = below e.0 f.0

  abbrev pub by_key : Put K X
  by_key = record { put = put; form = rises lower }

-- "in the order of the group numbers", then "radios rising"
abbrev pub below_pair : Pair → Pair → Bool
below_pair a b = ltb a.0 b.0 || (eqb a.0 b.0 && ltb a.1 b.1)

-- each once, rising
abbrev pub rising_roll : Roll
rising_roll = record { entered = rising; form = rises ltb }

abbrev pub by_number : Placing
by_number = record { groups = by_key ltb; pairs = by_key below_pair; owners = rising_roll }
