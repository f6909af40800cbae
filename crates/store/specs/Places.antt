-- The place of a key among entries, and what is looked up there.
use Rattle.std.specs.Prelude.{ℕ, ◌+◌, Bool, true, false, cond, List, Result, Ok, Err, Option as Found, Some, None}
use Rattle.std.proofs.Math.Option.{Option, none, some}
use Rattle.rules.specs.Lists.{present}
use Rattle.rules.specs.Mark.{Mark}
use Rattle.rules.specs.Ledger.{Pair, same_pair}
use Rattle.rules.specs.ByNumber.{below_pair}
use Rattle.store.specs.Halving.{element_at, place_in}
use Rattle.store.specs.declared.Stretch.{Stretch}

module _ {K X : Type 0} (below same : K → K → Bool) where
  -- an entry's value where it is the key's
  abbrev pub value_in : K → Option (K × X) → Option X
  value_in k none = none
  value_in k (some e) = cond (same k e.0) (some e.1) none

  -- the value at the key's place
  abbrev pub looked_up : List (K × X) → K → Option X
  looked_up l k = value_in k (element_at (place_in below l k) l)

  -- it stands at its place, or would come there
  abbrev pub place_of : List (K × X) → K → Result ℕ ℕ
  place_of l k = cond (present (looked_up l k)) (Ok (place_in below l k)) (Err (place_in below l k))

abbrev pub stands_at : Result ℕ ℕ → Bool
stands_at (Ok i) = true
stands_at (Err i) = false

abbrev pub index_of : Result ℕ ℕ → ℕ
index_of (Ok i) = i
index_of (Err i) = i

-- where what is behind it begins
abbrev pub behind_of : Result ℕ ℕ → ℕ
behind_of (Ok i) = i + 1
behind_of (Err i) = i

-- ---- a group's stretch ----

-- above every radio's key: the largest word
abbrev pub past_radios : ℕ
past_radios = 18446744073709551615

-- from the place of the group's first radio to that behind its last
abbrev pub stretch_of : List (Pair × Mark) → ℕ → Stretch
stretch_of l g = record { from = place_in below_pair l (g, 0); to = place_in below_pair l (g, past_radios) }

-- ---- "Finding a pair yields its state, or says plainly that there is none" ----

-- the mark of an entry where it is this pair's
abbrev pub mark_in : Pair × Mark → Pair → Option Mark
mark_in e k = cond (same_pair k e.0) (some e.1) none

abbrev pub found_of : Option Mark → Found ℕ
found_of none = None
found_of (some m) = Some m.state
