-- A group's list as its pairs give it.
use Rattle.std.specs.Prelude.{ℕ, cond, List, [], ◌∷◌, eqb}
use Rattle.rules.specs.Mark.{Mark}
use Rattle.rules.specs.Replies.{Entry}
use Rattle.rules.specs.Ledger.{Pair}

-- the radios of group g with their states, in the order of the pairs
abbrev pub gathered : ℕ → List (Pair × Mark) → List Entry
gathered g [] = []
gathered g (e ∷ l) = cond (eqb g e.0.0) ((e.0.1, e.1.state) ∷ gathered g l) (gathered g l)
