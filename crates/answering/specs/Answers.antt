-- A radio's answer: what it makes of the pairs.
use Rattle.std.specs.Prelude.{ℕ, ◌+◌, List, ◌++◌, take, drop, Option, Some, None}
use Rattle.std.proofs.Math.Option as law
use Rattle.rules.specs.Entries.{entry}
use Rattle.rules.specs.Mark.{Mark, fresh}
use Rattle.rules.specs.Ledger.{Pair}

-- a state that a pair has, as a mark that has not waited
abbrev pub as_mark : Option ℕ → law.Option Mark
as_mark (Some state) = law.some (fresh state)
as_mark None = law.none

-- the pair at place i with this mark, or taken away
abbrev pub settled : Pair → law.Option Mark → ℕ → List (Pair × Mark) → List (Pair × Mark)
settled k left i l = take i l ++ entry k left (drop (i + 1) l)
