-- How many of the named groups and pairs are not there yet.
use Rattle.std.specs.Prelude.{ℕ, not, List, eqb, length}
use Rattle.rules.specs.Lists.{keep, present, sum}
use Rattle.rules.specs.Entries.{find}
use Rattle.rules.specs.Mark.{Mark}
use Rattle.rules.specs.Ledger.{Group, Pair, same_pair}

abbrev pub new_groups : List (ℕ × Group) → List ℕ → ℕ
new_groups groups named = length (keep (λ g. not (present (find eqb groups g))) named)

abbrev pub new_radios : List (Pair × Mark) → List ℕ → ℕ → ℕ
new_radios pairs radios g = length (keep (λ r. not (present (find same_pair pairs (g, r)))) radios)

abbrev pub new_pairs : List (Pair × Mark) → List ℕ → List ℕ → ℕ
new_pairs pairs radios named = sum (new_radios pairs radios) named
