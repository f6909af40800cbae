-- Pairs set: every group with every radio, each at its place.
use Rattle.std.specs.Prelude.{ℕ, List}
use Rattle.rules.specs.Mark.{Mark, fresh}
use Rattle.rules.specs.Ledger.{Pair}
use Rattle.rules.specs.Placing.{puts}
use Rattle.rules.specs.ByNumber.{by_key, below_pair}
use Rattle.rules.specs.Steps.{product}

abbrev pub set_pairs : ℕ → List ℕ → List ℕ → List (Pair × Mark) → List (Pair × Mark)
set_pairs state radios groups l = puts (by_key below_pair) l (product groups radios) (λ k. fresh state)
