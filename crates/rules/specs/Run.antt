-- The abstract ledger after a history: each step in turn, from empty.
use Rattle.rules.specs.Ledger.{Ledger, empty}
use Rattle.rules.specs.Placing.{Placing}
use Rattle.rules.specs.Steps.{step}
use Rattle.rules.specs.History.{History, start, ◌then◌}

abbrev pub run : Placing → History → Ledger
run p start = empty
run p (h then s) = step p (run p h) s
