-- The orders that a define sends.
use Rattle.std.specs.Prelude.{ℕ, List}
use Rattle.rules.specs.Lists.{join}
use Rattle.rules.specs.Outgoing.{Outgoing, assign, orders}

-- to each radio, groups in list order
abbrev pub assign_orders : List ℕ → List ℕ → List Outgoing
assign_orders radios named = join (λ g. orders assign g radios) named
