-- A group that a row has room for.
use Rattle.std.specs.Prelude.{◌≡◌, ◌≤◌, false, length}
use Rattle.rules.specs.Parameters.{bad_name}
use Rattle.rules.specs.Ledger.{Group}
use Rattle.rules.specs.Written.{max_owners}

abbrev pub Fine : Group → Type 0
Fine x = (bad_name x.parameters.name ≡ false) × (length x.owners ≤ max_owners)
