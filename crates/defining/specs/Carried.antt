-- What a define leaves of the ledger, and what it finds.
use Rattle.std.specs.Prelude.{◌≡◌, ℕ, ◌≤◌, true, List, length}
use Rattle.rules.specs.Lists.{unique}
use Rattle.rules.specs.Parameters.{Parameters}
use Rattle.rules.specs.Refusals.{max_groups, max_pairs}
use Rattle.rules.specs.Ledger.{Ledger}
use Rattle.store.specs.Storage.{Contents, group_of, ledger_of}
use Rattle.store.specs.Form.{Sound}
use Rattle.defining.specs.Groups.{made_groups, Grows, FineOrder}
use Rattle.defining.specs.Pairs.{set_pairs}

-- groups made or made anew, and every radio set with each
abbrev pub carried : List ℕ → Parameters → List ℕ → List ℕ → ℕ → Contents → Ledger
carried come new groups radios state c = record {
  groups = made_groups come new groups (ledger_of c).groups;
  pairs = set_pairs state radios groups (ledger_of c).pairs;
}

-- contents in their form, lists in which no number stands twice, and room for all
pub record Carries (c : Contents) (order come groups radios : List ℕ) (state : ℕ) : Type 0 where
  pub sound : Sound c
  pub grows : Grows (ledger_of c).groups groups come
  pub row : FineOrder order
  pub groups_once : unique groups ≡ true
  pub radios_once : unique radios ≡ true
  pub few_groups : length (carried come (group_of order).1.parameters groups radios state c).groups ≤ max_groups
  pub few_pairs : length (carried come (group_of order).1.parameters groups radios state c).pairs ≤ max_pairs
