-- The lists of a DEFINE record, whether they are given, and their numbers.
use Rattle.std.specs.Prelude.{ℕ, zero, suc, ◌+◌, Bool, cond, List, [], ◌∷◌, Option, Some, None}
use Rattle.rules.specs.Recorded.{value_at, code_at, says_yes, optional_yes}
use Rattle.rules.specs.Recorded.{group_given, group_numbers, owners_included, owner_numbers, assignment, radio_numbers}
use Rattle.rows.specs.Layout.{max_listed}
use Rattle.order.specs.declared.Identity.{Identity}
use Rattle.order.specs.declared.Numbers.{Numbers}
use Rattle.order.specs.declared.DefineLists.{DefineLists}

module _ (places : List ℕ) where
  abbrev pub identity_in : ℕ → Identity
  identity_in k = record { form = code_at places k; sna = value_at places (k + 1); ssi = value_at places (k + 2); extension = value_at places (k + 3) }

  -- n identities, four places each
  abbrev pub identities_in : ℕ → ℕ → List Identity
  identities_in k zero = []
  identities_in k (suc n) = identity_in k ∷ identities_in (k + 4) n

  -- number type, then ten identities
  abbrev pub numbers_in : ℕ → Numbers
  numbers_in k = record { code = code_at places k; identity = identities_in (k + 1) max_listed }

  abbrev pub list_at : Bool → ℕ → Option Numbers
  list_at given k = cond given (Some (numbers_in k)) None

  abbrev pub group_list : Option Numbers
  group_list = list_at (says_yes places group_given) group_numbers

  abbrev pub owner_list : Option Numbers
  owner_list = list_at (optional_yes places owners_included) owner_numbers

  abbrev pub radio_list : Option Numbers
  radio_list = list_at (optional_yes places assignment) radio_numbers

  abbrev pub lists_of : DefineLists
  lists_of = record { groups = group_list; owners = owner_list; radios = radio_list }
