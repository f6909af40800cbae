-- The DEFINE order as a DEFINE record holds it: which place says what (table 19, after SS-Type and action type).
use Rattle.std.specs.Prelude.{ℕ, zero, suc, ◌+◌, ◌-◌, Bool, cond, ◌&&◌, List, [], ◌∷◌, eqb, get_or, take, drop}
use Rattle.std.proofs.Math.Option.{Option, none, some}
use Rattle.layout.specs.Frame.{judged_of}
use Rattle.layout.specs.declared.Kind.TheVariants as kind
use Rattle.rules.specs.Number.{Number, Identity, Numbers}
use Rattle.rules.specs.Parameters.{Parameters}
use Rattle.rules.specs.Order.{Define}

-- the places
abbrev pub call_related : ℕ
call_related = 0

abbrev pub group_given : ℕ
group_given = 2

abbrev pub group_numbers : ℕ
group_numbers = 4

abbrev pub options_follow : ℕ
options_follow = 45

abbrev pub set_reference : ℕ
set_reference = 46

abbrev pub owners_included : ℕ
owners_included = 48

abbrev pub owner_numbers : ℕ
owner_numbers = 50

abbrev pub acknowledged_call : ℕ
acknowledged_call = 91

abbrev pub broadcast : ℕ
broadcast = 93

abbrev pub letter_count : ℕ
letter_count = 95

abbrev pub letters : ℕ
letters = 97

abbrev pub assignment : ℕ
assignment = 113

abbrev pub radio_numbers : ℕ
radio_numbers = 115

abbrev pub acknowledgement_requested : ℕ
acknowledgement_requested = 156

abbrev pub class_of_usage : ℕ
class_of_usage = 158

abbrev pub attachment_lifetime : ℕ
attachment_lifetime = 160

abbrev pub temporary_assignment : ℕ
temporary_assignment = 162

module _ (places : List ℕ) where
  abbrev pub value_at : ℕ → ℕ
  value_at k = get_or places k 0

  -- 1 is "yes", and a P-bit's or the O-bit's 1
  abbrev pub says_yes : ℕ → Bool
  says_yes k = eqb (value_at k) 1

  -- a choice is held one up, so that 0 can mean that it is not there
  abbrev pub code_at : ℕ → ℕ
  code_at k = value_at k - 1

  abbrev pub identity_at : ℕ → Identity
  identity_at k = record { form = code_at k; sna = value_at (k + 1); ssi = value_at (k + 2); extension = value_at (k + 3) }

  -- n identities, four places each
  abbrev pub identities_at : ℕ → ℕ → List Identity
  identities_at k zero = []
  identities_at k (suc n) = identity_at k ∷ identities_at (k + 4) n

  -- number type, then ten identities
  unfoldable pub numbers_at : ℕ → Numbers
  numbers_at k = record { code = code_at k; places = identities_at (k + 1) 10 }

  -- an optional element is there after O-bit 1 and its P-bit, the place before its value
  abbrev pub optional : ℕ → Bool
  optional k = says_yes options_follow && says_yes k

  abbrev pub optional_number : ℕ → Option ℕ
  optional_number k = cond (optional k) (some (value_at (k + 1))) none

  abbrev pub optional_choice : ℕ → Option ℕ
  optional_choice k = cond (optional k) (some (code_at (k + 1))) none

  abbrev pub optional_name : Option (List ℕ)
  optional_name = cond (optional letter_count) (some (take (value_at (letter_count + 1)) (take 16 (drop letters places)))) none

  -- a list behind an element that says "yes"
  abbrev pub listed : Bool → ℕ → Option Numbers
  listed there k = cond there (some (numbers_at k)) none

  -- an optional element that is there and says "yes"
  abbrev pub optional_yes : ℕ → Bool
  optional_yes k = optional k && says_yes (k + 1)

  unfoldable pub parameters_in : Parameters
  parameters_in = record {
    set_reference = optional_number set_reference;
    acknowledged_call = optional_choice acknowledged_call;
    broadcast = optional_choice broadcast;
    name = optional_name;
    class = optional_number class_of_usage;
    lifetime = optional_number attachment_lifetime;
    temporary = optional_number temporary_assignment;
  }

unfoldable pub define_of : Number → List ℕ → Define
define_of asker places = record {
  asker = asker;
  judged = judged_of kind.Define places;
  call = says_yes places call_related;
  groups = listed places (says_yes places group_given) group_numbers;
  owners = listed places (optional_yes places owners_included) owner_numbers;
  radios = listed places (optional_yes places assignment) radio_numbers;
  acknowledgement = optional places acknowledgement_requested;
  parameters = parameters_in places;
}
