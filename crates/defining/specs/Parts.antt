-- The lists of a define as they are handed on: keys, owners, and what the lists are refused for.
use Rattle.std.specs.Prelude.{ℕ, ◌||◌, List, [], ◌∷◌, Bool}
use Rattle.std.proofs.Math.Option.{Option}
use Rattle.refusal.specs.declared.Refusal.{Refusal}
use Rattle.refusal.specs.declared.Refusal.TheVariants.{FormNotTaken, BadRange, TooManyNumbers}
use Rattle.rules.specs.Lists.{rising}
use Rattle.rules.specs.Number.{Numbers, key, untaken}
use Rattle.rules.specs.Named.{numbers_in, bad_range, too_many, max_numbers, max_listed_owners}
use Rattle.rules.specs.Order.{Define, define_groups, define_radios}
use Rattle.rules.specs.Recorded.{define_of}
use Rattle.rules.specs.Refusals.{first}
use Rattle.order.specs.Numbers.{radio_number}
use Rattle.order.specs.Keys.{fitting, keys_as}
use Rattle.order.specs.declared.Itsi.{Itsi}
use Rattle.replies.specs.Orders.{reply_of}
use Rattle.defining.specs.declared.parts.Parts.{Parts}

-- the tests of lists of groups, owners and radios
abbrev pub any_untaken : Option Numbers → Option Numbers → Option Numbers → Bool
any_untaken groups owners radios = untaken groups || (untaken owners || untaken radios)

abbrev pub any_crossed : ℕ → Option Numbers → Option Numbers → Option Numbers → Bool
any_crossed home groups owners radios = bad_range home groups || (bad_range home owners || bad_range home radios)

abbrev pub any_many : ℕ → Option Numbers → Option Numbers → Option Numbers → Bool
any_many home groups owners radios =
    too_many max_numbers home groups || (too_many max_listed_owners home owners || too_many max_numbers home radios)

abbrev pub list_tests : ℕ → Option Numbers → Option Numbers → Option Numbers → List (Refusal × Bool)
list_tests home groups owners radios =
    (FormNotTaken, any_untaken groups owners radios)
    ∷ (BadRange, any_crossed home groups owners radios)
    ∷ (TooManyNumbers, any_many home groups owners radios)
    ∷ []

-- "the asker and those listed"
abbrev pub owners_named : Define → List ℕ
owners_named o = key o.asker ∷ fitting max_listed_owners (numbers_in o.asker.extension o.owners)

abbrev pub parts_of : Itsi → List ℕ → Parts
parts_of asker places =
    let o = define_of (radio_number asker) places in
    record {
      named = keys_as (fitting max_numbers (define_groups o));
      radios = keys_as (fitting max_numbers (define_radios o));
      owners = keys_as (rising (owners_named o));
      fault = reply_of (first (list_tests o.asker.extension o.groups o.owners o.radios));
    }
