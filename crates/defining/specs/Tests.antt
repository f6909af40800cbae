-- The tests of a define, in plain lists.
use Rattle.std.specs.Prelude.{◌≡◌, ℕ, ◌+◌, ◌*◌, ◌≤◌, Bool, true, ◌||◌, List, [], ◌∷◌, map, eqb, ltb, length}
use Rattle.refusal.specs.declared.Refusal.{Refusal}
use Rattle.refusal.specs.declared.Refusal.TheVariants.{BadOrder, FormNotTaken, BadRange, TooManyNumbers, NotOwner, TooManyOwners}
use Rattle.refusal.specs.declared.Refusal.TheVariants.{Full, NoRoom}
use Rattle.rules.specs.Lists.{any, rises}
use Rattle.rules.specs.Entries.{find}
use Rattle.rules.specs.Mark.{Mark}
use Rattle.rules.specs.Number.{wide_number}
use Rattle.rules.specs.Order.{Define}
use Rattle.rules.specs.Owners.{max_owners}
use Rattle.rules.specs.Refusals.{refuses, max_groups, max_pairs}
use Rattle.rules.specs.Ledger.{Group, Pair}
use Rattle.order.specs.declared.RadioKey.{RadioKey}
use Rattle.rules.specs.ByNumber.{lower, below_pair}
use Rattle.store.specs.Storage.{Rows, group_of, pair_of}
use Rattle.store.specs.Named.{group_fault}
use Rattle.store.specs.declared.Standing.TheVariants.{Taken}
use Rattle.making.specs.Owners.{owner_total}
use Rattle.defining.specs.Parts.{any_untaken, any_crossed, any_many}
use Rattle.defining.specs.Totals.{new_groups, new_pairs}

-- of its form
abbrev pub define_form : Define → List (Refusal × Bool)
define_form o =
    (BadOrder, wide_number o.asker || refuses o.judged)
    ∷ (FormNotTaken, o.call || any_untaken o.groups o.owners o.radios)
    ∷ (BadRange, any_crossed o.asker.extension o.groups o.owners o.radios)
    ∷ (TooManyNumbers, any_many o.asker.extension o.groups o.owners o.radios)
    ∷ []

-- and of what stands
abbrev pub define_stand : List (ℕ × Group) → List (Pair × Mark) → RadioKey → List ℕ → List ℕ → List ℕ → ℕ → List (Refusal × Bool)
define_stand groups pairs asker named come radios room =
    (NotOwner, any (λ g. group_fault Taken (find eqb groups g) asker.0) named)
    ∷ (TooManyOwners, any (λ g. ltb max_owners (owner_total (find eqb groups g) come)) named)
    ∷ (Full, ltb max_groups (length groups + new_groups groups named) || ltb max_pairs (length pairs + new_pairs pairs radios named))
    ∷ (NoRoom, ltb room (length named * length radios))
    ∷ []

-- ---- what stands ----

-- the groups and pairs in use, each in order
pub record InOrder (groups pairs : Rows) : Type 0 where
  pub few_groups : length groups ≤ max_groups
  pub few_pairs : length pairs ≤ max_pairs
  pub groups_rise : rises (lower ltb) (map group_of groups) ≡ true
  pub pairs_rise : rises (lower below_pair) (map pair_of pairs) ≡ true
