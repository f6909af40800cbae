-- A delete's tests and effect, in plain lists: the keys of its groups, and those of its radios where they are listed.
use Rattle.std.specs.Prelude.{ℕ, Bool, cond, not, ◌&&◌, ◌||◌, List, [], ◌∷◌, eqb, ltb, length, Option, Some, None, is_some, option_map}
use Rattle.refusal.specs.declared.Refusal.{Refusal}
use Rattle.refusal.specs.declared.Refusal.TheVariants.{BadOrder, FormNotTaken, BadRange, TooManyNumbers, NoSuchGroup, NotOwner}
use Rattle.refusal.specs.declared.Refusal.TheVariants.{NothingToDo, NoRoom}
use Rattle.rules.specs.Lists.{any}
use Rattle.rules.specs.Entries.{find, alter}
use Rattle.rules.specs.Mark.{Mark}
use Rattle.rules.specs.Number.{wide_number, bad_list, untaken}
use Rattle.rules.specs.Named.{numbers_in, bad_range, too_many, max_numbers}
use Rattle.rules.specs.Ledger.{Group, Pair}
use Rattle.order.specs.Keys.{fitting, keys_as, keys_held}
use Rattle.order.specs.Numbers.{radio_number}
use Rattle.order.specs.Lists.{list_of}
use Rattle.order.specs.declared.Itsi.{Itsi}
use Rattle.order.specs.declared.Numbers.{Numbers}
use Rattle.store.specs.Named.{group_fault}
use Rattle.store.specs.declared.Standing.TheVariants.{Missing, Foreign}
use Rattle.turning.specs.Turns.{turn_of}
use Rattle.turning.specs.declared.Turn.{Turn}
use Rattle.turning.specs.declared.Turn.TheVariants.{Remove, Leave}
use Rattle.deleting.specs.Deassigned.{deassign_orders, remaining}
use Rattle.deleting.specs.declared.asked.Asked.{Asked}

-- its lists read
abbrev pub asked : Itsi → Numbers → Bool → Bool → Option Numbers → Asked
asked asker groups remove deassign radios = record {
  groups = keys_as (fitting max_numbers (numbers_in asker.1 (list_of (Some groups))));
  remove = remove;
  deassign = deassign;
  radios = option_map (λ list. keys_as (fitting max_numbers (numbers_in asker.1 (list_of (Some list))))) radios;
}

-- the groups that it names, and the radios where they are listed
abbrev pub named : Asked → List ℕ
named a = keys_held a.groups

abbrev pub listed : Asked → Option (List ℕ)
listed a = option_map keys_held a.radios

-- the tests of its form
abbrev pub form_tests : Itsi → Numbers → Bool → Option Numbers → List (Refusal × Bool)
form_tests asker groups deassign radios =
    (BadOrder, wide_number (radio_number asker) || (bad_list (list_of (Some groups)) || (bad_list (list_of radios) || (is_some radios && not deassign))))
    ∷ (FormNotTaken, untaken (list_of (Some groups)) || untaken (list_of radios))
    ∷ (BadRange, bad_range asker.1 (list_of (Some groups)) || bad_range asker.1 (list_of radios))
    ∷ (TooManyNumbers, too_many max_numbers asker.1 (list_of (Some groups)) || too_many max_numbers asker.1 (list_of radios))
    ∷ []

-- and those of what stands, by the asker's key
abbrev pub stand_tests : List (ℕ × Group) → List (Pair × Mark) → ℕ → List ℕ → Bool → Bool → Option (List ℕ) → ℕ → List (Refusal × Bool)
stand_tests groups pairs asker named remove deassign radios room =
    (NoSuchGroup, any (λ g. group_fault Missing (find eqb groups g) asker) named)
    ∷ (NotOwner, any (λ g. group_fault Foreign (find eqb groups g) asker) named)
    ∷ (NothingToDo, not remove && not deassign)
    ∷ (NoRoom, ltb room (length (deassign_orders deassign radios pairs named)))
    ∷ []

-- ---- what a delete leaves ----

abbrev pub groups_left : List ℕ → Bool → List (ℕ × Group) → List (ℕ × Group)
groups_left named remove l = cond remove (remaining named l) l

-- deassigned pairs are leaving where acknowledgement is asked for and the group stays, and else they go
abbrev pub parting : Bool → Bool → Turn
parting remove acknowledgement = cond (not remove && acknowledgement) Leave Remove

-- those are all pairs of the groups, or, where these stay and radios are listed, those of the listed radios
abbrev pub pairs_left : List ℕ → Bool → Option (List ℕ) → Bool → List (Pair × Mark) → List (Pair × Mark)
pairs_left named remove radios acknowledgement l = alter (turn_of (parting remove acknowledgement) named (cond remove None radios)) l
