-- When an order is refused: for each order its tests with their refusals, in the law's order; the first that holds counts.
-- NotWritten comes before them all; it is about lent storage, and stated there.
use Rattle.std.specs.Prelude.{ℕ, Bool, true, false, cond, not, ◌&&◌, ◌||◌, List, [], ◌∷◌, ◌++◌, eqb, ltb, length, Result, Ok, Err, ⊤}
use Rattle.std.proofs.Math.Option.{Option, none, some}
use Rattle.refusal.specs.Number.{number_of}
use Rattle.refusal.specs.declared.Refusal.{Refusal}
use Rattle.refusal.specs.declared.Refusal.TheVariants.{BadOrder, FormNotTaken, BadRange, TooManyNumbers, NoSuchGroup, NotOwner}
use Rattle.refusal.specs.declared.Refusal.TheVariants.{TooManyOwners, NotOpen, NothingToDo, Full, NoRoom}
use Rattle.rules.specs.Lists.{any, present}
use Rattle.rules.specs.Number.{Number, key, wide_number, bad_identity, bad_list, short, untaken}
use Rattle.rules.specs.Named.{bad_range, max_numbers, max_listed_owners, too_many}
use Rattle.rules.specs.Parameters.{bad_parameters}
use Rattle.rules.specs.Mark.{open?}
use Rattle.rules.specs.Owners.{max_owners}
use Rattle.rules.specs.Order.{Define, Step, define, delete, answer, handover, tick, define_groups, delete_groups, handover_group}
use Rattle.rules.specs.World.{World, Tally}
use Rattle.rules.specs.Outgoing.{outgoing}

-- the order in which refusals are looked for, by their numbers: that of document 01, and of document 02 "both after 11, 19 before 20" and
-- "21 .. directly after 13"
abbrev pub law_order : List ℕ
law_order = 18 ∷ 10 ∷ 11 ∷ 19 ∷ 20 ∷ 12 ∷ 13 ∷ 21 ∷ 14 ∷ 15 ∷ 16 ∷ 17 ∷ []

-- the first refusal whose test holds; none where the order is accepted
abbrev pub first : List (Refusal × Bool) → Option Refusal
first [] = none
first (t ∷ l) = cond t.1 (some t.0) (first l)

abbrev pub accepted : Option Refusal → Bool
accepted none = true
accepted (some r) = false

-- the number in a reply: 0 where the order is accepted
abbrev pub reply_number : Option Refusal → ℕ
reply_number none = 0
reply_number (some r) = number_of r

-- "There is room for 320 groups and 2,048 pairs"
abbrev pub max_groups : ℕ
max_groups = 320

abbrev pub max_pairs : ℕ
max_pairs = 2048

-- "a DEFINE record that the writer refuses with 4 or 5"
abbrev pub refuses : Result ⊤ Refusal → Bool
refuses (Ok _) = false
refuses (Err r) = true

-- a value that the ledger would keep, out of its range. The writer refuses each such record with 4, so this adds no
-- refusal; with it the written form rests on the ledger's own tests alone.
abbrev pub bad_values : Define → Bool
bad_values o = bad_list o.groups || (bad_list o.owners || (bad_list o.radios || bad_parameters o.parameters))

abbrev pub tests : World → Tally → Step → List (Refusal × Bool)
tests w t (define o room) =
    let home = o.asker.extension in
    (BadOrder, wide_number o.asker || (refuses o.judged || bad_values o))
    ∷ (FormNotTaken, o.call || (untaken o.groups || (untaken o.owners || untaken o.radios)))
    ∷ (BadRange, bad_range home o.groups || (bad_range home o.owners || bad_range home o.radios))
    ∷ (TooManyNumbers, too_many max_numbers home o.groups || (too_many max_listed_owners home o.owners || too_many max_numbers home o.radios))
    ∷ (NotOwner, any (λ g. w.stands g && not (w.owner g (key o.asker))) (define_groups o))
    ∷ (TooManyOwners, any (λ g. ltb max_owners (t.owners g)) (define_groups o))
    ∷ (Full, ltb max_groups t.groups || ltb max_pairs t.pairs)
    ∷ (NoRoom, ltb room (length (outgoing w t (define o room))))
    ∷ []
tests w t (delete o room) =
    let home = o.asker.extension in
    (BadOrder, wide_number o.asker || (bad_list (some o.groups) || (bad_list o.radios || (present o.radios && not o.deassign))))
    ∷ (FormNotTaken, untaken (some o.groups) || untaken o.radios)
    ∷ (BadRange, bad_range home (some o.groups) || bad_range home o.radios)
    ∷ (TooManyNumbers, too_many max_numbers home (some o.groups) || too_many max_numbers home o.radios)
    ∷ (NoSuchGroup, any (λ g. not (w.stands g)) (delete_groups o))
    ∷ (NotOwner, any (λ g. not (w.owner g (key o.asker))) (delete_groups o))
    ∷ (NothingToDo, not o.delete && not o.deassign)
    ∷ (NoRoom, ltb room (length (outgoing w t (delete o room))))
    ∷ []
tests w t (answer a) =
    (BadOrder, wide_number a.radio || (wide_number a.group || (eqb a.result 0 || ltb 4 a.result)))
    ∷ (NoSuchGroup, not (w.stands (key a.group)))
    ∷ (NotOpen, not (open? a.kind (w.mark (key a.group) (key a.radio))))
    ∷ []
tests w t (handover o) =
    let home = o.asker.extension in
    (BadOrder, wide_number o.asker || (bad_identity o.group || bad_list (some o.owners)))
    ∷ (FormNotTaken, short o.group || untaken (some o.owners))
    ∷ (BadRange, bad_range home (some o.owners))
    ∷ (TooManyNumbers, too_many max_listed_owners home (some o.owners))
    ∷ (NoSuchGroup, not (w.stands (handover_group o)))
    ∷ (NotOwner, not (w.owner (handover_group o) (key o.asker)))
    ∷ []
tests w t tick = []

abbrev pub refusal : World → Tally → Step → Option Refusal
refusal w t s = first (tests w t s)

-- ---- list and show: an asker, a group, as handed over ----

abbrev pub ask_tests : World → Number → Number → List (Refusal × Bool)
ask_tests w asker g =
    (BadOrder, wide_number asker || wide_number g)
    ∷ (NoSuchGroup, not (w.stands (key g)))
    ∷ (NotOwner, not (w.owner (key g) (key asker)))
    ∷ []

abbrev pub show_refusal : World → Number → Number → Option Refusal
show_refusal w asker g = first (ask_tests w asker g)

-- with the radios that the list would hold, and the room for them
abbrev pub list_tests : World → Number → Number → List ℕ → ℕ → List (Refusal × Bool)
list_tests w asker g radios room = ask_tests w asker g ++ ((NoRoom, ltb room (length radios)) ∷ [])

abbrev pub list_refusal : World → Number → Number → List ℕ → ℕ → Option Refusal
list_refusal w asker g radios room = first (list_tests w asker g radios room)
