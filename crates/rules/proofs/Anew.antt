-- A group that is made starts with what the define gives it and nothing else, whatever was there under its number before.
use Prim.Native.Nat.{ℕ}
use mathlib.Core.Path.{◌≡◌, refl, sym, ◌∙◌, ap, subst}
use mathlib.Core.Bool.{Bool, true, false, cond, not, ◌&&◌}
use mathlib.Core.List.{List, [], ◌∷◌}
use mathlib.Core.Option.{Option, none, some}
use native.Mathlib.Omega.{arith}
use Rattle.rules.specs.Lists.{present, mem}
use Rattle.rules.specs.Number.{Number, key, wide_number}
use Rattle.rules.specs.Named.{numbers_in}
use Rattle.rules.specs.Parameters.{no_parameters, replaced}
use Rattle.rules.specs.Mark.{Mark, begun}
use Rattle.rules.specs.Order.{Define, Delete, Step, define, delete, define_groups, define_radios, define_owners, delete_groups}
use Rattle.rules.specs.World.{World}
use Rattle.rules.specs.Effect.{effect}
use Rattle.rules.specs.Change.{after}
use Rattle.rules.specs.Refusals.{accepted, tests}
use Rattle.rules.specs.Demand.{Owns, told, Exactly}
use Rattle.refusal.specs.declared.Refusal.{Refusal}
use Rattle.rules.specs.Ledger.{Group, group, owners_of, parameters_of, same_pair, list}
use Rattle.rules.specs.Entries.{find}
use Rattle.rules.specs.History.{History, ◌then◌, named_in, tally_in, world, stands, owner, mark, radios_in, refusal_in}
use Rattle.rules.specs.Placing.{Placing, Lawful}
use Rattle.rules.specs.ByNumber.{by_number}
use Rattle.rules.specs.Run.{run}
use Rattle.rules.proofs.Tests.{clash, and_in, or_l}
use Rattle.rules.proofs.LawOrder.{tests-pass}
use Rattle.rules.proofs.ListLaws.{mem-once, mem-head, no_member}
use Rattle.rules.proofs.ByNumber.{by_number_lem}
use Rattle.rules.proofs.Agree.{run_agree}
use Rattle.rules.proofs.Written.{run-form}
use Rattle.rules.proofs.Demand.{radios-marked, list-exact, exactly-unique}

-- nothing is kept of a group that does not stand
pub record Bare (w : World) (g : ℕ) : Type 0 where
  pub owners : (a : ℕ) → w.owner g a ≡ false
  pub parameters : w.parameters g ≡ no_parameters
  pub marks : (r : ℕ) → w.mark g r ≡ none

pub gone-bare : (h : History) (g : ℕ) → stands h g ≡ false → Bare (world h) g
gone-bare h g = subst (λ (w : World). w.stands g ≡ false → Bare w g) (run_agree by_number by_number_lem h)
    (λ e. record {
      owners = λ a. none-owns (group (run by_number h) g) a e;
      parameters = none_has (group (run by_number h) g) e;
      marks = λ r. unmarked r (find same_pair (run by_number h).pairs (g, r)) refl e;
    })
  where
    none-owns : (o : Option Group) (a : ℕ) → present o ≡ false → mem a (owners_of o) ≡ false
    none-owns none a e = refl
    none-owns (some x) a e = clash e

    none_has : (o : Option Group) → present o ≡ false → parameters_of o ≡ no_parameters
    none_has none e = refl
    none_has (some x) e = clash e

    unmarked : (r : ℕ) (o : Option Mark) → find same_pair (run by_number h).pairs (g, r) ≡ o → present (group (run by_number h) g) ≡ false → o ≡ none
    unmarked r none q e = refl
    unmarked r (some m) q e = clash (sym ((run-form by_number by_number_lem h).there g r (ap present q)) ∙ e)

-- the tests of a further step
abbrev pub tests_in : History → Step → List (Refusal × Bool)
tests_in h s = tests (world h) (tally_in (world h) (named_in (h then s)) (effect (world h) s)) s

-- an accepted step has its effect
pub world-taken : (h : History) (s : Step) → refusal_in h s ≡ none → world (h then s) ≡ after (world h) (effect (world h) s)
world-taken h s e = ap (λ (r : Option Refusal). cond (accepted r) (after (world h) (effect (world h) s)) (world h)) e

-- an accepted delete with "delete yes" takes the group away
pub deleted-gone : (h : History) (d : Delete) (room g : ℕ) → refusal_in h (delete d room) ≡ none → d.delete ≡ true → mem g (delete_groups d) ≡ true
    → stands (h then delete d room) g ≡ false
deleted-gone h d room g e y n =
    ap (λ (w : World). w.stands g) (world-taken h (delete d room) e) ∙ ap (λ (b : Bool). not b && stands h g) (and_in y n)

module _ (h : History) (o : Define) (room g : ℕ)
    (gone : stands h g ≡ false) (accepts : refusal_in h (define o room) ≡ none) (names : mem g (define_groups o) ≡ true) where
  -- its radios are those that this define assigns
  pub made-mark : (r : ℕ) → mark (h then define o room) g r ≡ cond (mem r (define_radios o)) (some (begun o.acknowledgement)) none
  made-mark r = ap (λ (w : World). w.mark g r) (world-taken h (define o room) accepts) ∙ rw (names, (gone-bare h g gone).marks r) refl

  -- its owners are the asker and those listed
  pub made-owner : (a : ℕ) → owner (h then define o room) g a ≡ mem a (define_owners o)
  made-owner a = ap (λ (w : World). w.owner g a) (world-taken h (define o room) accepts) ∙ rw (names, (gone-bare h g gone).owners a) refl

  -- its parameters are those of this define
  pub made-parameters : (world (h then define o room)).parameters g ≡ replaced o.parameters no_parameters
  made-parameters = ap (λ (w : World). w.parameters g) (world-taken h (define o room) accepts) ∙ rw (names, (gone-bare h g gone).parameters) refl

  -- with none assigned it has no radio
  made-unmarked : o.radios ≡ none → (r : ℕ) → mark (h then define o room) g r ≡ none
  made-unmarked n r = made-mark r ∙ rw n refl

  made-asker : owner (h then define o room) g (key o.asker) ≡ true
  made-asker =
      let a = key o.asker in
      let listed = numbers_in o.asker.extension o.owners in
      made-owner a ∙ mem-once a (a ∷ listed) ∙ mem-head a listed

  -- the asker of a define that is accepted has numbers of 24 bits
  narrow-asker : wide_number o.asker ≡ false
  narrow-asker = or_l (wide_number o.asker) _ (tests-pass (tests_in h (define o room)) accepts 0)

-- a define that assigns none makes an empty group: the asker's list holds nothing, and needs no room
pub made-empty : (p : Placing) → Lawful p → (h : History) (o : Define) (room : ℕ) (g : Number) → wide_number g ≡ false
    → stands h (key g) ≡ false → refusal_in h (define o room) ≡ none → mem (key g) (define_groups o) ≡ true → o.radios ≡ none
    → (room' : ℕ) → list (run p (h then define o room)) o.asker g room' ≡ record { refused = none; entries = [] }
made-empty p laws h o room g narrow gone accepts names n room' =
    let e = list-exact p laws h' o.asker g room' owned (rw no-radios (omega arith)) in
    λ i. record { refused = e.0 i; entries = exactly-unique h' (key g) _ [] e.1 nothing-listed i }
  where
    h' : History
    h' = h then define o room

    owned : Owns h' o.asker g
    owned = record {
      narrow_asker = narrow-asker h o room (key g) gone accepts names;
      narrow_group = narrow;
      owns = made-asker h o room (key g) gone accepts names;
    }

    unmarked : (r : ℕ) → mark h' (key g) r ≡ none
    unmarked = made-unmarked h o room (key g) gone accepts names n

    no-radios : radios_in h' (key g) ≡ []
    no-radios = no_member (radios_in h' (key g)) (λ r. radios-marked h' (key g) r ∙ ap present (unmarked r))

    nothing-listed : Exactly h' (key g) []
    nothing-listed = record { rises = tt; says = λ r. sym (ap told (unmarked r)) }

-- a group deleted and made again starts empty, whatever radios it had
pub again-empty : (p : Placing) → Lawful p → (h : History) (d : Delete) (o : Define) (g : Number) (room room' room'' : ℕ) → wide_number g ≡ false
    → refusal_in h (delete d room) ≡ none → d.delete ≡ true → mem (key g) (delete_groups d) ≡ true
    → refusal_in (h then delete d room) (define o room') ≡ none → mem (key g) (define_groups o) ≡ true → o.radios ≡ none
    → list (run p (h then delete d room then define o room')) o.asker g room'' ≡ record { refused = none; entries = [] }
again-empty p laws h d o g room room' room'' narrow e y n e' n' r =
    made-empty p laws (h then delete d room) o room' g narrow (deleted-gone h d room (key g) e y n) e' n' r room''
