-- A group's owners: a define takes none away, a handover leaves exactly those named, and one loses a group by a delete or a handover alone.
use Prim.Native.Nat.{ℕ}
use mathlib.Core.Path.{◌≡◌, refl, sym, ◌∙◌, ap}
use mathlib.Core.Bool.{Bool, true, false, cond, not, ◌&&◌, ◌||◌}
use mathlib.Core.List.{[], ◌∷◌}
use mathlib.Core.Option.{Option, none, some}
use lib.Dec.{eqb}
use borrow.Author.Tests.{eqb-true, not-false}
use Rattle.rules.specs.Lists.{mem, turned}
use Rattle.rules.specs.Number.{key}
use Rattle.rules.specs.Mark.{Mark, none_wanted, fresh}
use Rattle.rules.specs.Order.{Define, Handover, Step, define, delete, answer, handover, tick}
use Rattle.rules.specs.Order.{define_groups, define_owners, delete_groups, handover_group, handover_owners}
use Rattle.rules.specs.World.{World}
use Rattle.rules.specs.Effect.{effect}
use Rattle.rules.specs.Change.{after}
use Rattle.rules.specs.Refusals.{accepted}
use Rattle.rules.specs.History.{History, ◌then◌, world, stands, owner, refusal_in}
use Rattle.rules.specs.Ownership.{TakesAway, deletes, hands_over, Adds, HandsOver}
use Rattle.rules.proofs.Tests.{split, clash, and_l, and_r}
use Rattle.rules.proofs.ListLaws.{eqb_same, any_out}
use Rattle.rules.proofs.Ranges.{asker-among}
use Rattle.rules.proofs.LawOrder.{tests-pass}
use Rattle.rules.proofs.Anew.{tests_in, world-taken}

-- one who owns a group and does not after an effect: it was taken away, or its owners were set without him
lost : (b stay stands comes : Bool) → stands ≡ true → cond b ((stay && stands) || comes) stands ≡ false → (b ≡ true) × (stay ≡ false) × (comes ≡ false)
lost true true stands comes s e = clash (sym (ap (λ (x : Bool). x || comes) s) ∙ e)
lost true false stands comes s e = (refl, refl, e)
lost false stay stands comes s e = clash (sym s ∙ e)

-- what holds of what an accepted step leaves, and of what stood before, holds after the step
pub either : (b : Bool) (P : World → Type 0) (x y : World) → P x → P y → P (cond b x y)
either true P x y p q = p
either false P x y p q = q

module _ (h : History) (g a : ℕ) (owns : owner h g a ≡ true) where
  -- what an accepted step makes of it
  after-lost : (s : Step) → (after (world h) (effect (world h) s)).owner g a ≡ false → TakesAway g a s
  after-lost (define o room) e = clash (lost (mem g (define_groups o)) true (owner h g a) (mem a (define_owners o)) owns e).1
  after-lost (delete o room) e =
      let gone : (o.delete && mem g (delete_groups o)) ≡ true = split (o.delete && mem g (delete_groups o)) (λ y. y) (λ n. clash (cc)) in
      deletes o room (and_l o.delete (mem g (delete_groups o)) gone) (and_r o.delete (mem g (delete_groups o)) gone)
  after-lost (answer x) e = clash (sym owns ∙ e)
  after-lost (handover o) e =
      let l = lost (mem g (handover_group o ∷ [])) false (owner h g a) (mem a (handover_owners o)) owns e in
      hands_over o (split (eqb g (handover_group o)) (λ y. y) (λ n. clash (cc l.0))) l.2
  after-lost tick e = clash (sym owns ∙ e)

  -- one loses a group by its delete or by a handover without him, and by no other step
  pub owner-lost : (s : Step) → owner (h then s) g a ≡ false → TakesAway g a s
  owner-lost s = either (accepted (refusal_in h s)) (λ w. w.owner g a ≡ false → TakesAway g a s) (after (world h) (effect (world h) s)) (world h)
      (after-lost s) (λ e. clash (sym owns ∙ e))

  -- "the creator lost the group": by no define
  pub define-keeps : (o : Define) (room : ℕ) → owner (h then define o room) g a ≡ true
  define-keeps o room = either (accepted (refusal_in h (define o room))) (λ w. w.owner g a ≡ true)
      (after (world h) (effect (world h) (define o room))) (world h)
      (split (mem g (define_groups o)) (λ m. rw (m, owns) refl) (λ m. rw (m, owns) refl)) owns

pub define-adds : (h : History) (o : Define) (room : ℕ) → refusal_in h (define o room) ≡ none → Adds h o room
define-adds h o room e = record {
  owned = λ g m t. not-false (owner h g (key o.asker))
      (let q = any_out (λ g. stands h g && not (owner h g (key o.asker))) g (define_groups o) (tests-pass (tests_in h (define o room)) e 4) m in
      cc (t, q));
  named = λ g a m. says g a ∙ rw m refl;
  others = λ g a m. says g a ∙ rw m refl;
}
  where
    says : (g a : ℕ) → owner (h then define o room) g a ≡ (after (world h) (effect (world h) (define o room))).owner g a
    says g a = ap (λ (w : World). w.owner g a) (world-taken h (define o room) e)

pub handover-sets : (h : History) (o : Handover) → refusal_in h (handover o) ≡ none → HandsOver h o
handover-sets h o e = record {
  owned = not-false (owner h (handover_group o) (key o.asker)) (tests-pass (tests_in h (handover o)) e 5);
  exactly = owners;
  asker = owners _ ∙ asker-among o.asker (some o.owners);
  others = λ g a n. ap (λ (w : World). w.owner g a) taken ∙ rw n refl;
  stood = ap (λ (w : World). w.stands (handover_group o)) taken ∙ rw (eqb_same (handover_group o)) refl;
  groups = λ g. ap (λ (w : World). w.stands g) taken ∙ split (eqb g (handover_group o))
      (λ y. cc (eqb-true g (handover_group o) y, there))
      (λ n. rw n refl);
  parameters = λ g. ap (λ (w : World). w.parameters g) taken ∙ split (eqb g (handover_group o)) (λ y. rw y refl) (λ n. rw n refl);
  pairs = λ g r. ap (λ (w : World). w.mark g r) taken ∙ same (mem g (handover_group o ∷ [])) ((world h).mark g r);
}
  where
    taken : world (h then handover o) ≡ after (world h) (effect (world h) (handover o))
    taken = world-taken h (handover o) e

    owners : (a : ℕ) → owner (h then handover o) (handover_group o) a ≡ mem a (handover_owners o)
    owners a = ap (λ (w : World). w.owner (handover_group o) a) taken ∙ rw (eqb_same (handover_group o)) refl

    -- 12 was passed
    there : stands h (handover_group o) ≡ true
    there = not-false (stands h (handover_group o)) (tests-pass (tests_in h (handover o)) e 4)

    same : (b : Bool) (m : Option Mark) → cond (b && false) (some (fresh none_wanted)) (turned (λ m. some m) m) ≡ m
    same true none = refl
    same true (some m) = refl
    same false none = refl
    same false (some m) = refl
