-- How radios leave a group: an acknowledged deassign takes none away; three ways take a pair away, and of a group that stands no other does.
use Prim.Native.Nat.{ℕ}
use mathlib.Core.Path.{◌≡◌, refl, sym, ◌∙◌, ap}
use mathlib.Core.Bool.{Bool, true, false, cond, ◌&&◌, ◌||◌}
use mathlib.Core.List.{[], ◌∷◌}
use mathlib.Core.Option.{Option, none, some}
use lib.Dec.{eqb, ltb}
use native.Mathlib.Omega.{arith}
use borrow.Author.Tests.{eqb-true, eqb-false, eq-eqb, ne_eqb, ltb-false, not-false}
use Rattle.rules.specs.Lists.{mem, present, turned}
use Rattle.rules.specs.Number.{key, wide_number}
use Rattle.rules.specs.Mark.{Mark, none_wanted, leaving, fresh, begun, ticked, open?, answered}
use Rattle.rules.specs.Order.{Delete, Answer, Step, define, delete, answer, handover, tick}
use Rattle.rules.specs.Order.{define_groups, define_radios, delete_groups, leaves, handover_group}
use Rattle.rules.specs.World.{World}
use Rattle.rules.specs.Effect.{parted, effect}
use Rattle.rules.specs.Change.{after}
use Rattle.rules.specs.Refusals.{accepted}
use Rattle.rules.specs.History.{History, ◌then◌, world, stands, mark, refusal_in}
use Rattle.rules.specs.Leaving.{Acknowledged, names, LeavesAll, OpenAnswer, LetsGo, unacknowledged, let_go, declined}
use Rattle.rules.specs.declared.AnswerKind.{AnswerKind}
use Rattle.rules.specs.declared.AnswerKind.TheVariants.{Assignment, Deassignment}
use Rattle.rules.proofs.Tests.{split, clash, and_in, and_l, and_r, or_l, or_r}
use Rattle.rules.proofs.LawOrder.{tests-pass}
use Rattle.rules.proofs.Written.{none-refused}
use Rattle.rules.proofs.Anew.{tests_in, world-taken}
use Rattle.rules.proofs.Visitor.{turned_same}
use Rattle.rules.proofs.Ownership.{either}

-- ---- an acknowledged deassign ----

module _ (h : History) (o : Delete) (room : ℕ) (k : Acknowledged o) where
  pairs-leaving : parted o ≡ some (fresh leaving)
  pairs-leaving = rw (k.groups_stay, k.asked) refl

  -- the pair's mark, by whether it is to leave
  abbrev turned_by : Bool → Option Mark → Option Mark
  turned_by b x = turned (λ m. cond b (parted o) (some m)) x

  turned-stays : (b : Bool) (x : Option Mark) → present (turned_by b x) ≡ present x
  turned-stays b none = refl
  turned-stays true (some m) = rw pairs-leaving refl
  turned-stays false (some m) = refl

  turned-leaving : (b : Bool) (x : Option Mark) → b ≡ true → present x ≡ true → turned_by b x ≡ some (fresh leaving)
  turned-leaving b none e p = clash (sym p)
  turned-leaving b (some m) e p = rw (e, pairs-leaving) refl

  -- its groups stay, so that a radio is to leave by deassignment alone
  by_name : (g r : ℕ) → (mem g (delete_groups o) && leaves o r) ≡ names o g r
  by_name g r = rw k.groups_stay refl

  pub leaves_all : LeavesAll h o room
  leaves_all = record {
    stays = λ g r. either (accepted (refusal_in h (delete o room))) (λ w. present (w.mark g r) ≡ present (mark h g r))
        (after (world h) (effect (world h) (delete o room))) (world h)
        (turned-stays (mem g (delete_groups o) && leaves o r) (mark h g r)) refl;
    others = λ g r n. either (accepted (refusal_in h (delete o room))) (λ w. w.mark g r ≡ mark h g r)
        (after (world h) (effect (world h) (delete o room))) (world h)
        (turned_same _ (λ m. rw (by_name g r ∙ n) refl) (mark h g r)) refl;
    named = λ e g r n p. ap (λ (w : World). w.mark g r) (world-taken h (delete o room) e)
        ∙ turned-leaving (mem g (delete_groups o) && leaves o r) (mark h g r) (by_name g r ∙ n) p;
  }

-- ---- a pair that is there before a step, and not after it, though its group stands ----

-- a pair that stays or is set is there
still : {P : Type 0} (b : Bool) (y : Mark) (f : Mark → Mark) (x : Option Mark) → present x ≡ true
    → cond b (some y) (turned (λ m. some (f m)) x) ≡ none → P
still b y f none p e = clash (sym p)
still true y f (some m) p e = clash (ap present e)
still false y f (some m) p e = clash (ap present e)

-- it was to go, and nothing is left of it
gone : (b : Bool) (left x : Option Mark) → present x ≡ true → turned (λ m. cond b left (some m)) x ≡ none → (b ≡ true) × (left ≡ none)
gone b left none p e = clash (sym p)
gone true left (some m) p e = (refl, e)
gone false left (some m) p e = clash (ap present e)

-- and where it was to go with nothing left, it is gone
goes : (b : Bool) (left x : Option Mark) → b ≡ true → left ≡ none → turned (λ m. cond b left (some m)) x ≡ none
goes b left none p q = refl
goes b left (some m) p q = rw (p, q) refl

module _ (h : History) (g r : ℕ) where
  -- an accepted answer for the pair whose result leaves nothing
  answer-goes : (what : AnswerKind) (a : Answer) → OpenAnswer h g r what a → answered what a.result ≡ none → refusal_in h (answer a) ≡ none
      → mark (h then answer a) g r ≡ none
  answer-goes what a k n e =
      let here = and_in (eq-eqb g (key a.group) (sym k.group)) (eq-eqb r (key a.radio) (sym k.radio)) in
      ap (λ (w : World). w.mark g r) (world-taken h (answer a) e)
      ∙ goes (eqb g (key a.group) && eqb r (key a.radio)) (answered a.kind a.result) (mark h g r) here
      (ap (λ (x : AnswerKind). answered x a.result) k.kind ∙ n)

  -- each of the three takes the pair away, where it is accepted, whatever its state was
  pub lets_go : (s : Step) → LetsGo h g r s → refusal_in h s ≡ none → mark (h then s) g r ≡ none
  lets_go _ (unacknowledged o room stays silent named) e =
      ap (λ (w : World). w.mark g r) (world-taken h (delete o room) e)
      ∙ goes (mem g (delete_groups o) && leaves o r) (parted o) (mark h g r) (rw stays named) (rw (stays, silent) refl)
  lets_go _ (let_go a k one) e = answer-goes Deassignment a k (rw one refl) e
  lets_go _ (declined a k more few) e = answer-goes Assignment a k (rw (ne_eqb a.result 1 (λ (q : a.result ≡ 1). omega (arith, more, q))) refl) e

module _ (h : History) (g r : ℕ) (there : present (mark h g r) ≡ true) where
  module _ (a : Answer) (e : refusal_in h (answer a) ≡ none) (k : (eqb g (key a.group) && eqb r (key a.radio)) ≡ true) where
    abbrev is_zero : Bool
    is_zero = eqb a.result 0

    -- the result is one of 1 to 4
    in-range : (is_zero || ltb 4 a.result) ≡ false
    in-range = or_r (wide_number a.group) (is_zero || ltb 4 a.result)
        (or_r (wide_number a.radio) (wide_number a.group || (is_zero || ltb 4 a.result)) (tests-pass (tests_in h (answer a)) e 0))

    answers : (kind : AnswerKind) → a.kind ≡ kind → OpenAnswer h g r kind a
    answers kind q =
        let group = eqb-true g (key a.group) (and_l (eqb g (key a.group)) (eqb r (key a.radio)) k) in
        let radio = eqb-true r (key a.radio) (and_r (eqb g (key a.group)) (eqb r (key a.radio)) k) in
        let is_open = not-false (open? a.kind (mark h (key a.group) (key a.radio))) (tests-pass (tests_in h (answer a)) e 2) in
        record { group = sym group; radio = sym radio; kind = q; is_open = (λ i. open? (sym q i) (mark h (group i) (radio i))) ∙ is_open }

    answer-left : (kind : AnswerKind) → a.kind ≡ kind → answered kind a.result ≡ none → LetsGo h g r (answer a)
    answer-left Assignment q n =
        declined a (answers Assignment q) (omega (arith, least, other)) (ltb-false 4 a.result (or_r is_zero (ltb 4 a.result) in-range))
      where
        least : a.result ≡ 0 → ⊥
        least = eqb-false a.result 0 (or_l is_zero (ltb 4 a.result) in-range)

        other : a.result ≡ 1 → ⊥
        other = eqb-false a.result 1 (split (eqb a.result 1) (λ y. clash (ap present (rw y at n))) (λ z. z))
    answer-left Deassignment q n = let_go a (answers Deassignment q)
        (eqb-true a.result 1 (split (eqb a.result 1) (λ y. y) (λ z. clash (ap present (rw z at n)))))

  after-left : (s : Step) → refusal_in h s ≡ none → (after (world h) (effect (world h) s)).stands g ≡ true
      → (after (world h) (effect (world h) s)).mark g r ≡ none → LetsGo h g r s
  after-left (define o room) e t n =
      still (mem g (define_groups o) && mem r (define_radios o)) (begun o.acknowledgement) (λ m. m) (mark h g r) there n
  after-left (delete o room) e t n =
      let k = gone (mem g (delete_groups o) && leaves o r) (parted o) (mark h g r) there n in
      let named = and_l (mem g (delete_groups o)) (leaves o r) k.0 in
      let stays : o.delete ≡ false = split o.delete (λ y. clash (sym t ∙ rw (y, named) refl)) (λ z. z) in
      let silent : o.acknowledgement ≡ false = split o.acknowledgement (λ y. clash (ap present (rw (stays, y) at k.1))) (λ z. z) in
      unacknowledged o room stays silent (rw stays at k.0)
  after-left (answer a) e t n =
      let k = gone (eqb g (key a.group) && eqb r (key a.radio)) (answered a.kind a.result) (mark h g r) there n in
      answer-left a e k.0 a.kind refl k.1
  after-left (handover o) e t n = still (mem g (handover_group o ∷ []) && false) (fresh none_wanted) (λ m. m) (mark h g r) there n
  after-left tick e t n = still false (fresh none_wanted) ticked (mark h g r) there n

  pub pair_left : (s : Step) → stands (h then s) g ≡ true → mark (h then s) g r ≡ none → LetsGo h g r s
  pair_left s t n = split (accepted (refusal_in h s))
      (λ y. let e = none-refused (refusal_in h s) y in
      let w = world-taken h s e in
      after-left s e (sym (ap (λ (x : World). x.stands g) w) ∙ t) (sym (ap (λ (x : World). x.mark g r) w) ∙ n))
      (λ z. clash (sym there ∙ ap present (sym (ap (λ (b : Bool). (cond b (after (world h) (effect (world h) s)) (world h)).mark g r) z) ∙ n)))
