-- The written form is kept by every step on any ledger that has it, and `empty` has it: no run from empty meets refusal 18.
use Prim.Native.Nat.{ℕ, ◌≤◌, ◌<◌}
use mathlib.Core.Path.{◌≡◌, refl, sym, ◌∙◌, ap}
use mathlib.Core.Bool.{Bool, true, false, cond, not, ◌&&◌, ◌||◌}
use mathlib.Core.List.{List, [], ◌∷◌, ◌++◌}
use mathlib.Core.Option.{Option, none, some}
use lib.Dec.{eqb, ltb, leb}
use lib.ListN.{length}
use native.Mathlib.Omega.{arith}
use borrow.Author.Tests.{eqb-true, ltb-true, ltb-false, leb-true, le-leb, not-true}
use Rattle.refusal.specs.declared.Refusal.{Refusal}
use Rattle.rules.specs.Lists.{any, all, present, turned, mem, rising}
use Rattle.rules.specs.Entries.{find}
use Rattle.rules.specs.Number.{key, identified, wide, wide_number, wide_key, bad_identity, bad_list, short, untaken}
use Rattle.rules.specs.Named.{max_listed_owners, numbers_in}
use Rattle.rules.specs.Parameters.{no_parameters, replaced, bad_parameters}
use Rattle.rules.specs.Mark.{Mark, ticked}
use Rattle.rules.specs.Owners.{added, max_owners}
use Rattle.rules.specs.Order.{Define, Delete, Answer, Handover, Step, define, delete, answer, handover, tick}
use Rattle.rules.specs.Order.{define_groups, define_owners, delete_groups, leaves, handover_group, handover_owners}
use Rattle.rules.specs.Effect.{Effect, only, effect}
use Rattle.rules.specs.Change.{after}
use Rattle.rules.specs.Refusals.{accepted, max_groups, max_pairs, refuses, bad_values, tests}
use Rattle.rules.specs.Ledger.{Group, Pair, same_pair, Ledger, empty, owners_of, group, parameters_of, view, owners}
use Rattle.rules.specs.Placing.{Placing, Lawful}
use Rattle.rules.specs.Steps.{owners_after, group_made, apply, tally, refused, step}
use Rattle.rules.specs.Written.{good_owners, good_group, good_mark, good_pair, written}
use Rattle.rules.specs.History.{History, start, ◌then◌}
use Rattle.rules.specs.Run.{run}
use Rattle.rules.proofs.Tests.{split, clash, and_in, and_l, and_r, or_l, or_r, not_in}
use Rattle.rules.proofs.LawOrder.{tests-pass}
use Rattle.rules.proofs.ListLaws.{eqb_same, mem-later, mem-both, any_out, all_in, length-rising, once-unique}
use Rattle.rules.proofs.EntryLaws.{found_all, all_found, length-alter}
use Rattle.rules.proofs.Pairs.{pair-sound, pair-itself}
use Rattle.rules.proofs.Effects.{Standing, groups-single, pairs-single, standing-apply, group-after, mark-after}
use Rattle.rules.proofs.Walks.{alter-all}
use Rattle.rules.proofs.Steps.{groups-total}
use Rattle.rules.proofs.Keys.{key-narrow}
use Rattle.rules.proofs.Ranges.{identity-narrow, numbers-narrow, owners-good, asker-narrow, asker-few, asker-among}
use Rattle.rules.proofs.Ranges.{replaced-good, begun-good, ticked-good, answered-good, parted-good, left-good}

-- ---- the form, by what is found ----

pub record Form (p : Placing) (l : Ledger) : Type 0 where
  pub standing : Standing p l
  pub few-groups : length l.groups ≤ max_groups
  pub few-pairs : length l.pairs ≤ max_pairs
  pub groups : (g : ℕ) (x : Group) → group l g ≡ some x → good_group p (g, x) ≡ true
  pub marks : (g r : ℕ) (m : Mark) → find same_pair l.pairs (g, r) ≡ some m → (wide_key r ≡ false) × (good_mark m ≡ true)
  pub there : (g r : ℕ) → present (find same_pair l.pairs (g, r)) ≡ true → present (group l g) ≡ true

module _ (p : Placing) (laws : Lawful p) (l : Ledger) where
  pub form-written : Form p l → written p l ≡ true
  form-written f =
      and_in (le-leb (length l.groups) max_groups f.few-groups)
      (and_in (le-leb (length l.pairs) max_pairs f.few-pairs)
      (and_in f.standing.groups
      (and_in f.standing.pairs
      (and_in (all_found eqb eqb-true eqb_same (good_group p) l.groups (groups-single p laws l f.standing) f.groups)
      (all_found same_pair pair-sound pair-itself (good_pair l) l.pairs (pairs-single p laws l f.standing)
      (λ k m e. let q = f.marks k.0 k.1 m e in
      and_in (not_in (wide_key k.1) q.0) (and_in q.1 (f.there k.0 k.1 (cc)))))))))

module _ (p : Placing) (l : Ledger) where
  pub written-form : written p l ≡ true → Form p l
  written-form h =
      let few_groups = leb (length l.groups) max_groups in
      let few_pairs = leb (length l.pairs) max_pairs in
      let groups_stand = p.groups.form l.groups in
      let pairs_stand = p.pairs.form l.pairs in
      let good_groups = all (good_group p) l.groups in
      let good_pairs = all (good_pair l) l.pairs in
      let good = good_groups && good_pairs in
      let h₁ = and_r few_groups (few_pairs && (groups_stand && (pairs_stand && good))) h in
      let h₂ = and_r few_pairs (groups_stand && (pairs_stand && good)) h₁ in
      let h₃ = and_r groups_stand (pairs_stand && good) h₂ in
      let h₄ = and_r pairs_stand good h₃ in
      record {
        standing = record { groups = and_l groups_stand (pairs_stand && good) h₂; pairs = and_l pairs_stand good h₃ };
        few-groups = leb-true (length l.groups) max_groups (and_l few_groups (few_pairs && (groups_stand && (pairs_stand && good))) h);
        few-pairs = leb-true (length l.pairs) max_pairs (and_l few_pairs (groups_stand && (pairs_stand && good)) h₁);
        groups = found_all eqb eqb-true (good_group p) l.groups (and_l good_groups good_pairs h₄);
        marks = λ g r m e. let q = pair g r m (and_r good_groups good_pairs h₄) e in (
          not-true (wide_key r) (and_l (not (wide_key r)) (good_mark m && present (group l g)) q),
          and_l (good_mark m) (present (group l g)) (and_r (not (wide_key r)) (good_mark m && present (group l g)) q),
        );
        there = λ g r e. stands g r (and_r good_groups good_pairs h₄) (find same_pair l.pairs (g, r)) refl e;
      }
    where
      pair : (g r : ℕ) (m : Mark) → all (good_pair l) l.pairs ≡ true → find same_pair l.pairs (g, r) ≡ some m → good_pair l ((g, r), m) ≡ true
      pair g r m a e = found_all same_pair pair-sound (good_pair l) l.pairs a (g, r) m e

      stands : (g r : ℕ) → all (good_pair l) l.pairs ≡ true → (o : Option Mark) → find same_pair l.pairs (g, r) ≡ o
          → present o ≡ true → present (group l g) ≡ true
      stands g r a none q e = clash (sym e)
      stands g r a (some m) q e =
          and_r (good_mark m) (present (group l g)) (and_r (not (wide_key r)) (good_mark m && present (group l g)) (pair g r m a q))

-- every pair is good
pub pairs-good : (p : Placing) (l : Ledger) → written p l ≡ true → all (good_pair l) l.pairs ≡ true
pairs-good p l h =
    let good = all (good_group p) l.groups && all (good_pair l) l.pairs in
    let groups_stand = p.groups.form l.groups in
    let pairs_stand = p.pairs.form l.pairs in
    let h₁ = and_r (leb (length l.groups) max_groups) (leb (length l.pairs) max_pairs && (groups_stand && (pairs_stand && good))) h in
    let h₂ = and_r (leb (length l.pairs) max_pairs) (groups_stand && (pairs_stand && good)) h₁ in
    and_r (all (good_group p) l.groups) (all (good_pair l) l.pairs) (and_r pairs_stand good (and_r groups_stand (pairs_stand && good) h₂))

-- what is good of a group's owners
pub record GoodOwners (p : Placing) (os : List ℕ) : Type 0 where
  pub some : 0 < length os
  pub few : length os ≤ max_owners
  pub form : p.owners.form os ≡ true
  pub narrow : (a : ℕ) → mem a os ≡ true → wide_key a ≡ false

pub good-owners : (p : Placing) (l : Ledger) → Form p l → (g : ℕ) (x : Group) → group l g ≡ some x → GoodOwners p x.owners
good-owners p l f g x e =
    let os = x.owners in
    let there = ltb 0 (length os) in
    let few_owners = leb (length os) max_owners in
    let stands = p.owners.form os in
    let narrow_all = all (λ a. not (wide_key a)) os in
    let bad = bad_parameters x.parameters in
    let h₁ = and_l (good_owners p os) (not bad) (and_r (not (wide_key g)) (good_owners p os && not bad) (f.groups g x e)) in
    let h₂ = and_r there (few_owners && (stands && narrow_all)) h₁ in
    let h₃ = and_r few_owners (stands && narrow_all) h₂ in
    record {
      some = ltb-true 0 (length os) (and_l there (few_owners && (stands && narrow_all)) h₁);
      few = leb-true (length os) max_owners (and_l few_owners (stands && narrow_all) h₂);
      form = and_l stands narrow_all h₃;
      narrow = λ a m. not-true (wide_key a) (all_in (λ a. not (wide_key a)) a os (and_r stands narrow_all h₃) m);
    }

-- whoever owns a group that stands is in range
pub standing-narrow : (p : Placing) (l : Ledger) → Form p l → (g a : ℕ) → mem a (owners_of (group l g)) ≡ true → wide_key a ≡ false
standing-narrow p l f g a = go (group l g) refl
  where
    go : (x : Option Group) → group l g ≡ x → mem a (owners_of x) ≡ true → wide_key a ≡ false
    go none q e = clash (sym e)
    go (some x) q e = (good-owners p l f g x q).narrow a e

-- ---- what an effect needs so that the form stays ----

abbrev GoodOption : Placing → Option Group → Type 0
GoodOption p none = Unit {0}
GoodOption p (some x) = (good_owners p x.owners ≡ true) × (bad_parameters x.parameters ≡ false)

replaced-fit : (p : Placing) (e : Effect) (x : Option Group) → bad_parameters e.parameters ≡ false → GoodOption p x
    → bad_parameters (replaced e.parameters (parameters_of x)) ≡ false
replaced-fit p e none h k = replaced-good e.parameters no_parameters h refl
replaced-fit p e (some x) h k = replaced-good e.parameters x.parameters h k.1

good-option : (p : Placing) (l : Ledger) → Form p l → (g : ℕ) → GoodOption p (group l g)
good-option p l f g = go (group l g) (f.groups g)
  where
    go : (o : Option Group) → ((x : Group) → o ≡ some x → good_group p (g, x) ≡ true) → GoodOption p o
    go none h = tt
    go (some x) h =
        let k = and_r (not (wide_key g)) (good_owners p x.owners && not (bad_parameters x.parameters)) (h x refl) in (
          and_l (good_owners p x.owners) (not (bad_parameters x.parameters)) k,
          not-true (bad_parameters x.parameters) (and_r (good_owners p x.owners) (not (bad_parameters x.parameters)) k),
        )

record Fit (p : Placing) (l : Ledger) (e : Effect) : Type 0 where
  makes : (g : ℕ) → mem g e.makes ≡ true → (wide_key g ≡ false) × (good_owners p (owners_after p e.owners (group l g)) ≡ true)
  parameters : bad_parameters e.parameters ≡ false
  assigns : (r : ℕ) → mem r e.assigns ≡ true → wide_key r ≡ false
  begins : good_mark e.begins ≡ true
  turns : (g r : ℕ) (m m' : Mark) → good_mark m ≡ true → e.turns g r m ≡ some m' → good_mark m' ≡ true
  removes : (g r : ℕ) (m : Mark) → e.removes g ≡ true → e.turns g r m ≡ none
  few-groups : length (apply p l e).groups ≤ max_groups
  few-pairs : length (apply p l e).pairs ≤ max_pairs

module _ (p : Placing) (laws : Lawful p) (l : Ledger) (f : Form p l) (e : Effect) (fit : Fit p l e) where
  group-then : (g : ℕ) → group (apply p l e) g ≡ cond (mem g e.makes) (some (group_made p l e g))
      (cond (e.removes g) none (group l g))
  group-then = group-after p laws l f.standing e

  mark-then : (g r : ℕ) → find same_pair (apply p l e).pairs (g, r) ≡ (after (view l) e).mark g r
  mark-then = mark-after p laws l f.standing e

  form-apply : Form p (apply p l e)
  form-apply = record {
    standing = standing-apply p laws l f.standing e;
    few-groups = fit.few-groups;
    few-pairs = fit.few-pairs;
    groups = λ g x k. split (mem g e.makes)
        (λ a. made g x a (cc (group-then g)))
        (λ a. split (e.removes g) (λ b. clash (cc (group-then g))) (λ b. f.groups g x (cc (group-then g))));
    marks = λ g r m k. split (mem g e.makes && mem r e.assigns)
        (λ a. (fit.assigns r (and_r (mem g e.makes) (mem r e.assigns) a), left-good e.begins m fit.begins (cc (mark-then g r))))
        (λ a. turn g r m (find same_pair l.pairs (g, r)) refl (cc (mark-then g r)));
    there = λ g r k. split (mem g e.makes)
        (λ a. cc (group-then g))
        (λ a. stay g r a (find same_pair l.pairs (g, r)) refl (cc (mark-then g r)));
  }
    where
      made : (g : ℕ) (x : Group) → mem g e.makes ≡ true → some (group_made p l e g) ≡ some x → good_group p (g, x) ≡ true
      made g x a k =
          let q : group_made p l e g ≡ x = cc in
          let good = good-option p l f g in
          sym (ap (λ (y : Group). good_group p (g, y)) q) ∙ and_in (not_in (wide_key g) (fit.makes g a).0) (and_in
          (fit.makes g a).1
          (not_in (bad_parameters (replaced e.parameters (parameters_of (group l g)))) (replaced-fit p e (group l g) fit.parameters good)))

      turn : (g r : ℕ) (m : Mark) (o : Option Mark) → find same_pair l.pairs (g, r) ≡ o → turned (e.turns g r) o ≡ some m
          → (wide_key r ≡ false) × (good_mark m ≡ true)
      turn g r m none q k = clash (cc)
      turn g r m (some m₀) q k = ((f.marks g r m₀ q).0, fit.turns g r m₀ m (f.marks g r m₀ q).1 k)

      stay : (g r : ℕ) → mem g e.makes ≡ false → (o : Option Mark) → find same_pair l.pairs (g, r) ≡ o
          → present (turned (e.turns g r) o) ≡ true → present (group (apply p l e) g) ≡ true
      stay g r a none q k = clash (sym k)
      stay g r a (some m₀) q k = split (e.removes g)
          (λ b. clash (cc (fit.removes g r m₀ b)))
          (λ b. cc (group-then g, f.there g r (cc)))

-- ---- the steps ----

pub none-refused : (r : Option Refusal) → accepted r ≡ true → r ≡ none
none-refused none e = refl
none-refused (some r) e = clash (sym e)

module _ (p : Placing) (laws : Lawful p) where
  -- a define that passes 21 leaves no named group with more owners than may be
  pub few-owners : (l : Ledger) → Form p l → (o : Define) (room : ℕ)
      → any (λ g. ltb max_owners ((tally p l (effect (view l) (define o room))).owners g)) (define_groups o) ≡ false
      → (g : ℕ) → mem g (define_groups o) ≡ true → length (owners_after p (added (define_owners o)) (group l g)) ≤ max_owners
  few-owners l f o room h g m =
      let e = effect (view l) (define o room) in
      let os = owners_after p (added (define_owners o)) (group l g) in
      let made : group (apply p l e) g ≡ some (group_made p l e g) = group-after p laws l f.standing e g ∙ rw m in
      let once = once-unique os (laws.owners.single os (laws.owners.stays _)) in
      let count = ap (λ (x : Option Group). length (rising (owners_of x))) made ∙ length-rising os once in
      let few = ltb-false max_owners (length (owners (apply p l e) g)) (any_out (λ g. ltb max_owners (length (owners (apply p l e) g))) g (define_groups o) h m) in
      omega (arith, count)

  define-fit : (l : Ledger) → Form p l → (o : Define) (room : ℕ) → refused p l (define o room) ≡ none → Fit p l (effect (view l) (define o room))
  define-fit l f o room e =
      let l' = apply p l (effect (view l) (define o room)) in
      let t = tests (view l) (tally p l (effect (view l) (define o room))) (define o room) in
      let bad = tests-pass t e 0 in
      let x = o.asker.extension in
      let many_groups = ltb max_groups (length l'.groups) in
      let many_pairs = ltb max_pairs (length l'.pairs) in
      let full = tests-pass t e 6 in
      let asker = or_l (wide_number o.asker) (refuses o.judged || bad_values o) bad in
      let home = or_r (wide o.asker.ssi) (wide o.asker.extension) asker in
      let b₁ = or_r (refuses o.judged) (bad_values o) (or_r (wide_number o.asker) (refuses o.judged || bad_values o) bad) in
      let b₂ = or_r (bad_list o.groups) (bad_list o.owners || (bad_list o.radios || bad_parameters o.parameters)) b₁ in
      let b₃ = or_r (bad_list o.owners) (bad_list o.radios || bad_parameters o.parameters) b₂ in
      let u₁ = or_r o.call (untaken o.groups || (untaken o.owners || untaken o.radios)) (tests-pass t e 1) in
      let u₂ = or_r (untaken o.groups) (untaken o.owners || untaken o.radios) u₁ in
      let bad_owners = or_l (bad_list o.owners) (bad_list o.radios || bad_parameters o.parameters) b₂ in
      record {
        makes = λ g k. (
          numbers-narrow x o.groups home
              (or_l (bad_list o.groups) (bad_list o.owners || (bad_list o.radios || bad_parameters o.parameters)) b₁)
              (or_l (untaken o.groups) (untaken o.owners || untaken o.radios) u₁) g k,
          owners-good p laws (owners_of (group l g) ++ define_owners o) (key o.asker)
              (mem-later (key o.asker) (owners_of (group l g)) (define_owners o) (asker-among o.asker o.owners))
              (few-owners l f o room (tests-pass t e 5) g k)
              (mem-both (λ a. wide_key a ≡ false) (owners_of (group l g)) (define_owners o) (standing-narrow p l f g)
              (asker-narrow o.asker o.owners asker bad_owners (or_l (untaken o.owners) (untaken o.radios) u₂))),
        );
        parameters = or_r (bad_list o.radios) (bad_parameters o.parameters) b₃;
        assigns = numbers-narrow x o.radios home (or_l (bad_list o.radios) (bad_parameters o.parameters) b₃)
            (or_r (untaken o.owners) (untaken o.radios) u₂);
        begins = begun-good o.acknowledgement;
        turns = λ g r m m' h k. left-good m m' h k;
        removes = λ g r m k. clash (sym k);
        few-groups = ltb-false max_groups (length l'.groups) (or_l many_groups many_pairs full);
        few-pairs = ltb-false max_pairs (length l'.pairs) (or_r many_groups many_pairs full);
      }

  -- a handover makes no group
  pub handover-count : (l : Ledger) → Form p l → (o : Handover) → refused p l (handover o) ≡ none
      → length (apply p l (effect (view l) (handover o))).groups ≡ length l.groups
  handover-count l f o e =
      let does = effect (view l) (handover o) in
      groups-total p laws l f.standing (handover_group o ∷ []) does.owners does.parameters does.assigns does.begins (refl, tt)
      ∙ rw (tests-pass (tests (view l) (tally p l does) (handover o)) e 4) (omega arith)

  handover-fit : (l : Ledger) → Form p l → (o : Handover) → refused p l (handover o) ≡ none → Fit p l (effect (view l) (handover o))
  handover-fit l f o e =
      let x = o.asker.extension in
      let list = some o.owners in
      let g₀ = handover_group o in
      let t = tests (view l) (tally p l (effect (view l) (handover o))) (handover o) in
      let bad = tests-pass t e 0 in
      let form = tests-pass t e 1 in
      let asker = or_l (wide_number o.asker) (bad_identity o.group || bad_list list) bad in
      let home = or_r (wide o.asker.ssi) (wide o.asker.extension) asker in
      let b = or_r (wide_number o.asker) (bad_identity o.group || bad_list list) bad in
      let narrow = identity-narrow x o.group home (or_l (bad_identity o.group) (bad_list list) b) (or_l (short o.group) (untaken list) form) in
      record {
        makes = λ g k. (
          ap wide_key (eqb-true g g₀ (split (eqb g g₀) (λ q. q) (λ q. clash (cc)))) ∙ key-narrow (identified x o.group) narrow,
          owners-good p laws (handover_owners o) (key o.asker) (asker-among o.asker list)
              (omega (arith, asker-few p laws o.asker list, ltb-false max_listed_owners (length (numbers_in x list)) (tests-pass t e 3)))
              (asker-narrow o.asker list asker (or_r (bad_identity o.group) (bad_list list) b) (or_r (short o.group) (untaken list) form)),
        );
        parameters = refl;
        assigns = λ r k. clash (sym k);
        begins = refl;
        turns = λ g r m m' h k. left-good m m' h k;
        removes = λ g r m k. clash (sym k);
        few-groups = omega (arith, f.few-groups, handover-count l f o e);
        few-pairs = rw (alter-all l.pairs) f.few-pairs;
      }

  -- a step that makes no group: groups go and pairs turn
  only-fit : (l : Ledger) → Form p l → (removes : ℕ → Bool) (turns : ℕ → ℕ → Mark → Option Mark)
      → ((g r : ℕ) (m m' : Mark) → good_mark m ≡ true → turns g r m ≡ some m' → good_mark m' ≡ true)
      → ((g r : ℕ) (m : Mark) → removes g ≡ true → turns g r m ≡ none)
      → Fit p l (only removes turns)
  only-fit l f removes turns t v = record {
    makes = λ g k. clash (sym k);
    parameters = refl;
    assigns = λ r k. clash (sym k);
    begins = refl;
    turns = t;
    removes = v;
    few-groups = let h = length-alter (λ g x. cond (removes g) none (some x)) l.groups in let k = f.few-groups in omega arith;
    few-pairs = let h = length-alter (λ (k : Pair). turns k.0 k.1) l.pairs in let k = f.few-pairs in omega arith;
  }

  delete-fit : (l : Ledger) → Form p l → (o : Delete) (room : ℕ) → Fit p l (effect (view l) (delete o room))
  delete-fit l f o room = only-fit l f (λ g. o.delete && mem g (delete_groups o)) _
      (λ g r m m' h k. split (mem g (delete_groups o) && leaves o r)
      (λ a. parted-good o m' (cc))
      (λ a. left-good m m' h (cc)))
      (λ g r m k. split o.delete (λ a. cc) (λ a. clash (cc)))

  answer-fit : (l : Ledger) → Form p l → (a : Answer) → Fit p l (effect (view l) (answer a))
  answer-fit l f a = only-fit l f (λ g. false) _
      (λ g r m m' h k. split (eqb g (key a.group) && eqb r (key a.radio))
      (λ b. answered-good a.kind a.result m' (cc))
      (λ b. left-good m m' h (cc)))
      (λ g r m k. clash (sym k))

  tick-fit : (l : Ledger) → Form p l → Fit p l (effect (view l) tick)
  tick-fit l f = only-fit l f (λ g. false) _
      (λ g r m m' h k. left-good (ticked m) m' (ticked-good m h) k)
      (λ g r m k. clash (sym k))

  step-fit : (l : Ledger) → Form p l → (s : Step) → refused p l s ≡ none → Fit p l (effect (view l) s)
  step-fit l f (define o room) e = define-fit l f o room e
  step-fit l f (delete o room) e = delete-fit l f o room
  step-fit l f (answer a) e = answer-fit l f a
  step-fit l f (handover o) e = handover-fit l f o e
  step-fit l f tick e = tick-fit l f

module _ (p : Placing) (laws : Lawful p) where
  step-form : (l : Ledger) (s : Step) → Form p l → Form p (step p l s)
  step-form l s f = split (accepted (refused p l s))
      (λ e. rw e (form-apply p laws l f (effect (view l) s) (step-fit p laws l f s (none-refused (refused p l s) e))))
      (λ e. rw e f)

  -- every step keeps the written form, on any ledger that has it
  pub step-written : (l : Ledger) (s : Step) → written p l ≡ true → written p (step p l s) ≡ true
  step-written l s h = form-written p laws (step p l s) (step-form l s (written-form p l h))

  pub empty-written : written p empty ≡ true
  empty-written = rw (laws.groups.begins, laws.pairs.begins) refl

  -- "never after own operations from empty"
  pub run-written : (h : History) → written p (run p h) ≡ true
  run-written start = empty-written
  run-written (h then s) = step-written (run p h) s (run-written h)

  pub run-form : (h : History) → Form p (run p h)
  run-form h = written-form p (run p h) (run-written h)
