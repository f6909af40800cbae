-- Document 02, P5: "Demand 3 reads a range as the list of its numbers". A range and the list of its numbers are one to every order.
use Prim.Native.Nat.{ℕ, ◌≤◌}
use mathlib.Core.Path.{◌≡◌, refl, sym, ◌∙◌, ap}
use mathlib.Core.Bool.{Bool, true, false, cond, ◌&&◌}
use mathlib.Core.List.{List, [], ◌∷◌, map}
use mathlib.Core.Option.{Option, some}
use lib.Dec.{eqb, ltb}
use lib.ListN.{length, length-map}
use lib.Seq.{take_all}
use native.Mathlib.Omega.{arith}
use borrow.Author.Tests.{eqb-true, le-ltb}
use Rattle.rules.specs.Lists.{any, mem, once, present}
use Rattle.rules.specs.Number.{Identity, Numbers, count, used, identified, identity_key}
use Rattle.rules.specs.Named.{numbers, numbers_in, crossed, bad_range}
use Rattle.rules.specs.Number.{wide, wide_key, bad_identity, bad_list, untaken}
use Rattle.rules.specs.Order.{Step}
use Rattle.rules.specs.World.{World, Tally}
use Rattle.rules.specs.Effect.{Effect, effect}
use Rattle.rules.specs.Outgoing.{outgoing}
use Rattle.rules.specs.Refusals.{first, accepted, refusal, tests}
use Rattle.rules.specs.Ledger.{Ledger, view}
use Rattle.rules.specs.Placing.{Placing}
use Rattle.rules.specs.Steps.{apply, tally, refused}
use Rattle.rules.specs.Spelled.{Spells, Said, same, spelled, AsListed, defines, deletes, hands_over, AsOne, whole, spelled_out}
use Rattle.rules.proofs.Tests.{split, or-in}
use Rattle.rules.proofs.Keys.{number-narrow, key-number}
use Rattle.rules.proofs.InRange.{listed-numbers}
use Rattle.rules.proofs.Ranges.{numbers-narrow}
use Rattle.rules.proofs.ListLaws.{eqb_same, once-same}
use Rattle.rules.proofs.Steps.{numbers-once}

-- ---- the lists ----

-- all that an order asks of a list
pub record Agrees (home : ℕ) (a b : Option Numbers) : Type 0 where
  pub keys : numbers_in home a ≡ numbers_in home b
  pub good : bad_list a ≡ bad_list b
  pub taken : untaken a ≡ untaken b
  pub rises : bad_range home a ≡ bad_range home b
  pub there : present a ≡ present b

pub said-agrees : (home : ℕ) (a b : Option Numbers) → Said home a b → Agrees home a b
said-agrees home _ _ (same l) = record { keys = refl; good = refl; taken = refl; rises = refl; there = refl }
said-agrees home _ _ (spelled range list s) = record {
  keys = sym (once-same (numbers home range) (numbers-once home (some range))) ∙ sym (ap once s.names) ∙ sym (listed-numbers home list s.is_list);
  good = s.good ∙ sym s.good_list;
  taken = s.taken ∙ sym s.taken_list;
  rises = s.rises ∙ sym (ap (λ (b : Bool). b && crossed (map (identified home) (used list))) s.is_list);
  there = refl;
}

-- ---- the orders ----

pub same_outgoing : (w : World) (t : Tally) (s s' : Step) → AsListed s s' → outgoing w t s ≡ outgoing w t s'
same_outgoing w t _ _ (defines o room groups owners radios g a r) =
    let groups' = said-agrees _ _ _ g in
    let radios' = said-agrees _ _ _ r in
    rw (groups'.keys, radios'.keys)
same_outgoing w t _ _ (deletes o room groups radios g r) =
    let groups' = said-agrees _ _ _ g in
    let radios' = said-agrees _ _ _ r in
    rw (groups'.keys, radios'.keys, radios'.there)
same_outgoing w t _ _ (hands_over o owners a) = refl

pub same_effect : (w : World) (s s' : Step) → AsListed s s' → effect w s ≡ effect w s'
same_effect w _ _ (defines o room groups owners radios g a r) =
    let groups' = said-agrees _ _ _ g in
    let owners' = said-agrees _ _ _ a in
    let radios' = said-agrees _ _ _ r in
    rw (groups'.keys, owners'.keys, radios'.keys)
same_effect w _ _ (deletes o room groups radios g r) =
    let groups' = said-agrees _ _ _ g in
    let radios' = said-agrees _ _ _ r in
    rw (groups'.keys, radios'.keys, radios'.there)
same_effect w _ _ (hands_over o owners a) = rw (said-agrees _ _ _ a).keys

pub same_tests : (w : World) (t : Tally) (s s' : Step) → AsListed s s' → tests w t s ≡ tests w t s'
same_tests w t _ _ (defines o room groups owners radios g a r) =
    let groups' = said-agrees _ _ _ g in
    let owners' = said-agrees _ _ _ a in
    let radios' = said-agrees _ _ _ r in
    rw (groups'.keys, groups'.good, groups'.taken, groups'.rises)
    (rw (owners'.keys, owners'.good, owners'.taken, owners'.rises)
    (rw (radios'.keys, radios'.good, radios'.taken, radios'.rises)))
same_tests w t _ _ (deletes o room groups radios g r) =
    let groups' = said-agrees _ _ _ g in
    let radios' = said-agrees _ _ _ r in
    rw (groups'.keys, groups'.good, groups'.taken, groups'.rises)
    (rw (radios'.keys, radios'.good, radios'.taken, radios'.rises, radios'.there))
same_tests w t _ _ (hands_over o owners a) = let owners' = said-agrees _ _ _ a in rw (owners'.keys, owners'.good, owners'.taken, owners'.rises)

pub as-listed : (p : Placing) (l : Ledger) (s s' : Step) → AsListed s s' → AsOne p l s s'
as-listed p l s s' a = record {
  refuses = refuses;
  leaves = λ i. cond (accepted (refuses i)) (apply p l (effects i)) l;
  sends = λ i. cond (accepted (refuses i)) (sends i) [];
}
  where
    effects : effect (view l) s ≡ effect (view l) s'
    effects = same_effect (view l) s s' a

    refuses : refused p l s ≡ refused p l s'
    refuses = ap (λ (e : Effect). refusal (view l) (tally p l e) s) effects ∙ ap first (same_tests (view l) (tally p l (effect (view l) s')) s s' a)

    sends : outgoing (view l) (tally p l (effect (view l) s)) s ≡ outgoing (view l) (tally p l (effect (view l) s')) s'
    sends = ap (λ (e : Effect). outgoing (view l) (tally p l e) s) effects ∙ same_outgoing (view l) (tally p l (effect (view l) s')) s s' a

-- ---- there is such a list for every range of at most ten numbers ----

-- the code of a list of n numbers is no range's, is not reserved, and counts them all
code-list : (n : ℕ) → eqb (cond (eqb n 1) 0 n) 1 ≡ false
code-list n = split (eqb n 1) (λ e. rw e) (λ e. rw (e, e))

code-good : (n : ℕ) → n ≤ 10 → ltb 10 (cond (eqb n 1) 0 n) ≡ false
code-good n h = split (eqb n 1) (λ e. rw e) (λ e. rw e (le-ltb 10 n h))

code-counts : (n : ℕ) → n ≤ count (cond (eqb n 1) 0 n)
code-counts n = split (eqb n 1)
    (λ e. rw e (let p = eqb-true n 1 e in omega arith))
    (λ e. rw (e, e) (split (eqb n 0) (λ f. rw f (let p = eqb-true n 0 f in omega arith)) (λ f. rw f (omega arith))))

-- a test that holds of no number's whole identity holds nowhere in a list of them
none-whole : (p : Identity → Bool) → ((k : ℕ) → p (whole k) ≡ false) → (l : List ℕ) → any p (map whole l) ≡ false
none-whole p h [] = refl
none-whole p h (k ∷ l) = or-in (p (whole k)) (any p (map whole l)) (h k) (none-whole p h l)

-- such a list names the numbers that it was made of
whole-keys : (home : ℕ) (l : List ℕ) → ((k : ℕ) → mem k l ≡ true → wide_key k ≡ false) → map (identity_key home) (map whole l) ≡ l
whole-keys home [] h = refl
whole-keys home (k ∷ l) h =
    let first' = key-number k (h k (cc (eqb_same k))) in
    let others = whole-keys home l (λ j e. h j (split (eqb j k) (λ f. cc) (λ f. cc))) in
    λ i. first' i ∷ others i

pub range-spelled : (home : ℕ) (range : Numbers) → wide home ≡ false → eqb range.code 1 ≡ true
    → bad_list (some range) ≡ false → untaken (some range) ≡ false → bad_range home (some range) ≡ false
    → length (numbers home range) ≤ 10 → Spells home range (spelled_out home range)
range-spelled home range w code good taken rises short = record {
  is_range = code;
  is_list = code-list n;
  good = good;
  taken = taken;
  rises = rises;
  good_list = or-in (ltb 10 (cond (eqb n 1) 0 n)) (any bad_identity (used (spelled_out home range))) (code-good n short)
      (ap (any bad_identity) all-used ∙ none-whole bad_identity number-narrow (numbers home range));
  taken_list = ap (any (λ (i : Identity). eqb i.form 0)) all-used ∙ none-whole (λ (i : Identity). eqb i.form 0) (λ k. refl) (numbers home range);
  names = ap (map (identity_key home)) all-used ∙ whole-keys home (numbers home range) (numbers-narrow home (some range) w good taken);
}
  where
    n : ℕ
    n = length (numbers home range)

    all-used : used (spelled_out home range) ≡ map whole (numbers home range)
    all-used = take_all (count (cond (eqb n 1) 0 n)) (map whole (numbers home range))
        (let e = length-map (numbers home range) whole in let c = code-counts n in omega arith)
