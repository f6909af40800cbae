-- A define that names more pairs than there is room for meets 16: 64 groups with 64 radios, 4,096 pairs, have no room among 2,048.
-- Under any lawful placing.
use Prim.Native.Nat.{ℕ, suc, ◌+◌, ◌*◌, ◌≤◌, ◌<◌}
use mathlib.Core.Path.{◌≡◌, refl, sym, ◌∙◌, ap}
use mathlib.Core.Bool.{Bool, true, false, not}
use mathlib.Core.List.{List, [], ◌∷◌}
use mathlib.Core.Option.{none, some}
use lib.Dec.{ltb}
use lib.ListN.{length, take, drop}
use native.Mathlib.Omega.{arith}
use borrow.Author.Tests.{lt-ltb}
use Rattle.refusal.specs.declared.Refusal.TheVariants.{Full}
use Rattle.rules.specs.Lists.{any, keep, present}
use Rattle.rules.specs.Entries.{find}
use Rattle.rules.specs.Mark.{begun}
use Rattle.rules.specs.Owners.{added}
use Rattle.rules.specs.Order.{Define, define, define_groups, define_radios, define_owners}
use Rattle.rules.specs.Effect.{effect}
use Rattle.rules.specs.Refusals.{max_groups, max_pairs, first, tests}
use Rattle.rules.specs.Ledger.{Pair, same_pair, Ledger, view}
use Rattle.rules.specs.Placing.{Placing, Lawful}
use Rattle.rules.specs.Steps.{product, tally, apply, refused}
use Rattle.rules.proofs.Tests.{split, clash, or-second}
use Rattle.rules.proofs.LawOrder.{first-none}
use Rattle.rules.proofs.ListLaws.{Apart}
use Rattle.rules.proofs.Pairs.{pair-sound, length-product, product-length, product-apart}
use Rattle.rules.proofs.Effects.{Standing}
use Rattle.rules.proofs.Steps.{numbers-once, pairs-total}

-- ---- counting ----

-- what passes a test and what fails it, together as many as all
length-parts : {A : Type 0} (p : A → Bool) (l : List A) → length (keep p l) + length (keep (λ x. not (p x)) l) ≡ length l
length-parts p [] = omega arith
length-parts p (x ∷ l) = let h = length-parts p l in split (p x) (λ e. rw e (omega arith)) (λ e. rw e (omega arith))

module _ {K X : Type 0} (same : K → K → Bool) (sound : (a b : K) → same a b ≡ true → a ≡ b) where
  -- where k is the entry's key, the keys apart from k are found as without the entry
  others : (e : K × X) (l : List (K × X)) (k : K) (ks : List K) → same k e.0 ≡ true → any (same k) ks ≡ false
      → keep (λ j. present (find same (e ∷ l) j)) ks ≡ keep (λ j. present (find same l j)) ks
  others e l k [] a n = refl
  others e l k (j ∷ js) a n = split (same j e.0)
      (λ b. clash (cc (sound j e.0 b)))
      (λ b. split (same k j) (λ c. clash (cc)) (λ c. cc (others e l k js a (cc))))

  -- an entry more: one key more is found at most
  one_more : (e : K × X) (l : List (K × X)) (ks : List K) → Apart same ks
      → length (keep (λ k. present (find same (e ∷ l) k)) ks) ≤ suc (length (keep (λ k. present (find same l k)) ks))
  one_more e l [] a = omega arith
  one_more e l (k ∷ ks) a = split (same k e.0)
      (λ b. rw (b, others e l k ks b a.0) (split (present (find same l k)) (λ q. rw q (omega arith)) (λ q. rw q (omega arith))))
      (λ b. let h = one_more e l ks a.1 in rw b (split (present (find same l k)) (λ q. rw q (omega arith)) (λ q. rw q (omega arith))))

  -- of keys that are apart no more are found than there are entries
  found-few : (l : List (K × X)) (ks : List K) → Apart same ks → length (keep (λ k. present (find same l k)) ks) ≤ length l
  found-few [] [] a = omega arith
  found-few [] (k ∷ ks) a = found-few [] ks a.1
  found-few (e ∷ l) ks a = let h = found-few l ks a in let k = one_more e l ks a in omega arith

-- ---- the room for pairs ----

module _ (p : Placing) (laws : Lawful p) (l : Ledger) (s : Standing p l) (o : Define) (room : ℕ) where
  abbrev after : Ledger
  after = apply p l (effect (view l) (define o room))

  -- of the pairs named those that stand are no more than all that stand, and each other is one more
  pub named-stand : length (define_groups o) * length (define_radios o) ≤ length after.pairs
  named-stand =
      let home = o.asker.extension in
      let gs = define_groups o in
      let rs = define_radios o in
      let stands : Pair → Bool = λ k. present (find same_pair l.pairs k) in
      let once = numbers-once home o.groups in
      let once' = numbers-once home o.radios in
      let count = pairs-total p laws l s gs (added (define_owners o)) o.parameters rs (begun o.acknowledgement) once once' in
      let total = count ∙ ap (λ (n : ℕ). length l.pairs + n) (sym (length-product (λ k. not (stands k)) gs rs)) in
      let apart = product-apart gs rs once once' in
      let found = found-few same_pair pair-sound l.pairs (product gs rs) apart in
      let parts = length-parts stands (product gs rs) in
      let named = product-length gs rs in
      omega arith

  -- a define that passes the six tests before 16 (10, 11, 19, 20, 13, 21), and names more pairs than there is room for, meets 16
  pub meets-16 : first (take 6 (tests (view l) (tally p l (effect (view l) (define o room))) (define o room))) ≡ none
      → max_pairs < length (define_groups o) * length (define_radios o) → refused p l (define o room) ≡ some Full
  meets-16 e many =
      let more : max_pairs < length after.pairs = let named = named-stand in omega arith in
      let full = or-second (ltb max_groups (length after.groups)) (ltb max_pairs (length after.pairs)) (lt-ltb max_pairs (length after.pairs) more) in
      let all = tests (view l) (tally p l (effect (view l) (define o room))) (define o room) in
      first-none (take 6 all) (drop 6 all) e ∙ rw full

  -- 64 groups and 64 radios, as many as refusal 20 lets pass
  pub sixty-four-by-sixty-four : first (take 6 (tests (view l) (tally p l (effect (view l) (define o room))) (define o room))) ≡ none
      → length (define_groups o) ≡ 64 → length (define_radios o) ≡ 64 → refused p l (define o room) ≡ some Full
  sixty-four-by-sixty-four e a b = meets-16 e (rw (a, b) (omega arith))
