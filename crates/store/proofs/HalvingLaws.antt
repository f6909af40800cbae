-- Laws of halving: as many turns as places are enough, the turns of a loop that halves, and that it finds the place where a test ceases to pass.
-- Halving among lent rows: how far a search has come, and its turns.
use mathlib.Core.Path.{◌≡◌, refl, sym, ap, ◌∙◌}
use mathlib.Core.Bool.{Bool, true, false}
use mathlib.Core.List.{List, [], ◌∷◌, map}
use mathlib.Core.Option.{none, some}
use Prim.Native.Nat.{ℕ, zero, suc, ◌+◌, ◌-◌, ◌/◌, ◌≤◌, ◌<◌, min}
use native.Mathlib.Omega.{arith}
use lib.Dec.{eqb, ltb}
use lib.ListN.{length, get_or, take, length-take, length-map, get_or-map}
use lib.Seq.{get_or-take}
use borrow.Author.Tests.{eqb-true, ltb-true, ltb-false}
use Rattle.rules.proofs.Tests.{split}
use Rattle.store.specs.Halving.{halving, element_at, before, place_in}

module _ (passes : ℕ → Bool) where
  halving-none : (turns from : ℕ) → halving passes turns from 0 ≡ from
  unfolding halving
  halving-none zero from = refl
  halving-none (suc turns) from = refl

  -- a turn where places are left
  module _ (turns from left : ℕ) (h : 0 < left) where
    some_left : eqb left 0 ≡ false
    some_left = split (eqb left 0) (λ q. absurd (omega (arith, eqb-true left 0 q))) (λ q. q)

    turn-behind : passes (from + left / 2) ≡ true
        → halving passes (suc turns) from left ≡ halving passes turns (from + (left / 2 + 1)) (left - (left / 2 + 1))
    unfolding halving
    turn-behind p = rw (some_left, p)

    turn-before : passes (from + left / 2) ≡ false → halving passes (suc turns) from left ≡ halving passes turns from (left / 2)
    unfolding halving
    turn-before p = rw (some_left, p)

  -- as many turns as places are enough
  halving-enough : (turns turns' from left : ℕ) → left ≤ turns → left ≤ turns' → halving passes turns from left ≡ halving passes turns' from left
  halving-enough zero turns' from left h h' = let e : left ≡ 0 = omega arith in rw e (halving-none zero from ∙ sym (halving-none turns' from))
  halving-enough (suc turns) zero from left h h' = let e : left ≡ 0 = omega arith in rw e (halving-none (suc turns) from ∙ sym (halving-none zero from))
  halving-enough (suc turns) (suc turns') from left h h' = split (ltb 0 left)
      (λ q. let s = ltb-true 0 left q in split (passes (from + left / 2))
      (λ p. turn-behind turns from left s p
      ∙ halving-enough turns turns' (from + (left / 2 + 1)) (left - (left / 2 + 1)) (omega arith) (omega arith)
      ∙ sym (turn-behind turns' from left s p))
      (λ p. turn-before turns from left s p
      ∙ halving-enough turns turns' from (left / 2) (omega arith) (omega arith)
      ∙ sym (turn-before turns' from left s p)))
      (λ q. let e : left ≡ 0 = omega (arith, ltb-false 0 left q) in rw e (halving-none (suc turns) from ∙ sym (halving-none (suc turns') from)))

  -- the turns of a loop, with as many turns left as places
  module _ (from left : ℕ) (h : 0 < left) where
    halving-behind : passes (from + left / 2) ≡ true
        → halving passes left from left ≡ halving passes (left - (left / 2 + 1)) (from + (left / 2 + 1)) (left - (left / 2 + 1))
    halving-behind p =
        halving-enough left (suc left) from left (omega arith) (omega arith) ∙ turn-behind left from left h p
        ∙ halving-enough left (left - (left / 2 + 1)) (from + (left / 2 + 1)) (left - (left / 2 + 1)) (omega arith) (omega arith)

    halving-before : passes (from + left / 2) ≡ false → halving passes left from left ≡ halving passes (left / 2) from (left / 2)
    halving-before p =
        halving-enough left (suc left) from left (omega arith) (omega arith) ∙ turn-before left from left h p
        ∙ halving-enough left (left / 2) from (left / 2) (omega arith) (omega arith)

  -- the place before which the test passes and from which on it does not
  pub halving-finds : (turns from left p : ℕ) → left ≤ turns → from ≤ p → p ≤ from + left → ((i : ℕ) → i < p → passes i ≡ true)
      → ((i : ℕ) → p ≤ i → passes i ≡ false) → halving passes turns from left ≡ p
  halving-finds zero from left p h low high ahead past =
      let e : left ≡ 0 = omega arith in
      let f : from ≡ p = omega arith in
      rw e (halving-none zero from ∙ f)
  halving-finds (suc turns) from left p h low high ahead past = split (ltb 0 left)
      (λ q. let s = ltb-true 0 left q in split (ltb (from + left / 2) p)
      (λ a. let b = ltb-true (from + left / 2) p a in
      turn-behind turns from left s (ahead (from + left / 2) b)
      ∙ halving-finds turns (from + (left / 2 + 1)) (left - (left / 2 + 1)) p (omega arith) (omega arith) (omega arith) ahead past)
      (λ a. let b = ltb-false (from + left / 2) p a in
      turn-before turns from left s (past (from + left / 2) b)
      ∙ halving-finds turns from (left / 2) p (omega arith) (omega arith) (omega arith) ahead past))
      (λ q. let e : left ≡ 0 = omega (arith, ltb-false 0 left q) in
      let f : from ≡ p = omega arith in
      rw e (halving-none (suc turns) from ∙ f))

-- ---- the element at a place ----

module _ {A : Type 0} where
  pub element-at : (l : List A) (i : ℕ) (d : A) → i < length l → element_at i l ≡ some (get_or l i d)
  element-at [] i d h = absurd (omega arith)
  element-at (x ∷ l) zero d h = refl
  element-at (x ∷ l) (suc i) d h = element-at l i d (omega arith)

  element-past : (l : List A) (i : ℕ) → length l ≤ i → element_at i l ≡ none
  element-past [] i h = refl
  element-past (x ∷ l) zero h = absurd (omega arith)
  element-past (x ∷ l) (suc i) h = element-past l i (omega arith)

-- ---- of rows, by one that was read ----

module _ {A B : Type 0} (item_of : A → B) (rows : List A) where
  pub row_at : (i : ℕ) (x : A) → i < length rows → x ≡ get_or rows i x → element_at i (map item_of rows) ≡ some (item_of x)
  row_at i x h r =
      element-at (map item_of rows) i (item_of x) (rw (length-map rows item_of) h)
      ∙ ap some (get_or-map item_of rows i x ∙ ap item_of (sym r))

  pub row-past : (i : ℕ) → length rows ≤ i → element_at i (map item_of rows) ≡ none
  row-past i h = element-past (map item_of rows) i (rw (length-map rows item_of) h)

-- ---- of as many rows as there are, n or fewer ----

module _ {A : Type 0} (item_of : List ℕ → A) (rows : List (List ℕ)) (n : ℕ) where
  pub items-length : length (map item_of (take n rows)) ≡ min n (length rows)
  items-length = length-map (take n rows) item_of ∙ length-take n rows

  pub item-at : (i : ℕ) → i < n → get_or (map item_of (take n rows)) i (item_of []) ≡ item_of (get_or rows i [])
  item-at i h = get_or-map item_of (take n rows) i [] ∙ ap item_of (get_or-take n rows i [] h)

-- ---- a search among rows ----

module _ {A K X : Type 0} (below : K → K → Bool) (item_of : A → K × X) (rows : List A) (k : K) where
  -- the place of the key is sought among `left` rows from `from` on
  pub record Sought (from left : ℕ) : Type 0 where
    pub inside : from + left ≤ length rows
    pub place : halving (λ i. before below k (element_at i (map item_of rows))) left from left ≡ place_in below (map item_of rows) k

  pub sought-first : Sought 0 (length rows)
  sought-first = record { inside = omega arith; place = rw (length-map rows item_of) }

  -- a row is read in the middle, and the search goes on behind it or before it
  module _ (from left : ℕ) (h : 0 < left) (s : Sought from left) (x : A) (r : x ≡ get_or rows (from + left / 2) x) where
    passes-as : (b : Bool) → below (item_of x).0 k ≡ b → before below k (element_at (from + left / 2) (map item_of rows)) ≡ b
    passes-as b p = rw (row_at item_of rows (from + left / 2) x (omega (arith, s.inside)) r) p

    pub sought-behind : below (item_of x).0 k ≡ true → Sought (from + (left / 2 + 1)) (left - (left / 2 + 1))
    sought-behind p = record {
      inside = omega (arith, s.inside);
      place = sym (halving-behind (λ i. before below k (element_at i (map item_of rows))) from left h (passes-as true p)) ∙ s.place;
    }

    pub sought-before : below (item_of x).0 k ≡ false → Sought from (left / 2)
    sought-before p = record {
      inside = omega (arith, s.inside);
      place = sym (halving-before (λ i. before below k (element_at i (map item_of rows))) from left h (passes-as false p)) ∙ s.place;
    }

  pub sought-last : (from left : ℕ) → left ≤ 0 → Sought from left → from ≡ place_in below (map item_of rows) k
  sought-last from left h s =
      let e : left ≡ 0 = omega arith in
      sym (halving-none (λ i. before below k (element_at i (map item_of rows))) 0 from) ∙ rw e at s.place
