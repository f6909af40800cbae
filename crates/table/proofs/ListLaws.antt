-- A list's rows: the count, then item after item.
-- Assumes nothing.
use Prim.Native.Nat.{ℕ, zero, suc, ◌+◌, ◌-◌, ◌*◌, ◌≤◌, ◌<◌}
use mathlib.Core.Path.{◌≡◌, refl, ap, ap₂, sym, ◌∙◌, subst}
use mathlib.Core.Bool.{true, false}
use mathlib.Core.List.{List, [], ◌∷◌, ◌++◌, append_assoc, append-nil}
use native.Mathlib.Nat.{add-zero, zero-add, suc-add, mul-suc, mul-zero}
use native.Mathlib.Numerals.{add-one}
use native.Mathlib.Omega.{arith}
use borrow.Author.Tests.{lt-leb, le-leb}
use lib.ListN.{length, take, get_or}
use lib.Seq.{get_or-take}
use Rattle.refusal.specs.declared.Refusal.TheVariants.{Reserved}
use Rattle.layout.specs.Row.{Row, Condition, at_least, present}
use Rattle.layout.specs.Shape.{least, item, stride, repeated}
use Rattle.table.specs.Sound.{Clear}
use Rattle.layout.specs.declared.Items.{Items}
use Rattle.layout.specs.declared.Items.TheVariants.{Numbers, Letters}
use Rattle.table.proofs.Walks.{Walk, clear-after}
use Rattle.table.proofs.Absent.{shut-item, passes, length-item, length-repeated}

-- n items and k more
repeated-split : (items : Items) (t p i n k : ℕ) → repeated items t p i (n + k) ≡ repeated items t p i n ++ repeated items t (p + stride items * n) (i + n) k
unfolding repeated
repeated-split items t p i zero k =
    ap (repeated items t p i) (zero-add k) ∙ ap₂ (λ (q j : ℕ). repeated items t q j k) (omega (arith, mul-zero (stride items))) (sym (add-zero i))
repeated-split items t p i (suc n) k =
    let w = stride items in
    let one = item items (at_least t (least items i) ∷ []) p in
    let more : i + 1 + n ≡ i + suc n = omega arith in
    let place : p + w + w * n ≡ p + w * suc n = omega (arith, mul-suc w n) in
    ap (repeated items t p i) (suc-add n k)
    ∙ ap (λ (l : List Row). one ++ l)
    (repeated-split items t (p + w) (i + 1) n k ∙ ap₂ (λ (q j : ℕ). repeated items t (p + w) (i + 1) n ++ repeated items t q j k) place more)
    ∙ sym (append_assoc one (repeated items t (p + w) (i + 1) n) (repeated items t (p + w * suc n) (i + suc n) k))

-- n items and one more
repeated-more : (items : Items) (t p n : ℕ)
    → repeated items t p 0 (n + 1) ≡ repeated items t p 0 n ++ item items (at_least t (least items n) ∷ []) (p + stride items * n)
unfolding repeated
repeated-more items t p n =
    repeated-split items t p 0 n 1
    ∙ ap (λ (l : List Row). repeated items t p 0 n ++ l)
    (append-nil (item items (at_least t (least items (0 + n)) ∷ []) (p + stride items * n))
    ∙ ap (λ (j : ℕ). item items (at_least t (least items j) ∷ []) (p + stride items * n)) (zero-add n))

-- an item is there from a count on
module _ (W : Walk) (items : Items) (t p v : ℕ) (x : W.State) (before : t < p) where
  pub item_on : (at : ℕ) (y : W.State) (r : W.Result) → v ≤ get_or (W.values x) t 0 → W.Goes (item items [] p) at p x y r
      → W.Goes (item items (at_least t v ∷ []) p) at p x y r
  unfolding present
  item_on at y r h = go items
    where
      on : present (take p (W.values x)) (at_least t v ∷ []) ≡ true
      on = rw (get_or-take p (W.values x) t 0 before, le-leb v (get_or (W.values x) t 0) h)

      go : (items : Items) → W.Goes (item items [] p) at p x y r → W.Goes (item items (at_least t v ∷ []) p) at p x y r
      go Numbers f = W.under 2 1 3 Reserved 0 [] (at_least t v ∷ []) _ at p x y r on f
      go Letters f = W.under 8 0 256 Reserved 0 [] (at_least t v ∷ []) _ at p x y r on f

  pub item-off : (at : ℕ) → get_or (W.values x) t 0 < v → Clear (W.values x) p → p + stride items ≤ length (W.values x)
      → W.Goes (item items (at_least t v ∷ []) p) at p x x (W.next at)
  unfolding present
  item-off at h z room =
      let hang : List Condition = at_least t v ∷ [] in
      passes W at p x (item items hang p) (shut-item (W.values x) p z items hang off) z (omega (arith, length-item items hang p))
    where
      off : present (take p (W.values x)) (at_least t v ∷ []) ≡ false
      off = rw (get_or-take p (W.values x) t 0 before, lt-leb v (get_or (W.values x) t 0) h)

-- ---- the items' loop: i of them are passed, and the next begins at the place p
pub record Listing (W : Walk) (items : Items) (from t : ℕ) (x y : W.State) (at p i : ℕ) : Type 0 where
  pub place : p ≡ t + 1 + stride items * i
  pub goes : W.Goes (repeated items t (t + 1) 0 i) from (t + 1) x y (W.next at)
  pub clear : Clear (W.values y) p
  pub size : length (W.values y) ≡ length (W.values x)

module _ (W : Walk) (items : Items) (from t : ℕ) (x : W.State) where
  pub listing_none : Clear (W.values x) (t + 1) → Listing W items from t x x from (t + 1) 0
  unfolding repeated
  listing_none z = record { place = omega (arith, mul-zero (stride items)); goes = W.none from (t + 1) x; clear = z; size = refl }

  module _ (y z : W.State) (at p i : ℕ) (r : W.Result) (now : Listing W items from t x y at p i)
      (f : W.Goes (item items (at_least t (least items i) ∷ []) p) at p y z r) where
    begins : p ≡ t + 1 + length (repeated items t (t + 1) 0 i)
    begins = now.place ∙ ap (λ (n : ℕ). t + 1 + n) (sym (length-repeated items t (t + 1) 0 i))

    so_far : W.Goes (repeated items t (t + 1) 0 (i + 1)) from (t + 1) x z r
    so_far =
        let one = item items (at_least t (least items i) ∷ []) p in
        subst (λ (l : List Row). W.Goes l from (t + 1) x z r)
        (ap (λ (q : ℕ). repeated items t (t + 1) 0 i ++ item items (at_least t (least items i) ∷ []) q) now.place ∙ sym (repeated-more items t (t + 1) i))
        (W.join (repeated items t (t + 1) 0 i) one from at (t + 1) x y z r now.goes (subst (λ (n : ℕ). W.Goes one at n y z r) begins f))

    pub listing-more : (at' w : ℕ) → r ≡ W.next at' → w ≡ stride items → Listing W items from t x z at' (p + w) (i + 1)
    listing-more at' w e l =
        let one = item items (at_least t (least items i) ∷ []) p in
        record {
          place = omega (arith, now.place, add-one i, mul-suc (stride items) i);
          goes = subst (W.Goes (repeated items t (t + 1) 0 (i + 1)) from (t + 1) x z) e so_far;
          clear = λ q h. clear-after W one at at' p y z r e f now.clear q (omega (arith, length-item items (at_least t (least items i) ∷ []) p));
          size = W.size one at p y z r f ∙ now.size;
        }

    -- what stops an item stops the list
    pub listing-stop : (r' : W.Result) (m : ℕ) → r ≡ r' → W.Stops r' → i < m → W.Goes (repeated items t (t + 1) 0 m) from (t + 1) x z r'
    listing-stop r' m e s h =
        let left = m - (i + 1) in
        let all : i + 1 + left ≡ m = omega arith in
        let first = repeated items t (t + 1) 0 (i + 1) in
        let rest = repeated items t (t + 1 + stride items * (i + 1)) (0 + (i + 1)) left in
        subst (λ (l : List Row). W.Goes l from (t + 1) x z r') (sym (repeated-split items t (t + 1) 0 (i + 1) left) ∙ ap (repeated items t (t + 1) 0) all)
        (W.stop first rest from (t + 1) x z r' s (subst (W.Goes first from (t + 1) x z) e so_far))
