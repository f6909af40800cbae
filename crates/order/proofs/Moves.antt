-- Laws of elements moved up: what std's copy_within leaves, and one stored where the first of them stood.
use mathlib.Core.Path.{◌≡◌, refl, sym, ap, ◌∙◌}
use mathlib.Core.List.{List, [], ◌∷◌, ◌++◌, append_assoc}
use Prim.Native.Nat.{ℕ, ◌+◌, ◌-◌, ◌≤◌, ◌<◌}
use native.Mathlib.Numerals.{add-one}
use native.Mathlib.Omega.{arith}
use lib.ListN.{length, get_or, take, drop, set, take-append-drop}
use lib.Seq.{take-suc, length-take-le, set_at, drop-append-le}
use Rattle.std.specs.List.{copy_within}
use Rattle.std.proofs.lemmas.List.{drop-take}
use Rattle.order.specs.Walks.{left, moved}

module _ {A : Type 0} where
  -- stored at the last place of a front
  set_last : (l r : List A) (k : ℕ) (x : A) → k < length l → set (take (k + 1) l ++ r) k x ≡ take k l ++ (x ∷ r)
  set_last l r k x h =
      let e : take (k + 1) l ≡ take k l ++ (get_or l k x ∷ []) = rw add-one (take-suc l k x h) in
      rw (e, append_assoc) (set_at (take k l) (get_or l k x) r x k (length-take-le k l (omega arith)))

  -- the elements from i on have made room: one is stored before them
  pub moved-set : (by n i m : ℕ) (l : List A) (x : A) → i + by ≡ m + 1 → m < length l
      → set (moved by i n l) m x ≡ take m l ++ (x ∷ (left i n l ++ drop (n + by) l))
  moved-set by n i m l x e h = rw e (set_last l (left i n l ++ drop (n + by) l) m x h)

  -- what std's copy_within leaves
  pub moved-within : (by n i : ℕ) (l : List A) → i ≤ n → copy_within l i n (i + by) ≡ moved by i n l
  moved-within by n i l p =
      let e : i + (n - i) ≡ n = omega arith in
      let f : i + by + (n - i) ≡ n + by = omega arith in
      let g : take (n - i) (drop i l) ≡ left i n l = sym (drop-take i (n - i) l) ∙ ap (λ (m : ℕ). left i m l) e in
      append_assoc (take (i + by) l) (take (n - i) (drop i l)) (drop (i + by + (n - i)) l) ∙ rw (g, f) refl

  -- moved by no place
  pub moved-zero : (n i : ℕ) (l : List A) → i ≤ n → n ≤ length l → moved 0 i n l ≡ l
  moved-zero n i l p q =
      let a : i + 0 ≡ i = omega arith in
      let b : n + 0 ≡ n = omega arith in
      let e = sym (drop-append-le i (take n l) (drop n l) (rw (length-take-le n l q) p)) in
      rw (a, b, e, take-append-drop n l) (take-append-drop i l)
