-- Of rows that are the rows of what they say one gives way to others, or is replaced.
use mathlib.Core.Path.{◌≡◌, sym, ap, ◌∙◌}
use mathlib.Core.List.{List, [], ◌∷◌, ◌++◌, map, map-append, append_assoc}
use Prim.Native.Nat.{ℕ, ◌+◌, ◌≤◌, ◌<◌}
use native.Mathlib.Numerals.{add-one}
use native.Mathlib.Omega.{arith}
use lib.ListN.{length, take, drop, set, take-append-drop, length-append, length-take, length-drop, length-map}
use lib.Seq.{take-take, length-take-le, drop-append-le, set_split}
use Rattle.order.specs.Walks.{left}
use Rattle.order.proofs.Walks.{map-take, map-drop}
use Rattle.store.specs.Lists.{Plain, Fills}
use Rattle.store.proofs.Rows.{items, length-items, plain_rows}

module _ {X : Type 0} (item_of : List ℕ → X) (row_of : X → List ℕ) (rows : List (List ℕ)) (n i : ℕ) (h : i < n) (q : n ≤ length rows)
    (p : Plain item_of row_of n rows) where
  before-rows : map row_of (take i (items item_of row_of n rows)) ≡ take i rows
  before-rows = sym (map-take row_of i (items item_of row_of n rows)) ∙ ap (take i) (plain_rows item_of row_of n rows p q) ∙ take-take i n rows (omega arith)

  behind-rows : map row_of (drop (i + 1) (items item_of row_of n rows)) ≡ left (i + 1) n rows
  behind-rows = sym (map-drop row_of (i + 1) (items item_of row_of n rows)) ∙ ap (drop (i + 1)) (plain_rows item_of row_of n rows p q)

  -- some items for the one at i
  pub instead : (xs : List X) (count : ℕ) (after : List (List ℕ)) → count + 1 ≡ n + length xs
      → after ≡ take i rows ++ (map row_of xs ++ (left (i + 1) n rows ++ drop count rows))
      → Fills row_of (take i (items item_of row_of n rows) ++ (xs ++ drop (i + 1) (items item_of row_of n rows))) rows after count
  instead xs count after c e =
      let l = items item_of row_of n rows in
      let m : length l ≡ n = length-items item_of row_of rows n q in
      let k : count ≡ length (take i l ++ (xs ++ drop (i + 1) l)) = simp (length-append, length-take, length-drop) (omega arith) in
      let f : map row_of (take i l ++ (xs ++ drop (i + 1) l)) ≡ take i rows ++ (map row_of xs ++ left (i + 1) n rows) =
      map-append row_of (take i l) (xs ++ drop (i + 1) l) ∙ ap (λ z. map row_of (take i l) ++ z) (map-append row_of xs (drop (i + 1) l))
      ∙ (λ j. before-rows j ++ (map row_of xs ++ behind-rows j)) in
      record { counts = k; rows = e ∙ rw (length-map, ← k, f) (simp append_assoc) }

  pub row-replaced : (x : X)
      → Fills row_of (take i (items item_of row_of n rows) ++ (x ∷ drop (i + 1) (items item_of row_of n rows))) rows (set rows i (row_of x)) n
  row-replaced x =
      let e : drop (i + 1) rows ≡ left (i + 1) n rows ++ drop n rows =
      ap (drop (i + 1)) (sym (take-append-drop n rows)) ∙ drop-append-le (i + 1) (take n rows) (drop n rows) (rw (length-take-le n rows q) (omega arith)) in
      instead (x ∷ []) n (set rows i (row_of x)) (omega arith) (set_split rows i (row_of x) (omega arith) ∙ rw (← add-one i, e))
