-- Of rows that are the rows of what they say one is taken out: those behind it are copied one place down.
use mathlib.Core.Path.{◌≡◌, ap, sym, ◌∙◌}
use mathlib.Core.List.{List, [], ◌++◌, append_assoc}
use Prim.Native.Nat.{ℕ, ◌+◌, ◌-◌, ◌≤◌, ◌<◌}
use native.Mathlib.Omega.{arith}
use lib.ListN.{length, take, drop}
use Rattle.std.specs.List.{copy_within}
use Rattle.std.proofs.lemmas.List.{drop-take}
use Rattle.order.specs.Walks.{left}
use Rattle.store.specs.Lists.{Plain, Fills}
use Rattle.store.proofs.Rows.{items}
use Rattle.store.proofs.OneRow.{instead}

pub row-taken : {X : Type 0} (item_of : List ℕ → X) (row_of : X → List ℕ) (rows : List (List ℕ)) (n i : ℕ) → i < n → n ≤ length rows
    → Plain item_of row_of n rows
    → Fills row_of (take i (items item_of row_of n rows) ++ drop (i + 1) (items item_of row_of n rows)) rows (copy_within rows (i + 1) n i) (n - 1)
row-taken item_of row_of rows n i h q p =
    let behind : n ≡ i + 1 + (n - (i + 1)) = omega arith in
    let moved : take (n - (i + 1)) (drop (i + 1) rows) ≡ left (i + 1) n rows =
    sym (drop-take (i + 1) (n - (i + 1)) rows) ∙ ap (λ (k : ℕ). left (i + 1) k rows) (sym behind) in
    let end : i + (n - (i + 1)) ≡ n - 1 = omega arith in
    instead item_of row_of rows n i h q p [] (n - 1) (copy_within rows (i + 1) n i) (omega arith)
    (append_assoc (take i rows) (take (n - (i + 1)) (drop (i + 1) rows)) (drop (i + (n - (i + 1))) rows) ∙ (λ j. take i rows ++ (moved j ++ drop (end j) rows)))
