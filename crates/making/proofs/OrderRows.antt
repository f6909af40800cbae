-- The order's row that is read off a DEFINE record is the row of the record's parameters, with key 0 and no owners.
use mathlib.Core.Path.{◌≡◌, ap, ◌∙◌}
use mathlib.Core.Bool.{Bool, true, false, cond}
use mathlib.Core.List.{List, [], ◌∷◌, ◌++◌}
use mathlib.Core.Option.{none, some}
use Prim.Native.Nat.{ℕ, ◌+◌, ◌≤◌}
use native.Mathlib.Omega.{arith}
use lib.ListN.{length, take, drop, length-take}
use Rattle.rules.specs.Parameters.{bad_name}
use Rattle.rules.specs.Written.{max_owners}
use Rattle.rules.specs.Recorded.{optional, letter_count, letters, value_at, optional_name, parameters_in}
use Rattle.rows.specs.Layout.{max_letters, first_letter}
use Rattle.store.specs.Storage.{group_of, group_row, counted}
use Rattle.store.proofs.Groups.{group-back}
use Rattle.order.specs.Row.{letters_of, value_word, order_row_of}
use Rattle.making.proofs.WordLists.{list-words}

-- a name is read with at most 16 letters
few-letters : (places : List ℕ) → length (letters_of (optional_name places)) ≤ max_letters
few-letters places = go (optional places letter_count)
  where
    go : (b : Bool) → length (letters_of (cond b (some (take (value_at places (letter_count + 1)) (take max_letters (drop letters places)))) none)) ≤ max_letters
    go true =
        omega (
          arith,
          length-take (value_at places (letter_count + 1)) (take max_letters (drop letters places)),
          length-take max_letters (drop letters places),
        )
    go false = omega arith

module _ (places : List ℕ) where
  pub order_row : order_row_of places ≡ group_row (0, record { owners = []; parameters = parameters_in places })
  unfolding order_row_of group_row parameters_in
  order_row =
      let l = letters_of (optional_name places) in
      λ i.
      0 ∷ value_word places 1 ∷ value_word places 2 ∷ value_word places 3 ∷ value_word places 4 ∷ value_word places 5 ∷ value_word places 6
      ∷ ((length l ∷ list-words l max_letters first_letter (few-letters places) i) ++ counted max_owners [])

  -- a record with a good name is read back from it
  pub order-group : bad_name (optional_name places) ≡ false → group_of (order_row_of places) ≡ (0, record { owners = []; parameters = parameters_in places })
  unfolding parameters_in
  order-group good = ap group_of order_row ∙ group-back 0 [] (parameters_in places) good (omega arith)
