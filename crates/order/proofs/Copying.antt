-- Laws of a walk that copies a list onto the front of a room.
use mathlib.Core.Path.{◌≡◌, sym, ap, ◌∙◌}
use mathlib.Core.List.{List, [], ◌∷◌, ◌++◌}
use Prim.Native.Nat.{ℕ, ◌+◌, ◌≤◌, ◌<◌}
use native.Mathlib.Numerals.{add-one}
use native.Mathlib.Omega.{arith}
use lib.ListN.{length, get_or, take, set, length-set}
use lib.Seq.{take-suc, length-take-le}
use Rattle.order.specs.Walks.{onto}
use Rattle.order.proofs.Walks.{onto-length, onto-more}

module _ {A : Type 0} (k room : List A) where
  -- one more is copied
  pub copy-turn : (out : List A) (i : ℕ) (x d : A) → i < length k → length k ≤ length room → out ≡ onto (take i k) room → x ≡ get_or k i d
      → (length (set out i x) ≡ length room) × (set out i x ≡ onto (take (i + 1) k) room)
  copy-turn out i x d p q e f =
      let n : length (take i k) ≡ i = length-take-le i k (omega arith) in
      let more : take (i + 1) k ≡ take i k ++ (x ∷ []) = rw (add-one, f) (take-suc k i d p) in
      let t = onto-more (take i k) room x (omega arith) in (
        length-set out i x ∙ ap length e ∙ onto-length (take i k) room (omega arith),
        rw (e, more) (ap (λ (j : ℕ). set (onto (take i k) room) j x) (sym n) ∙ t),
      )
