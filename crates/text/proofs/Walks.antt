-- Laws of a loop that puts the text of one item after the other.
use mathlib.Core.Path.{◌≡◌, refl, sym, ap, ◌∙◌}
use mathlib.Core.List.{List, [], ◌∷◌, ◌++◌, append_assoc, append-nil}
use Prim.Native.Nat.{ℕ, ◌+◌, ◌*◌, ◌<◌, ◌≤◌}
use native.Mathlib.Nat.{mul-suc}
use native.Mathlib.Numerals.{add-one}
use native.Mathlib.Omega.{arith}
use lib.ListN.{length, get_or, take, length-append}
use lib.Seq.{take_all, length-take-le}
use Rattle.std.proofs.lemmas.List.{take_more}
use Rattle.text.specs.Text.{joined}
use Rattle.text.specs.Put.{Put}
use Rattle.text.proofs.Puts.{put_as, put_then}

module _ {A : Type 0} (f : A → List ℕ) where
  joined-append : (items more : List A) → joined f (items ++ more) ≡ joined f items ++ joined f more
  joined-append [] more = refl
  joined-append (item ∷ items) more =
      ap (λ (text : List ℕ). f item ++ text) (joined-append items more) ∙ sym (append_assoc (f item) (joined f items) (joined f more))

  -- one item more is put
  pub put_next : (items : List A) (i : ℕ) {item : A} (none : A) {before out after : List ℕ} {at next end : ℕ} → i < length items
      → item ≡ get_or items i none → Put (joined f (take i items)) before out at next → Put (f item) out after next end
      → Put (joined f (take (i + 1) items)) before after at end
  put_next items i {item} none fits is put more =
      let one : joined f (take (i + 1) items) ≡ joined f (take i items) ++ f item =
      ap (joined f) (take_more items i none fits ∙ ap (λ (x : A). take i items ++ x ∷ []) (sym is)) ∙ joined-append (take i items) (item ∷ [])
      ∙ ap (λ (text : List ℕ). joined f (take i items) ++ text) (append-nil (f item)) in
      put_as one (put_then put more)

  -- all are
  pub put_all : (items : List A) {before out : List ℕ} {at next : ℕ}
      → Put (joined f (take (length items) items)) before out at next → Put (joined f items) before out at next
  put_all items put = put_as (sym (ap (joined f) (take_all (length items) items (omega arith)))) put

  module _ (most : ℕ) (short : (item : A) → length (f item) ≤ most) where
    pub joined-short : (items : List A) → length (joined f items) ≤ most * length items
    joined-short [] = omega arith
    joined-short (item ∷ items) =
        omega (arith, joined-short items, mul-suc most (length items), length-append (f item) (joined f items), short item)

    -- and there is room for the next
    pub room-left : (items : List A) (i : ℕ) {before out : List ℕ} {at next : ℕ} → i < length items
        → Put (joined f (take i items)) before out at next → next + most ≤ at + most * (i + 1)
    room-left items i fits put =
        let size : length (take i items) ≡ i = length-take-le i items (omega arith) in
        let some = joined-short (take i items) in
        let all : most * length (take i items) ≡ most * i = ap (λ n. most * n) size in
        rw (add-one) (omega (arith, put.ends, mul-suc most i))
