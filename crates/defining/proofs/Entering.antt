-- Laws of owners who come, entered one by one among those who stand.
use mathlib.Core.Path.{◌≡◌, refl, sym, ap, ◌∙◌}
use mathlib.Core.Bool.{Bool, true, false, cond}
use mathlib.Core.List.{List, [], ◌∷◌, ◌++◌, append-nil, append_assoc}
use Prim.Native.Nat.{ℕ, ◌+◌, ◌≤◌, ◌<◌}
use native.Mathlib.Numerals.{add-one}
use native.Mathlib.Omega.{arith}
use lib.Dec.{ltb}
use lib.ListN.{length, get_or, take, drop, replicate, take-append-drop}
use lib.Seq.{take-suc, take_at}
use borrow.Author.Tests.{ltb-false}
use Rattle.rules.specs.Lists.{mem, insert, rising, Rising}
use Rattle.rules.specs.Owners.{max_owners}
use Rattle.rules.proofs.Tests.{split}
use Rattle.rules.proofs.ListLaws.{rising-same, length-insert}
use Rattle.rules.proofs.JoinLaws.{rising_snoc, rising-prefix-few}
use Rattle.order.specs.Keys.{placed}
use Rattle.order.specs.Rising.{entered, Enters}
use Rattle.order.proofs.Walks.{onto-onto, onto-length}

entered-grows : (x : ℕ) (l : List ℕ) → length l ≤ length (entered x l)
entered-grows x l = split (mem x l) (λ e. rw e (omega arith)) (λ e. rw e (omega (arith, length-insert x l)))

-- a key that has no room beside a list is in it
entered-full : (x : ℕ) (l : List ℕ) → length (entered x l) ≤ length l → entered x l ≡ l
entered-full x l h = go (mem x l) h
  where
    go : (b : Bool) → length (cond b l (insert x l)) ≤ length l → cond b l (insert x l) ≡ l
    go true k = refl
    go false k = absurd (omega (arith, length-insert x l))

module _ (standing come : List ℕ) where
  -- with the first i of those who come
  abbrev pub up_to : ℕ → List ℕ
  up_to i = rising (standing ++ take i come)

  pub join-starts : Rising standing → up_to 0 ≡ standing
  join-starts r = ap rising (append-nil standing) ∙ rising-same standing r

  pub join-few : (i : ℕ) → length (rising (standing ++ come)) ≤ max_owners → length (up_to i) ≤ max_owners
  join-few i h =
      let k = rising-prefix-few standing (take i come) (drop i come) in
      let e = ap (λ (z : List ℕ). length (rising (standing ++ z))) (take-append-drop i come) in
      omega (arith, k, e)

  module _ (i x : ℕ) (h : i < length come) (is : x ≡ get_or come i 0) (few : length (up_to (i + 1)) ≤ max_owners) where
    next : up_to (i + 1) ≡ entered x (up_to i)
    next =
        let more : standing ++ take (i + 1) come ≡ (standing ++ take i come) ++ (x ∷ []) =
        rw (add-one, take-suc come i 0 h, is) (sym (append_assoc standing (take i come) (get_or come i 0 ∷ []))) in
        ap rising more ∙ rising_snoc (standing ++ take i come) x

    -- a turn
    pub join-turn : (count : ℕ) (key after : List ℕ) (r : ℕ) → key ≡ placed max_owners (up_to i) → count ≡ length (up_to i)
        → Enters x count key after r → (after ≡ placed max_owners (up_to (i + 1))) × (r ≡ length (up_to (i + 1)))
    join-turn count key after r k n w = go (ltb count (length key)) refl
      where
        grows : length (up_to i) ≤ length (entered x (up_to i))
        grows = entered-grows x (up_to i)

        size : length key ≡ max_owners
        size = ap length k ∙ onto-length (up_to i) (replicate max_owners 0) (omega (arith, grows, ap length next))

        held : take count key ≡ up_to i
        held = rw (k, n) (take_at (up_to i) (drop (length (up_to i)) (replicate max_owners 0)) (length (up_to i)) refl)

        go : (b : Bool) → ltb count (length key) ≡ b → (after ≡ placed max_owners (up_to (i + 1))) × (r ≡ length (up_to (i + 1)))
        go true e = (
          w.keys ∙ rw (e, held, k, next) (onto-onto (up_to i) (entered x (up_to i)) (replicate max_owners 0) grows),
          w.counts ∙ rw (e, held, next) refl,
        )
        go false e =
            let full = next ∙ entered-full x (up_to i) (omega (arith, ltb-false count (length key) e, size, ap length next)) in
            (w.keys ∙ rw e (k ∙ ap (placed max_owners) (sym full)), w.counts ∙ rw e (n ∙ ap length (sym full)))
