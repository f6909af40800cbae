-- Words made one by one, as lists: a part of a list, and a list with zeros behind it.
use mathlib.Core.Path.{◌≡◌, refl, sym, ap, ◌∙◌}
use mathlib.Core.List.{List, [], ◌∷◌, ◌++◌}
use Prim.Native.Nat.{ℕ, zero, suc, ◌+◌, ◌-◌, ◌≤◌}
use native.Mathlib.Nat.{sub-zero}
use native.Mathlib.Omega.{arith}
use lib.ListN.{length, get_or, take, drop, replicate}
use lib.Seq.{drop-cons}
use Rattle.order.specs.Row.{words}

pub words-slice : (l : List ℕ) (n k : ℕ) → k + n ≤ length l → words (λ j. get_or l j 0) n k ≡ take n (drop k l)
words-slice l zero k h = refl
words-slice l (suc n) k h = rw (drop-cons l k 0 (omega arith)) (ap (λ (z : List ℕ). get_or l k 0 ∷ z) (words-slice l n (suc k) (omega arith)))

same-words : (f g : ℕ → ℕ) (n k : ℕ) → ((j : ℕ) → k ≤ j → f j ≡ g j) → words f n k ≡ words g n k
same-words f g zero k h = refl
same-words f g (suc n) k h = λ i. h k (omega arith) i ∷ same-words f g n (suc k) (λ j p. h j (omega arith)) i

zero-words : (n k : ℕ) → words (λ j. 0) n k ≡ replicate n 0
zero-words zero k = refl
zero-words (suc n) k = ap (λ (z : List ℕ). 0 ∷ z) (zero-words n (suc k))

pub list-words : (l : List ℕ) (n k : ℕ) → length l ≤ n → words (λ j. get_or l (j - k) 0) n k ≡ l ++ replicate (n - length l) 0
list-words [] n k h = zero-words n k ∙ ap (λ (m : ℕ). replicate m 0) (sym (sub-zero n))
list-words (x ∷ l) zero k h = absurd (omega arith)
list-words (x ∷ l) (suc n) k h =
    let first : k - k ≡ 0 = omega arith in
    let size : suc n - suc (length l) ≡ n - length l = omega arith in
    let rest : words (λ j. get_or (x ∷ l) (j - k) 0) n (suc k) ≡ l ++ replicate (suc n - suc (length l)) 0 =
    same-words (λ j. get_or (x ∷ l) (j - k) 0) (λ j. get_or l (j - suc k) 0) n (suc k) later
    ∙ list-words l n (suc k) (omega arith) ∙ ap (λ (m : ℕ). l ++ replicate m 0) (sym size) in
    λ i. get_or (x ∷ l) (first i) 0 ∷ rest i
  where
    later : (j : ℕ) → suc k ≤ j → get_or (x ∷ l) (j - k) 0 ≡ get_or l (j - suc k) 0
    later j p = let e : j - k ≡ suc (j - suc k) = omega arith in ap (λ (m : ℕ). get_or (x ∷ l) m 0) e
