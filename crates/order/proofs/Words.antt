-- Laws of a row made word by word, and of what std's array::from_fn makes.
use mathlib.Core.Path.{◌≡◌, refl, sym, ap, subst, ◌∙◌}
use mathlib.Core.List.{List}
use Prim.Native.Nat.{ℕ, zero, suc, ◌+◌, ◌≤◌, ◌<◌}
use native.Mathlib.Omega.{arith}
use lib.ListN.{length, get_or}
use lib.Seq.{ext_get_or}
use denote.Param.Members.{Called, Mut}
use lib.Dec.{eqb}
use borrow.Author.Tests.{eqb-true, eqb-false}
use Rattle.std.specs.Array.{IsFromFnResult, IsFromFnResultFrom}
use Rattle.rules.proofs.Tests.{split}
use Rattle.order.specs.Row.{words}

length-words : (f : ℕ → ℕ) (n k : ℕ) → length (words f n k) ≡ n
length-words f zero k = refl
length-words f (suc n) k = ap suc (length-words f n (suc k))

words-at : (f : ℕ → ℕ) (n k j : ℕ) → j < n → get_or (words f n k) j 0 ≡ f (k + j)
words-at f zero k j h = absurd (omega arith)
words-at f (suc n) k zero h = let e : k ≡ k + 0 = omega arith in ap f e
words-at f (suc n) k (suc j) h = let e : suc k + j ≡ k + suc j = omega arith in words-at f n (suc k) j (omega arith) ∙ ap f e

pub words-all : (f : ℕ → ℕ) (n : ℕ) (row : List ℕ) → length row ≡ n → ((j : ℕ) → j < n → get_or row j 0 ≡ f j) → row ≡ words f n 0
words-all f n row e h = ext_get_or 0 row (words f n 0) (e ∙ sym (length-words f n 0))
    (λ j q. let m : j < n = omega arith in let z : 0 + j ≡ j = omega arith in h j m ∙ sym (words-at f n 0 j m ∙ ap f z))

-- what std's array::from_fn makes by calls that change nothing: at each place what the call there gives
module _ {F B : Type 0} (g : Mut F (ℕ × Unit {0}) B) (f : F) (h : ℕ → B) (ys : List B) (d : B)
    (calls : (i : ℕ) (y : B) (q : F) → Called g f (i, tt) y q → (q ≡ f) × (y ≡ h i)) where
  made-from : (n i : ℕ) → IsFromFnResultFrom g f ys i n → (j : ℕ) → i ≤ j → j < i + n → get_or ys j d ≡ h j
  made-from zero i m j p q = absurd (omega arith)
  made-from (suc n) i m j p q =
      let call = calls i m.1 m.0 m.3 in
      split (eqb j i)
      (λ e. let here = eqb-true j i e in rw here (m.2.1 d ∙ call.1))
      (λ e.
      let there = eqb-false j i e in
      let rest = subst (λ (q : F). IsFromFnResultFrom g q ys (i + 1) n) call.0 m.4 in
      made-from n (i + 1) rest j (omega arith) (omega arith))

  pub made-at : (n : ℕ) → IsFromFnResult g f ys n → (j : ℕ) → j < n → get_or ys j d ≡ h j
  made-at n m j p = made-from n 0 m.each j (omega arith) (omega arith)
