-- Keys in a row: which they are, how many, that they rise, so none twice, and one more at the end.
use Prim.Native.Nat.{ℕ, zero, suc, ◌+◌, ◌≤◌, ◌<◌}
use mathlib.Core.Path.{◌≡◌, refl, sym, ◌∙◌, ap}
use mathlib.Core.Bool.{true}
use mathlib.Core.List.{List, [], ◌∷◌, ◌++◌}
use lib.Dec.{eqb}
use lib.ListN.{length}
use native.Mathlib.Omega.{arith}
use borrow.Author.Tests.{eqb-true, eqb-false}
use Rattle.rules.specs.Lists.{mem, once, Above, Rising}
use Rattle.rules.specs.Named.{consecutive}
use Rattle.rules.proofs.Tests.{split, clash}
use Rattle.rules.proofs.ListLaws.{once-same, once-rising}

-- from the first on, so many
pub consecutive-mem : (first n x : ℕ) → mem x (consecutive first n) ≡ true → (first ≤ x) × (x < first + n)
consecutive-mem first zero x e = clash (sym e)
consecutive-mem first (suc n) x e = split (eqb x first)
    (λ q. let p = eqb-true x first q in (omega arith, omega arith))
    (λ q. let p = consecutive-mem (suc first) n x (cc) in (omega arith, omega arith))

-- and each of these
pub consecutive-in : (first n x : ℕ) → first ≤ x → x < first + n → mem x (consecutive first n) ≡ true
consecutive-in first zero x h k = absurd (omega arith)
consecutive-in first (suc n) x h k = split (eqb x first)
    (λ q. cc)
    (λ q. let p = eqb-false x first q in cc (consecutive-in (suc first) n x (omega arith) (omega arith)))

pub consecutive-length : (first n : ℕ) → length (consecutive first n) ≡ n
consecutive-length first zero = refl
consecutive-length first (suc n) = ap suc (consecutive-length (suc first) n)

-- whatever is below the first is below all
consecutive-above : (x first n : ℕ) → x < first → Above x (consecutive first n)
consecutive-above x first zero h = tt
consecutive-above x first (suc n) h = (h, consecutive-above x (suc first) n (omega arith))

pub consecutive-rises : (first n : ℕ) → Rising (consecutive first n)
consecutive-rises first zero = tt
consecutive-rises first (suc n) = (consecutive-above first (suc first) n (omega arith), consecutive-rises (suc first) n)

pub consecutive-once : (first n : ℕ) → once (consecutive first n) ≡ consecutive first n
consecutive-once first n = once-same (consecutive first n) (once-rising (consecutive first n) (consecutive-rises first n))

pub consecutive-more : (first n : ℕ) → consecutive first (suc n) ≡ consecutive first n ++ ((first + n) ∷ [])
consecutive-more first zero = let e : first ≡ first + 0 = omega arith in ap (λ (x : ℕ). x ∷ []) e
consecutive-more first (suc n) =
    let e : suc first + n ≡ first + suc n = omega arith in
    ap (λ (l : List ℕ). first ∷ l) (consecutive-more (suc first) n ∙ ap (λ (x : ℕ). consecutive (suc first) n ++ (x ∷ [])) e)
