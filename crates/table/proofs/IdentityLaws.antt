-- An identity's rows: which are there follows from its form.
-- Assumes nothing.
use Prim.Native.Nat.{ℕ, ◌+◌, ◌≤◌, ◌<◌}
use mathlib.Core.Path.{◌≡◌, sym, ◌∙◌, subst}
use mathlib.Core.Bool.{true, false}
use mathlib.Core.List.{List, [], ◌∷◌}
use mathlib.Core.Logic.{⊎_elim}
use native.Mathlib.Omega.{arith}
use borrow.Author.Tests.{lt-leb, le-leb, ne_eqb, eq-eqb}
use lib.ListN.{length, take, get_or}
use lib.Seq.{get_or-take}
use Rattle.refusal.specs.declared.Refusal.TheVariants.{Reserved}
use Rattle.layout.specs.Row.{Row, is, at_least, present}
use Rattle.layout.specs.Shape.{number}
use Rattle.table.specs.Sound.{Clear}
use Rattle.table.proofs.Walks.{Walk, goes_then, clear-after, value_before}
use Rattle.table.proofs.Absent.{Shut, none, more, passes}

-- ---- a condition on the form, which stands before
module _ (vs : List ℕ) (p n : ℕ) (h : p < n) where
  form-is : (v : ℕ) → get_or vs p 0 ≡ v → present (take n vs) (is p v ∷ []) ≡ true
  unfolding present
  form-is v e = rw (get_or-take n vs p 0 h, eq-eqb (get_or vs p 0) v e)

  form-not : (v : ℕ) → (get_or vs p 0 ≡ v → ⊥) → present (take n vs) (is p v ∷ []) ≡ false
  unfolding present
  form-not v e = rw (get_or-take n vs p 0 h, ne_eqb (get_or vs p 0) v e)

  form-from : (v : ℕ) → v ≤ get_or vs p 0 → present (take n vs) (at_least p v ∷ []) ≡ true
  unfolding present
  form-from v e = rw (get_or-take n vs p 0 h, le-leb v (get_or vs p 0) e)

  form-below : (v : ℕ) → get_or vs p 0 < v → present (take n vs) (at_least p v ∷ []) ≡ false
  unfolding present
  form-below v e = rw (get_or-take n vs p 0 h, lt-leb v (get_or vs p 0) e)

-- the rows after the form
abbrev sna : ℕ → Row
sna p = number 8 (is p 1 ∷ [])

abbrev ssi : ℕ → Row
ssi p = number 24 (at_least p 2 ∷ [])

abbrev extension : ℕ → Row
extension p = number 24 (is p 3 ∷ [])

-- a form below 2 has neither an SSI nor an extension
no-ssi : (vs : List ℕ) (p : ℕ) → get_or vs p 0 < 2 → Shut vs (p + 1 + 1) (ssi p ∷ extension p ∷ [])
no-ssi vs p h =
    more (form-below vs p (p + 1 + 1) (omega arith) 2 h) (more (form-not vs p (p + 1 + 1 + 1) (omega arith) 3 (λ d. omega arith)) none)

module _ (W : Walk) (p : ℕ) (x : W.State) (room : p + 4 ≤ length (W.values x)) where
  -- form 3 has an extension, any other none
  pub extension-on : (at : ℕ) (y : W.State) (r : W.Result) → get_or (W.values x) p 0 ≡ 3 → W.Goes (number 24 [] ∷ []) at (p + 3) x y r
      → W.Goes (extension p ∷ []) at (p + 3) x y r
  extension-on at y r e f = W.under 24 0 16777216 Reserved 0 [] (is p 3 ∷ []) [] at (p + 3) x y r (form-is (W.values x) p (p + 3) (omega arith) 3 e) f

  pub extension-off : (at : ℕ) → (get_or (W.values x) p 0 ≡ 3 → ⊥) → Clear (W.values x) (p + 3) → W.Goes (extension p ∷ []) at (p + 3) x x (W.next at)
  extension-off at e z = passes W at (p + 3) x (extension p ∷ []) (more (form-not (W.values x) p (p + 3) (omega arith) 3 e) none) z (omega arith)

  -- form 1 is an SNA alone
  pub form-sna : (at : ℕ) (y : W.State) (r : W.Result) → get_or (W.values x) p 0 ≡ 1 → Clear (W.values x) (p + 1)
      → W.Goes (number 8 [] ∷ []) at (p + 1) x y r → W.Goes (sna p ∷ ssi p ∷ extension p ∷ []) at (p + 1) x y r
  form-sna at y r e z f = ⊎_elim goes (λ h. W.stop (sna p ∷ []) (ssi p ∷ extension p ∷ []) at (p + 1) x y r h under) (W.told r)
    where
      under : W.Goes (sna p ∷ []) at (p + 1) x y r
      under = W.under 8 0 256 Reserved 0 [] (is p 1 ∷ []) [] at (p + 1) x y r (form-is (W.values x) p (p + 1) (omega arith) 1 e) f

      goes : (at₁ : ℕ) × (r ≡ W.next at₁) → W.Goes (sna p ∷ ssi p ∷ extension p ∷ []) at (p + 1) x y r
      goes t =
          let at₁ = t.0 in
          let f₁ : W.Goes (sna p ∷ []) at (p + 1) x y (W.next at₁) = subst (W.Goes (sna p ∷ []) at (p + 1) x y) t.1 under in
          let same : get_or (W.values y) p 0 ≡ 1 = value_before W (sna p ∷ []) at at₁ (p + 1) x y r t.1 under p (omega arith) ∙ e in
          subst (W.Goes (sna p ∷ ssi p ∷ extension p ∷ []) at (p + 1) x y) (sym t.1)
          (W.join (sna p ∷ []) (ssi p ∷ extension p ∷ []) at at₁ (p + 1) x y y (W.next at₁) f₁
          (passes W at₁ (p + 1 + 1) y (ssi p ∷ extension p ∷ []) (no-ssi (W.values y) p (omega arith))
          (clear-after W (sna p ∷ []) at at₁ (p + 1) x y r t.1 under z) (omega (arith, W.size (sna p ∷ []) at (p + 1) x y (W.next at₁) f₁))))

  -- no form, nothing
  pub form-none : (at : ℕ) → get_or (W.values x) p 0 ≡ 0 → Clear (W.values x) (p + 1) → W.Goes (sna p ∷ ssi p ∷ extension p ∷ []) at (p + 1) x x (W.next at)
  form-none at e z =
      passes W at (p + 1) x (sna p ∷ ssi p ∷ extension p ∷ [])
      (more (form-not (W.values x) p (p + 1) (omega arith) 1 (λ d. omega arith))
      (no-ssi (W.values x) p (omega arith)))
      z (omega arith)

  -- a form from 2 on has an SSI, after a place for an SNA
  module _ (at : ℕ) (y : W.State) (r₁ : W.Result) (e : 2 ≤ get_or (W.values x) p 0) (z : Clear (W.values x) (p + 1))
      (f : W.Goes (number 24 [] ∷ []) at (p + 2) x y r₁) where
    then-ssi : W.Goes (sna p ∷ ssi p ∷ []) at (p + 1) x y r₁
    then-ssi =
        let place : p + 2 ≡ p + 1 + 1 = omega arith in
        W.join (sna p ∷ []) (ssi p ∷ []) at at (p + 1) x x y r₁
        (passes W at (p + 1) x (sna p ∷ []) (more (form-not (W.values x) p (p + 1) (omega arith) 1 (λ d. omega arith)) none) z (omega arith))
        (subst (λ (n : ℕ). W.Goes (ssi p ∷ []) at n x y r₁) place
        (W.under 24 0 16777216 Reserved 0 [] (at_least p 2 ∷ []) [] at (p + 2) x y r₁ (form-from (W.values x) p (p + 2) (omega arith) 2 e) f))

    pub form-stop : (r : W.Result) → r₁ ≡ r → W.Stops r → W.Goes (sna p ∷ ssi p ∷ extension p ∷ []) at (p + 1) x y r
    form-stop r d h =
        W.stop (sna p ∷ ssi p ∷ []) (extension p ∷ []) at (p + 1) x y r h (subst (W.Goes (sna p ∷ ssi p ∷ []) at (p + 1) x y) d then-ssi)

    pub form-ssi : (at₁ : ℕ) (w : W.State) (r₂ : W.Result) → r₁ ≡ W.next at₁ → W.Goes (extension p ∷ []) at₁ (p + 3) y w r₂
        → W.Goes (sna p ∷ ssi p ∷ extension p ∷ []) at (p + 1) x w r₂
    form-ssi at₁ w r₂ d g =
        let place : p + 3 ≡ p + 1 + 2 = omega arith in
        goes_then W (sna p ∷ ssi p ∷ []) (extension p ∷ []) at at₁ (p + 1) x y w r₁ r₂ d then-ssi
        (subst (λ (n : ℕ). W.Goes (extension p ∷ []) at₁ n y w r₂) place g)
