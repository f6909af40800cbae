-- What each shape finds, by what its parts promise.
-- Assumes nothing.
use Rattle.std.specs.Prelude.{⊤}
use Rattle.std.proofs.Common.{◌≡◌, ℕ, suc, ◌+◌, ◌^◌, ◌<◌, ◌≤◌, Bool, T, eqb, leb, Option, Some, None, List, [], ◌∷◌, get_or, take, drop, sym, refl}
use Rattle.std.proofs.Common.{ap, ◌∙◌, subst, inl, inr, add-one, arith, get_or-take, pow_mono}
use borrow.Author.Tests.{lt-leb}
use Rattle.refusal.specs.declared.Refusal.TheVariants.{NoGroup, NothingFollows, TypeThree}
use Rattle.layout.specs.declared.Items.{Items}
use Rattle.layout.specs.declared.Shape.{Shape}
use Rattle.layout.specs.declared.Shape.TheVariants.{Number, Choice, Identity, Ending, Missing, Nothing}
use Rattle.layout.specs.declared.Shape.TheVariants as shape
use Rattle.layout.specs.Row.{Row, is, nothing_since, all, present}
use Rattle.layout.specs.Shape.{No, number, identity, rows_of}
use Rattle.layout.specs.Write.{held}
use Rattle.layout.specs.Frame.{places}
use Rattle.layout.proofs.Tests.{and-true}
use Rattle.table.specs.declared.Field.{Field}
use Rattle.table.specs.Fields.{row_for, number_field, choice_field}
use Rattle.table.specs.Sound.{sound}
use Rattle.table.proofs.FieldLaws.{number-row}
use Rattle.table.proofs.ShapeLaws.{sound-number, sound-missing}
use Rattle.writing.specs.Pass.{Pass}
use Rattle.writing.specs.declared.walk.Passed.{Passed}
use Rattle.writing.specs.declared.walk.Passed.TheVariants as passed
use Rattle.writing.specs.Lay.{Lent, Passes, Any, Writes, reached}
use Rattle.writing.specs.Found.{Looks, Puts, found_of, barred_of}
use Rattle.writing.proofs.LayLaws.{finds, finds_on}
use Rattle.writing.proofs.LayShapes.{puts-found, puts-barred, bar-bad, bar-group}
use Rattle.writing.proofs.Parts.{field-writes}

-- the M-bit
abbrev m_bit : Field
m_bit = record { width = 1; first = 0; codes = 1; refusal = TypeThree }

-- what is promised of a shape
abbrev Told : Pass → List ℕ → ℕ → ℕ → ℕ → Lent → Lent → ℕ → Option Passed → Shape → Type 0
Told pass s last at p out out' at' r x = Puts pass (Looks pass s last p x) (rows_of x [] p) s at p out out' at' r

module _ {pass : Pass} {s : List ℕ} (last : ℕ) {at p : ℕ} {x : Shape} {out out' : Lent} {at' : ℕ} {r : Option Passed} (inside : p < places) where
  -- where the shape is told by a match
  when-told : (y : Shape) → x ≡ y → Told pass s last at p out out' at' r y → Told pass s last at p out out' at' r x
  when-told y e f = subst (Told pass s last at p out out' at' r) (sym e) f

  module _ {f : Field} (t : Option ⊤) where
    pub number-found : (w : ℕ) → x ≡ Number w → T (sound x p) → f ≡ number_field w → Passes pass f (get_or s p 0) at out out' (reached t at')
        → r ≡ found_of t (get_or s p 0) → Told pass s last at p out out' at' r x
    unfolding rows_of
    number-found w e ok d g h =
        let fit = sound-number x p w e ok in
        let same : row_for f [] ≡ number w [] = ap (λ (y : Field). row_for y []) d ∙ number-row w fit.0 fit.1 in
        let codes : 2 ^ 1 ≤ 2 ^ w = pow_mono fit.0 in
        let carried : get_or s p 0 ≡ held (number w []) (get_or s p 0) = rw (lt-leb (2 ^ w) 1 (omega arith)) in
        let one = field-writes g inside (subst (λ (c : Row). get_or s p 0 ≡ held c (get_or s p 0)) (sym same) carried) in
        when-told (Number w) e
        (puts-found t (subst (λ (c : Row). Writes pass Any (c ∷ []) s at p out out' (reached t at')) same one) refl (inl refl) inside
        (Looks pass s last p (Number w)) _ r carried h)

    pub choice-found : (w n : ℕ) → x ≡ Choice w n → f ≡ choice_field w n → Passes pass f (get_or s p 0) at out out' (reached t at')
        → r ≡ found_of t (get_or s p 0) → Told pass s last at p out out' at' r x
    unfolding rows_of
    choice-found w n e d g h =
        let one = field-writes (subst (λ (y : Field). Passes pass y (get_or s p 0) at out out' (reached t at')) d g) inside refl in
        when-told (Choice w n) e (puts-found t one refl (inr (omega arith)) inside (Looks pass s last p (Choice w n)) _ r refl h)

  -- an identity, a list: the first row is a choice
  pub identity-found : (t : Option ⊤) → x ≡ Identity → Writes pass Any (identity [] p) s at p out out' (reached t at') → r ≡ found_of t (get_or s p 0)
      → Told pass s last at p out out' at' r x
  unfolding rows_of
  identity-found t e g h = when-told Identity e (puts-found t g refl (inr (omega arith)) inside (Looks pass s last p Identity) _ r refl h)

  pub list-found : (t : Option ⊤) (items : Items) → x ≡ shape.List items → Writes pass Any (rows_of (shape.List items) [] p) s at p out out' (reached t at')
      → r ≡ found_of t (get_or s p 0) → Told pass s last at p out out' at' r x
  unfolding rows_of
  list-found t items e g h = when-told (shape.List items) e (puts-found t g refl (inr (omega arith)) inside (Looks pass s last p (shape.List items)) _ r refl h)

  -- the M-bit is laid as 0, whatever its place holds
  pub ending-found : (t : Option ⊤) → x ≡ Ending → Passes pass m_bit 0 at out out' (reached t at') → r ≡ found_of t 0 → Told pass s last at p out out' at' r x
  unfolding rows_of
  ending-found t e g h = when-told Ending e (puts-found t (field-writes g inside refl) refl (inl refl) inside (Looks pass s last p Ending) 0 r refl h)

-- ---- the two refusals
module _ {pass : Pass} {s : List ℕ} (last : ℕ) {at p : ℕ} {x : Shape} {out : Lent} {r : Option Passed} (inside : p < places) {reason : Bool} where
  pub missing-found : (q : ℕ) → x ≡ Missing q → T (sound x p) → reason ≡ eqb (get_or s q 0) No → r ≡ barred_of pass reason (Some passed.NoGroup)
      → Told pass s last at p out out at r x
  unfolding rows_of present
  missing-found q e ok d h =
      when-told last inside (Missing q) e
      (puts-barred NoGroup (is q No) s at p out pass inside (Looks pass s last p (Missing q)) reason (Some passed.NoGroup) (omega arith)
      (λ vs z k. finds pass (rw (get_or-take p vs q 0 (sound-missing x p q e ok)) (and-true (eqb (get_or vs q 0) No) ∙ k ∙ sym d)))
      (λ vs l z on. bar-group NoGroup (is q No) s at p out vs l z refl on)
      r h)

  pub nothing-found : (o : ℕ) → x ≡ Nothing o → reason ≡ leb last (o + 1) → r ≡ barred_of pass reason None → Told pass s last at p out out at r x
  unfolding rows_of present
  nothing-found o e d h =
      when-told last inside (Nothing o) e
      (puts-barred NothingFollows (nothing_since o) s at p out pass inside (Looks pass s last p (Nothing o)) reason None tt
      (λ vs z. finds_on pass (λ (k : leb last (suc o) ≡ all (λ v. eqb v 0) (drop (suc o) (take p vs))).
      and-true (all (λ v. eqb v 0) (drop (suc o) (take p vs))) ∙ sym (d ∙ ap (leb last) (add-one o) ∙ k)))
      (λ vs l z on. bar-bad NothingFollows (nothing_since o) s at p out vs l z refl on)
      r h)
