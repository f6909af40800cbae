-- A walk over rows, of the reader or of the writer: what both have in common, so that the laws of elements are said once.
-- Assumes nothing.
use Prim.Native.Nat.{ℕ, ◌+◌, ◌-◌, ◌<◌}
use mathlib.Core.Path.{◌≡◌, ap, sym, ◌∙◌, subst}
use mathlib.Core.Bool.{true, false}
use mathlib.Core.List.{List, [], ◌∷◌, ◌++◌}
use mathlib.Core.Logic.{◌⊎◌}
use native.Mathlib.Omega.{arith}
use lib.ListN.{length, take, drop, get_or}
use lib.Seq.{get_or-take, get_or-drop}
use Rattle.refusal.specs.declared.Refusal.{Refusal}
use Rattle.layout.specs.Row.{Row, Condition, present}
use Rattle.layout.specs.Shape.{row}
use Rattle.table.specs.Sound.{Clear}
pub use Rattle.layout.proofs.Absent.{clear_none}

-- `Goes rows at p x y r`: from the bit `at` and the state x the walk passes rows that begin at the place p, to the state y, with the result r
pub record Walk : Type 1 where
  pub State : Type 0
  pub Result : Type 0
  pub next : ℕ → Result
  pub Stops : Result → Type 0
  pub told : (r : Result) → ((at : ℕ) × (r ≡ next at)) ⊎ Stops r
  pub values : State → List ℕ
  pub Goes : List Row → ℕ → ℕ → State → State → Result → Type 0
  -- over no rows nothing happens; a row that is not there, whose place holds 0, is passed
  pub none : (at p : ℕ) (x : State) → Goes [] at p x x (next at)
  pub off : (r : Row) (at p : ℕ) (x : State) → p < length (values x) → present (take p (values x)) r.hang ≡ false → get_or (values x) p 0 ≡ 0
      → Goes (r ∷ []) at p x x (next at)
  -- rows after rows, and rows after a stop
  pub join : (a b : List Row) (at at₁ p : ℕ) (x y z : State) (r : Result) → Goes a at p x y (next at₁) → Goes b at₁ (p + length a) y z r
      → Goes (a ++ b) at p x z r
  pub stop : (a b : List Row) (at p : ℕ) (x y : State) (r : Result) → Stops r → Goes a at p x y r → Goes (a ++ b) at p x y r
  -- a row is passed under more conditions, which hold, as it is passed without
  pub under : (w first codes : ℕ) (n : Refusal) (back : ℕ) (own hang : List Condition) (more : List Row) (at p : ℕ) (x y : State) (r : Result)
      → present (take p (values x)) hang ≡ true → Goes (row w first codes n back own ∷ more) at p x y r
      → Goes (row w first codes n back (own ++ hang) ∷ more) at p x y r
  -- the values before and after the rows stay
  pub before : (rows : List Row) (at at₁ p : ℕ) (x y : State) → Goes rows at p x y (next at₁) → take p (values y) ≡ take p (values x)
  pub stays : (rows : List Row) (at at₁ p : ℕ) (x y : State) → Goes rows at p x y (next at₁)
      → drop (p + length rows) (values y) ≡ drop (p + length rows) (values x)
  pub size : (rows : List Row) (at p : ℕ) (x y : State) (r : Result) → Goes rows at p x y r → length (values y) ≡ length (values x)

-- places that held 0 hold it still, where what is after n places stays
pub clear_later : (n p : ℕ) (vs vs' : List ℕ) → drop (p + n) vs' ≡ drop (p + n) vs → Clear vs p → Clear vs' (p + n)
clear_later n p vs vs' e z q h =
    let m = p + n in
    let d : m + (q - m) ≡ q = omega arith in
    ap (λ (k : ℕ). get_or vs' k 0) (sym d)
    ∙ sym (get_or-drop m vs' (q - m) 0) ∙ ap (λ (l : List ℕ). get_or l (q - m) 0) e ∙ get_or-drop m vs (q - m) 0
    ∙ z (m + (q - m)) (omega arith)

module _ (W : Walk) where
  -- for a result that a match has told
  pub goes_then : (a b : List Row) (at at₁ p : ℕ) (x y z : W.State) (r₁ r : W.Result) → r₁ ≡ W.next at₁ → W.Goes a at p x y r₁
      → W.Goes b at₁ (p + length a) y z r → W.Goes (a ++ b) at p x z r
  goes_then a b at at₁ p x y z r₁ r e f g = W.join a b at at₁ p x y z r (subst (W.Goes a at p x y) e f) g

  module _ (rows : List Row) (at at₁ p : ℕ) (x y : W.State) (r : W.Result) (t : r ≡ W.next at₁) (g : W.Goes rows at p x y r) where
    f : W.Goes rows at p x y (W.next at₁)
    f = subst (W.Goes rows at p x y) t g

    pub clear-after : Clear (W.values x) p → Clear (W.values y) (p + length rows)
    clear-after z = clear_later (length rows) p (W.values x) (W.values y) (W.stays rows at at₁ p x y f) z

    pub value_before : (q : ℕ) → q < p → get_or (W.values y) q 0 ≡ get_or (W.values x) q 0
    value_before q h =
        sym (get_or-take p (W.values y) q 0 h) ∙ ap (λ (l : List ℕ). get_or l q 0) (W.before rows at at₁ p x y f) ∙ get_or-take p (W.values x) q 0 h
