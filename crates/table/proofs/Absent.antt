-- An element that is not there: none of its rows is, so its places, which hold 0, are passed.
-- Assumes nothing.
use Prim.Native.Nat.{ℕ, ◌+◌, ◌≤◌, ◌<◌}
use mathlib.Core.Path.{◌≡◌, refl, sym, ◌∙◌}
use mathlib.Core.Bool.{false}
use mathlib.Core.List.{List, [], ◌∷◌}
use native.Mathlib.Omega.{arith}
use native.Mathlib.Decide.{dec_lt}
use lib.ListN.{length, take, get_or}
use lib.Seq.{get_or-take}
use Rattle.layout.specs.Row.{Row, present, Clear}
use Rattle.layout.specs.Shape.{rows_of, conditions_of}
use Rattle.layout.specs.declared.When.{When}
use Rattle.layout.specs.declared.When.TheVariants.{Always, Is, All}
use Rattle.layout.specs.declared.Shape.{Shape}
pub use Rattle.layout.proofs.Laying.{length-item, length-repeated, length-shape}
pub use Rattle.layout.proofs.Absent.{Shut, none, more, shut-item}
use Rattle.layout.proofs.Absent.{zero-before, shut-shape}
use Rattle.table.proofs.Walks.{Walk}

-- what a place holds so far, where all from n on hold 0, it holds
get_or-clear : (vs : List ℕ) (n q : ℕ) → Clear vs n → get_or (take n vs) q 0 ≡ get_or vs q 0
get_or-clear vs n q z = go (dec_lt q n)
  where
    go : Dec (q < n) → get_or (take n vs) q 0 ≡ get_or vs q 0
    go (yes l) = get_or-take n vs q 0 l
    go (no l) = let e : get_or vs q 0 ≡ 0 = z q (omega arith) in zero-before vs n q e ∙ sym e

-- a walk passes rows that are not there
pub passes : (W : Walk) (at p : ℕ) (x : W.State) (rows : List Row) → Shut (W.values x) p rows → Clear (W.values x) p → p + length rows ≤ length (W.values x)
    → W.Goes rows at p x x (W.next at)
passes W at p x [] none z h = W.none at p x
passes W at p x (r ∷ rows) (more e s) z h =
    W.join (r ∷ []) rows at at p x x x (W.next at) (W.off r at p x (omega arith) e (z p (omega arith)))
    (passes W at (p + 1) x rows s (λ q l. z q (omega arith)) (omega arith))

-- an element's conditions look at the record so far; what holds of the whole, holds of it
pub present-before : (when : When) (vs : List ℕ) (p : ℕ) → Clear vs p → present (take p vs) (conditions_of when) ≡ present vs (conditions_of when)
unfolding present
present-before Always vs p z = refl
present-before (Is place v) vs p z = rw (get_or-clear vs p place z)
present-before (All a b place v) vs p z = rw (get_or-clear vs p a z, get_or-clear vs p b z, get_or-clear vs p place z)

pub shut-element : (when : When) (s : Shape) (p : ℕ) (vs : List ℕ) → present vs (conditions_of when) ≡ false → Clear vs p
    → Shut vs p (rows_of s (conditions_of when) p)
shut-element when s p vs e z = shut-shape vs p z s (conditions_of when) (present-before when vs p z ∙ e)
