-- The tables: the tests that each element of each table passes, and what a walk over them knows of the element that comes.
-- Assumes nothing.
use Prim.Native.Nat.{ℕ, ◌+◌, ◌≤◌, ◌<◌}
use mathlib.Core.Path.{◌≡◌, ap, sym, ◌∙◌, subst}
use mathlib.Core.Bool.{Bool, ◌&&◌}
use mathlib.Core.List.{List, ◌∷◌, ◌++◌}
use native.Mathlib.Numerals.{add-one}
use native.Mathlib.Omega.{arith}
use lib.Dec.{T, leb, leb→le}
use lib.ListN.{length, drop, get_or}
use lib.Seq.{drop-cons}
use Rattle.layout.specs.declared.Element.{Element}
use Rattle.layout.specs.declared.Kind.{Kind}
use Rattle.layout.specs.Shape.{rows_of, span, spans, conditions_of, unrolled}
use Rattle.layout.specs.Kinds.{table_of}
use Rattle.layout.specs.Frame.{places}
use Rattle.table.specs.Sound.{sound, able}
use Rattle.layout.proofs.Tests.{left, right}
use Rattle.layout.proofs.EachKind.{every-test}

-- ---- the tests, computed once over all kinds
tables-able : (kind : Kind) → T (able (table_of kind) 0)
unfolding able sound table_of span spans
tables-able = every-test (λ kind. able (table_of kind) 0) tt

tables-room : (kind : Kind) → T (leb (spans (table_of kind)) places)
unfolding table_of span spans
tables-room = every-test (λ kind. leb (spans (table_of kind)) places) tt

-- ---- a walk over elements: k are passed, and the next begins at the place p
pub record Placed (es : List Element) (p k : ℕ) : Type 0 where
  pub able : T (able (drop k es) p)
  pub room : p + spans (drop k es) ≤ places

pub placed-none : (kind : Kind) → Placed (table_of kind) 0 0
placed-none kind = let small : spans (table_of kind) ≤ places = leb→le _ _ (tables-room kind) in record { able = tables-able kind; room = omega arith }

-- the next, whatever stands past the end
module _ {es : List Element} {p k : ℕ} (d : Element) (now : Placed es p k) (inside : k < length es) where
  abbrev e : Element
  e = get_or es k d

  pub first : drop k es ≡ e ∷ drop (k + 1) es
  first = drop-cons es k d inside ∙ ap (λ (n : ℕ). e ∷ drop n es) (sym (add-one k))

  later : Bool
  later = able (drop (k + 1) es) (p + span e.1)

  here : T (sound e.1 p && later)
  unfolding able later
  here = subst (λ (l : List Element). T (able l p)) first now.able

  sizes : span e.1 + spans (drop (k + 1) es) ≡ spans (drop k es)
  unfolding spans
  sizes = sym (ap spans first)

  pub element-room : p + span e.1 ≤ places
  element-room = omega (arith, sizes, now.room)

  pub element-sound : T (sound e.1 p)
  element-sound = left (sound e.1 p) later here

  -- its rows, and those of the elements behind it
  pub element-rows : unrolled (drop k es) p ≡ rows_of e.1 (conditions_of e.0) p ++ unrolled (drop (k + 1) es) (p + span e.1)
  unfolding unrolled
  element-rows = ap (λ (l : List Element). unrolled l p) first

  pub element-more : Placed es (p + span e.1) (k + 1)
  unfolding later
  element-more = record { able = right (sound e.1 p) later here; room = omega (arith, sizes, now.room) }
