-- The largest length of a kind's frames, found by going through its table (document 02, P8).
-- A flag, of two values and always there, is tried with each of them: elements that exclude each other are never counted together.
-- Every other element counts with all the bits that it can have, wherever it can be there.
-- Assumes nothing.
use Rattle.std.specs.Prelude.{ℕ, suc, ◌+◌, max, Bool, true, false, cond, List, [], ◌∷◌, ◌++◌, eqb, drop, get_or, replicate}
use Rattle.layout.specs.declared.Kind.{Kind}
use Rattle.layout.specs.declared.Element.{Element}
use Rattle.layout.specs.declared.When.{When}
use Rattle.layout.specs.declared.When.TheVariants.{Always, Is, All}
use Rattle.layout.specs.declared.Shape.{Shape}
use Rattle.layout.specs.declared.Shape.TheVariants.{Number, Choice, Identity, Ending, Missing, Nothing}
use Rattle.layout.specs.declared.Shape.TheVariants as shape
use Rattle.layout.specs.Row.{Condition, is, at_least, nothing_since, all}
use Rattle.layout.specs.Shape.{No, span, conditions_of}
use Rattle.layout.specs.Kinds.{table_of}
use Rattle.layout.specs.Frame.{head_bits}
use Rattle.layout.specs.Longest.{longest_shape}

-- ---- what is known of a place so far: that it holds this value, or nothing
pub data Known : Type 0 where
  only : ℕ → Known
  any : Known

-- it may hold a value; it holds it for certain
abbrev pub may : Known → ℕ → Bool
may (only u) v = eqb u v
may any v = true

abbrev pub must : Known → ℕ → Bool
must (only u) v = eqb u v
must any v = false

-- a condition can hold; it holds for certain
abbrev pub can : List Known → Condition → Bool
can known (is place v) = may (get_or known place any) v
can known (at_least place v) = true
can known (nothing_since place) = true

abbrev pub certain : List Known → Condition → Bool
certain known (is place v) = must (get_or known place any) v
certain known (at_least place v) = false
certain known (nothing_since place) = all (λ k. must k 0) (drop (suc place) known)

-- ---- what can become of an element
pub data Chance : Type 0 where
  absent : Chance  -- it has no bits, and its places hold 0
  refuses : Chance  -- there is no such frame
  flag : ℕ → Chance  -- it is there, with this value or the next
  counts : Known → Chance  -- it has all the bits that its shape can have, and this is known of its places

abbrev pub if_possible : List Known → When → Chance → Chance
if_possible known when there = cond (all (can known) (conditions_of when)) there absent

abbrev pub unless_barred : List Known → List Condition → Chance
unless_barred known hang = cond (all (certain known) hang) refuses absent

abbrev pub flag_if : When → ℕ → Chance
flag_if Always v = flag v
flag_if (Is place u) v = counts any
flag_if (All a b place u) v = counts any

-- a bit holds 0 or 1, and a choice of two 1 or 2; the M-bit's place holds 0
abbrev pub chance : List Known → When → Shape → Chance
chance known when (Number w) = if_possible known when (cond (eqb w 1) (flag_if when 0) (counts any))
chance known when (Choice w n) = if_possible known when (cond (eqb n 2) (flag_if when 1) (counts any))
chance known when Identity = if_possible known when (counts any)
chance known when (shape.List items) = if_possible known when (counts any)
chance known when Ending = if_possible known when (counts (only 0))
chance known when (Missing place) = unless_barred known (is place No ∷ conditions_of when)
chance known when (Nothing o) = unless_barred known (nothing_since o ∷ conditions_of when)

-- ---- the largest length of frames that have `bits` bits so far, by what may follow
abbrev pub onward : Chance → Shape → List Known → ℕ → (List Known → ℕ → ℕ) → ℕ
onward absent x known bits more = more (known ++ replicate (span x) (only 0)) bits
onward refuses x known bits more = 0
onward (flag v) x known bits more =
    max (more (known ++ (only v ∷ [])) (bits + longest_shape x)) (more (known ++ (only (suc v) ∷ [])) (bits + longest_shape x))
onward (counts k) x known bits more = more (known ++ replicate (span x) k) (bits + longest_shape x)

unfoldable pub largest_of : List Element → List Known → ℕ → ℕ
largest_of [] known bits = bits
largest_of (e ∷ es) known bits = onward (chance known e.0 e.1) e.1 known bits (largest_of es)

unfoldable pub largest : Kind → ℕ
largest kind = largest_of (table_of kind) [] head_bits
