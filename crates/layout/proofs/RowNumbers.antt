-- What the rows of every table are, by the number of their refusal: computed once over the list of kinds.
-- 7 is the M-bit; 6 a row of no bits behind it; 5 a row of no bits behind a bit of yes and no; every other is an element whose refusal is 4.
-- Assumes nothing.
use Prim.Native.Nat.{ℕ, zero, suc, ◌+◌, ◌-◌, ◌<◌}
use mathlib.Core.Path.{◌≡◌, refl, ap, ◌∙◌}
use mathlib.Core.Bool.{cond}
use mathlib.Core.List.{List, [], ◌∷◌, tail, map}
use native.Mathlib.Nat.{add-zero}
use native.Mathlib.Omega.{arith}
use lib.Dec.{eqb, ltb}
use lib.ListN.{length, get_or}
use Rattle.refusal.specs.Number.{number_of}
use Rattle.refusal.specs.declared.Refusal.TheVariants.{Reserved, NoGroup}
use Rattle.layout.specs.declared.Kind.{Kind}
use Rattle.layout.specs.Row.{Condition, is, at_least, nothing_since, Row, nothing}
use Rattle.layout.specs.Shape.{row, choice, refuse, No, rows_of, repeated, span, spans, unrolled}
use Rattle.layout.specs.Kinds.{kinds, table_of}
use Rattle.layout.specs.Frame.{rows}
use Rattle.layout.specs.Where.{m_bit}
use Rattle.layout.proofs.EachKind.{every-same}
use Rattle.layout.proofs.Readings.{followed}

abbrev pub number_at : Row → ℕ
number_at r = number_of r.refusal

-- the place that the first condition looks at
abbrev pub place_of : List Condition → ℕ
place_of [] = 0
place_of (is q v ∷ more) = q
place_of (at_least q v ∷ more) = q
place_of (nothing_since q ∷ more) = q

-- refusal 5 behind the yes and no at the place `given`, where an earlier one at the place `related` is no too
abbrev pub neither_row : ℕ → ℕ → Row
neither_row related given = cond (ltb related given) (refuse NoGroup 1 (is given No ∷ is related No ∷ [])) nothing

-- the row at the place k, as its number says it is; and the row before it, and the one behind it
abbrev pub by_number : ℕ → Row → Row → Row → Row
by_number k last r more =
    cond (eqb (number_at r) 7) (m_bit (place_of r.hang))
    (cond (eqb (number_at r) 6) (followed (place_of r.hang))
    (cond (eqb (number_at r) 5) (neither_row (place_of (tail r.hang)) (k - 1))
    (row r.width r.first r.codes Reserved 0 r.hang)))

abbrev pub last_by_number : ℕ → Row → Row → Row → Row
last_by_number k last r more = cond (eqb (number_at r) 6) (m_bit (place_of r.hang)) (cond (eqb (number_at r) 5) (choice 1 2 []) last)

abbrev pub next_by_number : ℕ → Row → Row → Row → Row
next_by_number k last r more = cond (eqb (number_at r) 7) (followed (place_of r.hang)) more

-- what is said of each row, with its place, the row before it and the one behind it
abbrev each : (ℕ → Row → Row → Row → Row) → ℕ → Row → List Row → List Row
each f k last [] = []
each f k last (r ∷ more) = f k last r (get_or more 0 nothing) ∷ each f (suc k) r more

abbrev said : (ℕ → Row → Row → Row → Row) → ℕ → Row → List Row → ℕ → Row
said f place last l i = f place (get_or (last ∷ l) i nothing) (get_or l i nothing) (get_or l (suc i) nothing)

at_each : (f g : ℕ → Row → Row → Row → Row) (k : ℕ) (last : Row) (l : List Row) → each f k last l ≡ each g k last l
    → (i place : ℕ) → i < length l → place ≡ k + i → said f place last l i ≡ said g place last l i
at_each f g k last [] e i place h p = absurd (omega arith)
at_each f g k last (r ∷ l) e zero place h p = rw (p ∙ add-zero k) (ap (λ (rs : List Row). get_or rs 0 nothing) e)
at_each f g k last (r ∷ l) e (suc i) place h p = at_each f g (suc k) r l (ap tail e) i place (omega arith) (omega arith)

abbrev each_of : (ℕ → Row → Row → Row → Row) → Kind → List Row
each_of f kind = each f 0 nothing (rows kind)

by_kind : (f g : ℕ → Row → Row → Row → Row) → map (each_of f) kinds ≡ map (each_of g) kinds
    → (kind : Kind) (k : ℕ) → k < length (rows kind) → said f k nothing (rows kind) k ≡ said g k nothing (rows kind) k
by_kind f g same kind k inside = at_each f g 0 nothing (rows kind) (every-same (each_of f) (each_of g) same kind) k k inside (omega arith)

abbrev itself : ℕ → Row → Row → Row → Row
itself k last r more = r

abbrev the_last : ℕ → Row → Row → Row → Row
the_last k last r more = last

abbrev the_next : ℕ → Row → Row → Row → Row
the_next k last r more = more

pub row-by-number : (kind : Kind) (k : ℕ) → k < length (rows kind) → said itself k nothing (rows kind) k ≡ said by_number k nothing (rows kind) k
unfolding rows unrolled rows_of repeated span spans table_of
row-by-number = by_kind itself by_number refl

pub last-by-number : (kind : Kind) (k : ℕ) → k < length (rows kind) → said the_last k nothing (rows kind) k ≡ said last_by_number k nothing (rows kind) k
unfolding rows unrolled rows_of repeated span spans table_of
last-by-number = by_kind the_last last_by_number refl

pub next-by-number : (kind : Kind) (k : ℕ) → k < length (rows kind) → said the_next k nothing (rows kind) k ≡ said next_by_number k nothing (rows kind) k
unfolding rows unrolled rows_of repeated span spans table_of
next-by-number = by_kind the_next next_by_number refl
