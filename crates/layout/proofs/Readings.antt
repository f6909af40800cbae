-- What the tables say of every record that has a frame, and so of every record that is read: a choice or a list is there exactly where its conditions
-- hold, and an O-bit that nothing can follow is 0. And whose refusal 5 is.
-- Assumes nothing.
use Prim.Native.Nat.{ℕ, zero, suc, ◌≤◌, ◌<◌}
use mathlib.Core.Path.{◌≡◌, refl, ap, sym, subst, ◌∙◌}
use mathlib.Core.Bool.{Bool, true, false, cond, not, ◌&&◌}
use mathlib.Core.List.{List, [], ◌∷◌, ◌++◌, tail, append_assoc, append-nil}
use native.Mathlib.Omega.{arith}
use borrow.Author.Tests.{eq-eqb, ne_eqb, eqb-false}
use lib.Dec.{T, eqb}
use lib.ListN.{length, take, drop, get_or, length-take, drop_of_length-le}
use lib.Seq.{get_or-take, drop-cons}
use Rattle.refusal.specs.Number.{number_of}
use Rattle.refusal.specs.declared.Refusal.TheVariants.{NoGroup, NothingFollows}
use Rattle.layout.specs.declared.Kind.{Kind}
use Rattle.layout.specs.declared.Kind.TheVariants.{Define, DefineAck, DeassigningAck, Delete, DeleteAck}
use Rattle.layout.specs.Row.{is, nothing_since, Row, all, present, nothing, bare, there}
use Rattle.layout.specs.Shape.{Yes, No, number, refuse, rows_of, repeated, span, spans, unrolled}
use Rattle.layout.specs.Table.{define, define_ack, deassigning_ack, delete, delete_ack}
use Rattle.layout.specs.Kinds.{kinds, table_of}
use Rattle.layout.specs.Write.{held, lay, good, vals}
use Rattle.layout.specs.Frame.{rows, laid, clean, valid}
use Rattle.layout.specs.Where.{m_bit}
use Rattle.layout.proofs.Tests.{left, right, and-true}
use Rattle.layout.proofs.RoundTrip.{Good, good→}

-- each value of a record that has a frame has a code in its row, as the row is there after the places before it
good-at : (table : List Row) (done s : List ℕ) (i : ℕ) → i < length table → T (all good (lay table done s))
    → let vs = vals (lay table done s) in T (good (record { row = there (done ++ take i vs) (get_or table i nothing); val = get_or vs i 0 }))
unfolding lay vals
good-at [] done s i h g = absurd (omega arith)
good-at (r ∷ table) done s zero h g =
    let v = held (there done r) (get_or s 0 0) in
    rw (append-nil done) (left (good (record { row = there done r; val = v })) (all good (lay table (done ++ (v ∷ [])) (tail s))) g)
good-at (r ∷ table) done s (suc i) h g =
    let v = held (there done r) (get_or s 0 0) in
    let more = lay table (done ++ (v ∷ [])) (tail s) in
    let rest = right (good (record { row = there done r; val = v })) (all good more) g in
    subst (λ l. T (good (record { row = there l (get_or table i nothing); val = get_or (vals more) i 0 }))) (append_assoc done (v ∷ []) (take i (vals more)))
    (good-at table (done ++ (v ∷ [])) (tail s) i (omega arith) rest)

-- what a row's value tells, where the row is there and where it is not
module _ (done : List ℕ) (r : Row) (v : ℕ) (fine : Good (there done r) v) where
  -- of a row whose first code is held as 1
  zero-absent : r.first ≡ 1 → eqb v 0 ≡ not (present done r.hang)
  zero-absent first = go (present done r.hang) fine
    where
      go : (on : Bool) → Good (cond on (bare r) nothing) v → eqb v 0 ≡ not on
      go true g = ne_eqb v 0 (λ e. omega (arith, first, g.low, e))
      go false g = eq-eqb v 0 (omega (arith, g.high))

  -- of a row with one code, which is held as 0
  pub holds-0 : r.first ≡ 0 → r.codes ≡ 1 → v ≡ 0
  holds-0 first codes = go (present done r.hang) fine
    where
      go : (on : Bool) → Good (cond on (bare r) nothing) v → v ≡ 0
      go true g = omega (arith, first, codes, g.high)
      go false g = omega (arith, g.high)

  -- of a row without a code
  not_there : r.first ≡ 0 → r.codes ≡ 0 → present done r.hang ≡ false
  not_there first codes = go (present done r.hang) fine
    where
      go : (on : Bool) → Good (cond on (bare r) nothing) v → on ≡ false
      go true g = absurd (omega (arith, first, codes, g.high))
      go false g = refl

module _ (kind : Kind) (s : List ℕ) (has : T (valid kind s)) where
  -- the row at a place, as it is there in the cleaned record, has a code for the value there
  fine : (q : ℕ) → q < length (rows kind) → Good (there (take q (clean kind s)) (get_or (rows kind) q nothing)) (get_or (clean kind s) q 0)
  unfolding valid clean
  fine q inside =
      let vs = vals (laid kind s) in
      good→ (there (take q vs) (get_or (rows kind) q nothing)) (get_or vs q 0) (good-at (rows kind) [] s q inside has)

  -- a choice or a list is there exactly where its conditions hold
  pub there-exactly : (q : ℕ) → q < length (rows kind) → (get_or (rows kind) q nothing).first ≡ 1
      → eqb (get_or (clean kind s) q 0) 0 ≡ not (present (take q (clean kind s)) (get_or (rows kind) q nothing).hang)
  there-exactly q inside first =
      zero-absent (take q (clean kind s)) (get_or (rows kind) q nothing) (get_or (clean kind s) q 0) (fine q inside) first

-- a chain of two names its first place twice
chain-of-two : (a b : Bool) → a && (a && (b && true)) ≡ a && b
chain-of-two true b = and-true b
chain-of-two false b = refl

-- DELETE's users are there exactly where its O-bit is 1 and "removed" is yes
pub users-when-removed : (s : List ℕ) → T (valid Delete s)
    → eqb (get_or (clean Delete s) delete.known.radios 0) 0
    ≡ not (eqb (get_or (clean Delete s) delete.known.o_bit 0) 1 && eqb (get_or (clean Delete s) delete.known.removed 0) Yes)
unfolding rows unrolled rows_of repeated span spans table_of present
users-when-removed s has =
    let vs = clean Delete s in
    let o = get_or-take 44 vs 43 0 (omega arith) in
    let removed = get_or-take 44 vs 42 0 (omega arith) in
    there-exactly Delete s has 44 (omega arith) refl ∙ rw (o, removed) (ap not (chain-of-two (eqb (get_or vs 43 0) 1) (eqb (get_or vs 42 0) Yes)))

-- ---- an O-bit with no element behind it but the M-bit
length-vals : (table : List Row) (done s : List ℕ) → length (vals (lay table done s)) ≡ length table
unfolding lay vals
length-vals [] done s = refl
length-vals (r ∷ table) done s = ap suc (length-vals table (done ++ (held (there done r) (get_or s 0 0) ∷ [])) (tail s))

-- behind an O-bit at o a table ends with the M-bit and this row
abbrev pub followed : ℕ → Row
followed o = refuse NothingFollows 1 (nothing_since o ∷ is o 1 ∷ [])

record Closes (kind : Kind) (o : ℕ) : Type 0 where
  inside : suc (suc o) < length (rows kind)
  first : get_or (rows kind) o nothing ≡ number 1 []
  second : get_or (rows kind) (suc o) nothing ≡ m_bit o
  third : get_or (rows kind) (suc (suc o)) nothing ≡ followed o

module _ (kind : Kind) (s : List ℕ) (has : T (valid kind s)) (o : ℕ) (c : Closes kind o) where
  abbrev value : ℕ → ℕ
  value q = get_or (clean kind s) q 0

  -- the places up to the M-bit's
  abbrev front : List ℕ
  front = take (suc (suc o)) (clean kind s)

  size : length (clean kind s) ≡ length (rows kind)
  unfolding clean
  size = length-vals (rows kind) [] s

  by_row : (q : ℕ) (r : Row) → q ≤ suc (suc o) → get_or (rows kind) q nothing ≡ r → Good (there (take q (clean kind s)) r) (value q)
  by_row q r h e = subst (λ r. Good (there (take q (clean kind s)) r) (value q)) e (fine kind s has q (omega (arith, c.inside)))

  -- the M-bit's place holds 0, so that nothing came since the O-bit
  since : all (λ v. eqb v 0) (drop (suc o) front) ≡ true
  since =
      let within : suc o < length front = simp length-take (omega (arith, size, c.inside)) in
      let m = holds-0 (take (suc o) (clean kind s)) (m_bit o) (value (suc o)) (by_row (suc o) (m_bit o) (omega arith) c.second) refl refl in
      let last : get_or front (suc o) 0 ≡ 0 = get_or-take (suc (suc o)) (clean kind s) (suc o) 0 (omega arith) ∙ m in
      rw (drop-cons front (suc o) 0 within, last, drop_of_length-le front {i = suc (suc o)} (simp length-take (omega arith)))

  no-o-bit : value o ≡ 0
  unfolding present
  no-o-bit =
      let bit : value o < 2 = (by_row o (number 1 []) (omega arith) c.first).high in
      let off = not_there front (followed o) (value (suc (suc o))) (by_row (suc (suc o)) (followed o) (omega arith) c.third) refl refl in
      let zero : eqb (value o) 1 && true ≡ false = rw (since, get_or-take (suc (suc o)) (clean kind s) o 0 (omega arith)) at off in
      let other = eqb-false (value o) 1 (sym (and-true (eqb (value o) 1)) ∙ zero) in
      omega (arith, bit, other)

-- DEFINE-ACK and DELETE-ACK
pub define-ack-o-bit : (s : List ℕ) → T (valid DefineAck s) → get_or (clean DefineAck s) define_ack.known.o_bit 0 ≡ 0
unfolding rows unrolled rows_of repeated span spans table_of
define-ack-o-bit s has = no-o-bit DefineAck s has 44 (record { inside = omega arith; first = refl; second = refl; third = refl })

pub delete-ack-o-bit : (s : List ℕ) → T (valid DeleteAck s) → get_or (clean DeleteAck s) delete_ack.known.o_bit 0 ≡ 0
unfolding rows unrolled rows_of repeated span spans table_of
delete-ack-o-bit s has = no-o-bit DeleteAck s has 42 (record { inside = omega arith; first = refl; second = refl; third = refl })

-- DEASSIGNING-ACK ends with its result: it has no O-bit
pub result-is-last : spans (table_of DeassigningAck) ≡ suc deassigning_ack.known.result
unfolding table_of span spans
result-is-last = refl

-- refusal 5 is of DEFINE's "group given", where its "call related" is no, and no other table has it
pub group-given : get_or (rows Define) (suc define.known.given) nothing
    ≡ refuse NoGroup 1 (is define.known.given No ∷ is define.known.call_related No ∷ [])
unfolding rows unrolled rows_of repeated span spans table_of
group-given = refl

pub group-given-alone : T (all (λ kind. all (λ r. not (eqb (number_of r.refusal) 5)) (rows kind)) (tail kinds))
unfolding rows unrolled rows_of repeated span spans table_of
group-given-alone = tt
