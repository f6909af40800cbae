-- Rows that are read whole, and rows behind them: reading goes on where they end, and a refusal comes from the row at which they end.
-- Assumes nothing.
use Prim.Native.Nat.{ℕ, suc, ◌+◌, ◌-◌, ◌≤◌, ◌<◌}
use mathlib.Core.Path.{◌≡◌, refl, ap, sym, ◌∙◌, subst}
use mathlib.Core.Bool.{Bool}
use mathlib.Core.List.{List, [], ◌∷◌, ◌++◌, append_assoc, append-nil}
use native.Mathlib.Nat.{add-zero}
use native.Mathlib.Omega.{arith}
use borrow.Author.Tests.{le-ltb}
use lib.ListN.{length, take, drop, get_or, length-append, length-drop, take-append-drop}
use lib.Seq.{take-append-le, drop-append-le, drop_at, length-take-le}
use Rattle.refusal.specs.declared.Refusal.{Refusal}
use Rattle.refusal.specs.declared.Refusal.TheVariants.{BitsRemain}
use Rattle.bits.specs.Bits.{digits}
use Rattle.bits.proofs.Laws.{length_digits}
use Rattle.layout.specs.Row.{Row, nothing, there}
use Rattle.layout.specs.Read.{Answer, frame, refused, Turn, took, stop, turn, next, read_rows}
use Rattle.layout.proofs.RoundTrip.{Good, Took, Taken, taken}

-- ---- one row
-- what a row took is good, and its bits are those that the row would write
row-took : (r : Row) (bits : List Bool) (v : ℕ) → turn r bits ≡ took v → Took r bits v
row-took r bits v e = subst (Taken r bits) e (taken r bits)

-- a row that was read is whole
took-long : (r : Row) (bits : List Bool) (v : ℕ) → turn r bits ≡ took v → r.width ≤ length bits
took-long r bits v e =
    let w = r.width in
    omega (
      arith,
      ap length (row-took r bits v e).same,
      length-append (digits w (v - r.first)) (drop w bits),
      length_digits w (v - r.first),
      length-drop w bits,
    )

-- and did not look behind itself
turn-grow : (r : Row) (front rest : List Bool) → r.width ≤ length front → turn r (front ++ rest) ≡ turn r front
turn-grow r front rest long =
    let more : r.width ≤ length (front ++ rest) = simp length-append (omega arith) in
    rw (le-ltb (length (front ++ rest)) r.width more, le-ltb (length front) r.width long, take-append-le r.width front rest long)

-- the first of these rows was read, and then the others
record Began (r : Row) (more : List Row) (d : List ℕ) (p : ℕ) (bits : List Bool) (s : List ℕ) : Type 0 where
  v : ℕ
  turned : turn (there d r) bits ≡ took v
  others : read_rows more (d ++ (v ∷ [])) (p + (there d r).width) (drop (there d r).width bits) ≡ frame s

module _ (r : Row) (more : List Row) (d : List ℕ) (p : ℕ) (bits : List Bool) where
  abbrev onward : ℕ → Answer
  onward v = read_rows more (d ++ (v ∷ [])) (p + (there d r).width) (drop (there d r).width bits)

  goes_on : (v : ℕ) → turn (there d r) bits ≡ took v → read_rows (r ∷ more) d p bits ≡ onward v
  unfolding read_rows
  goes_on v e = rw e

  began : (s : List ℕ) → read_rows (r ∷ more) d p bits ≡ frame s → Began r more d p bits s
  unfolding read_rows
  began s e = go (turn (there d r) bits) refl e
    where
      go : (t : Turn) → turn (there d r) bits ≡ t → next t p onward ≡ frame s → Began r more d p bits s
      go (took v) q e = record { v = v; turned = q; others = e }
      go (stop n back) q e = let z : ◌≡◌ {A = ℕ} 0 1 = cc in absurd (omega arith)

-- ---- rows that were read, and what follows them
abbrev record_of : Answer → List ℕ
record_of (frame s) = s
record_of (refused n at) = []

-- no row is left, so no bit is
none_left : (d : List ℕ) (p : ℕ) (bits : List Bool) (s : List ℕ) → read_rows [] d p bits ≡ frame s → (bits ≡ []) × (s ≡ d)
unfolding read_rows
none_left d p [] s e = (refl, sym (ap record_of e))
none_left d p (b ∷ bits) s e = let z : ◌≡◌ {A = ℕ} 0 1 = cc in absurd (omega arith)

-- reading goes on behind rows that were read
pub pass : (a b : List Row) (d : List ℕ) (p : ℕ) (front rest : List Bool) (s : List ℕ) → read_rows a d p front ≡ frame s
    → read_rows (a ++ b) d p (front ++ rest) ≡ read_rows b s (p + length front) rest
pass [] b d p front rest s e =
    let none = none_left d p front s e in
    rw (none.0, none.1, add-zero p)
pass (r ∷ a) b d p front rest s e =
    let i = began r a d p front s e in
    let w = (there d r).width in
    let long = took-long (there d r) front i.v i.turned in
    let end : p + w + length (drop w front) ≡ p + length front = omega (arith, length-drop w front) in
    goes_on r (a ++ b) d p (front ++ rest) i.v (turn-grow (there d r) front rest long ∙ i.turned)
    ∙ ap (read_rows (a ++ b) (d ++ (i.v ∷ [])) (p + w)) (drop-append-le w front rest long)
    ∙ pass a b (d ++ (i.v ∷ [])) (p + w) (drop w front) rest s i.others
    ∙ ap (λ (n : ℕ). read_rows b s n rest) end

-- each row has its place in the record
pub length-read : (a : List Row) (d : List ℕ) (p : ℕ) (bits : List Bool) (s : List ℕ) → read_rows a d p bits ≡ frame s
    → length s ≡ length d + length a
length-read [] d p bits s e = omega (arith, ap length (none_left d p bits s e).1)
length-read (r ∷ a) d p bits s e =
    let i = began r a d p bits s e in
    let w = (there d r).width in
    omega (arith, length-read a (d ++ (i.v ∷ [])) (p + w) (drop w bits) s i.others, length-append d (i.v ∷ []))

-- a row in front of rows that were read: with its bits they are read
module _ (r : Row) (d : List ℕ) (p : ℕ) (bits : List Bool) (v : ℕ) (e : turn (there d r) bits ≡ took v) where
  abbrev w : ℕ
  w = (there d r).width

  size : length (take w bits) ≡ w
  size = length-take-le w bits (took-long (there d r) bits v e)

  joined : (front rest : List Bool) → drop w bits ≡ front ++ rest → bits ≡ (take w bits ++ front) ++ rest
  joined front rest q =
      sym (take-append-drop w bits) ∙ ap (λ (l : List Bool). take w bits ++ l) q ∙ sym (append_assoc (take w bits) front rest)

  in-front : (a : List Row) (front : List Bool) (s : List ℕ) → read_rows a (d ++ (v ∷ [])) (p + w) front ≡ frame s
      → read_rows (r ∷ a) d p (take w bits ++ front) ≡ frame s
  in-front a front s q =
      let long : w ≤ length (take w bits) = omega (arith, size) in
      let own = turn-grow (there d r) (take w bits) (drop w bits) long in
      let turned : turn (there d r) (take w bits ++ front) ≡ took v =
      turn-grow (there d r) (take w bits) front long ∙ sym own ∙ ap (turn (there d r)) (take-append-drop w bits) ∙ e in
      goes_on r a d p (take w bits ++ front) v turned
      ∙ ap (read_rows a (d ++ (v ∷ [])) (p + w)) (drop_at (take w bits) front w size)
      ∙ q

  longer : (front : List Bool) → p + w + length front ≡ p + length (take w bits ++ front)
  longer front = omega (arith, length-append (take w bits) front, size)

-- ---- the last of rows that were read: its bits are those that it would write
pub record Last (a : List Row) (r : Row) (d : List ℕ) (p : ℕ) (bits : List Bool) (s : List ℕ) : Type 0 where
  pub front : List Bool
  pub done : List ℕ
  pub v : ℕ
  pub fine : Good (there done r) v
  pub parts : bits ≡ front ++ digits (there done r).width (v - (there done r).first)
  pub before : read_rows a d p front ≡ frame done
  pub values : s ≡ done ++ (v ∷ [])

pub last_row_lem : (a : List Row) (r : Row) (d : List ℕ) (p : ℕ) (bits : List Bool) (s : List ℕ) → read_rows (a ++ (r ∷ [])) d p bits ≡ frame s
    → Last a r d p bits s
unfolding read_rows
last_row_lem [] r d p bits s e =
    let i = began r [] d p bits s e in
    let w = (there d r).width in
    let end = none_left (d ++ (i.v ∷ [])) (p + w) (drop w bits) s i.others in
    let t = row-took (there d r) bits i.v i.turned in
    let own = digits w (i.v - (there d r).first) in
    record {
      front = [];
      done = d;
      v = i.v;
      fine = t.fine;
      parts = sym t.same ∙ ap (λ (l : List Bool). own ++ l) end.0 ∙ append-nil own;
      before = refl;
      values = end.1;
    }
last_row_lem (q ∷ a) r d p bits s e =
    let i = began q (a ++ (r ∷ [])) d p bits s e in
    let w = (there d q).width in
    let l = last_row_lem a r (d ++ (i.v ∷ [])) (p + w) (drop w bits) s i.others in
    record {
      front = take w bits ++ l.front;
      done = l.done;
      v = l.v;
      fine = l.fine;
      parts = joined q d p bits i.v i.turned l.front (digits (there l.done r).width (l.v - (there l.done r).first)) l.parts;
      before = in-front q d p bits i.v i.turned a l.front l.done l.before;
      values = l.values;
    }

-- ---- a refusal: the rows before it were read, and the next one is not taken, or there is none and bits remain
pub data Halts (rows : List Row) (k : ℕ) (done : List ℕ) (rest : List Bool) (end : ℕ) (n : Refusal) (at : ℕ) : Type 0 where
  halted : (back : ℕ) → k < length rows → turn (there done (get_or rows k nothing)) rest ≡ stop n back → at ≡ end - back
      → Halts rows k done rest end n at
  remained : take k rows ≡ rows → (b : Bool) (more : List Bool) → rest ≡ b ∷ more → n ≡ BitsRemain → at ≡ end → Halts rows k done rest end n at

pub record Stops (rows : List Row) (d : List ℕ) (p : ℕ) (bits : List Bool) (n : Refusal) (at : ℕ) : Type 0 where
  pub k : ℕ
  pub front : List Bool
  pub rest : List Bool
  pub done : List ℕ
  pub parts : bits ≡ front ++ rest
  pub before : read_rows (take k rows) d p front ≡ frame done
  pub halts : Halts rows k done rest (p + length front) n at

abbrev pub Stopped : List Row → List ℕ → ℕ → List Bool → Answer → Type 0
Stopped rows d p bits (frame s) = Unit {0}
Stopped rows d p bits (refused n at) = Stops rows d p bits n at

module _ (r : Row) (more : List Row) (d : List ℕ) (p : ℕ) (bits : List Bool) where
  later : (v : ℕ) → turn (there d r) bits ≡ took v → (a : Answer)
      → Stopped more (d ++ (v ∷ [])) (p + (there d r).width) (drop (there d r).width bits) a → Stopped (r ∷ more) d p bits a
  later v e (frame s) q = tt
  later v e (refused n at) q =
      let end = longer r d p bits v e q.front in
      record {
        k = suc q.k;
        front = take (there d r).width bits ++ q.front;
        rest = q.rest;
        done = q.done;
        parts = joined r d p bits v e q.front q.rest q.parts;
        before = in-front r d p bits v e (take q.k more) q.front q.done q.before;
        halts = subst (λ (m : ℕ). Halts (r ∷ more) (suc q.k) q.done q.rest m n at) end (shift q.halts);
      }
    where
      shift : {k : ℕ} {done : List ℕ} {rest : List Bool} {end : ℕ} {n : Refusal} {at : ℕ}
          → Halts more k done rest end n at → Halts (r ∷ more) (suc k) done rest end n at
      shift (halted back inside e q) = halted back (omega arith) e q
      shift (remained all b bits e q place) = remained (ap (λ (l : List Row). r ∷ l) all) b bits e q place

  first-or-later : (t : Turn) → turn (there d r) bits ≡ t → (go : ℕ → Answer)
      → ((v : ℕ) → Stopped more (d ++ (v ∷ [])) (p + (there d r).width) (drop (there d r).width bits) (go v))
      → Stopped (r ∷ more) d p bits (next t p go)
  unfolding read_rows
  first-or-later (took v) e go i = later v e (go v) (i v)
  first-or-later (stop n back) e go i =
      let place : p - back ≡ p + 0 - back = omega arith in
      record { k = 0; front = []; rest = bits; done = d; parts = refl; before = refl; halts = halted back (omega arith) e place }

pub stops : (rows : List Row) (d : List ℕ) (p : ℕ) (bits : List Bool) → Stopped rows d p bits (read_rows rows d p bits)
unfolding read_rows
stops [] d p [] = tt
stops [] d p (b ∷ bits) =
    let halts = remained refl b bits refl refl (sym (add-zero p)) in
    record { k = 0; front = []; rest = b ∷ bits; done = d; parts = refl; before = refl; halts = halts }
stops (r ∷ rows) d p bits =
    let w = (there d r).width in
    first-or-later r rows d p bits (turn (there d r) bits) refl (λ v. read_rows rows (d ++ (v ∷ [])) (p + w) (drop w bits))
    (λ v. stops rows (d ++ (v ∷ [])) (p + w) (drop w bits))
