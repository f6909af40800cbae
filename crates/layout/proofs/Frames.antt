-- The round trip of a frame of any kind, in bits and then in bytes: what is written is read, and what is read is written again.
-- Assumes nothing.
use Prim.Native.Nat.{ℕ, zero, suc, ◌+◌, ◌-◌, ◌*◌, ◌^◌, ◌≤◌, ◌<◌}
use mathlib.Core.Path.{◌≡◌, refl, ap, ◌∙◌, subst}
use mathlib.Core.Bool.{Bool, true, false, cond, not, ◌&&◌}
use mathlib.Core.List.{List, [], ◌∷◌, ◌++◌, append_assoc}
use native.Mathlib.Omega.{arith}
use borrow.Author.Tests.{le-ltb, ltb-true, ltb-false, leb-true, le-leb, lt-leb, eqb-true, eqb-false, eq-eqb}
use lib.Dec.{T, ltb, eqb, leb, ltb→lt}
use lib.ListN.{length, take, drop, replicate, length-append, length-drop}
use lib.Seq.{take-append_seam, take_at, drop_at, drop-drop, length-take-le}
use Rattle.std.specs.Prelude.{Result, Ok, Err, ⊤}
use Rattle.refusal.specs.declared.Refusal.{Refusal}
use Rattle.refusal.specs.declared.Refusal.TheVariants.{EndsInside, WrongKind, Reserved, NoGroup, NoSpace}
use Rattle.bits.specs.Bits.{digits, value, bits_of, bytes_for, bytes_of, spare}
use Rattle.bits.proofs.Laws.{length_digits, value-digits, digits-drop, bits-bytes, bits_of-append, length-bits_of, length-bytes_of}
use Rattle.layout.specs.declared.Kind.{Kind}
use Rattle.layout.specs.declared.Record.{Record}
use Rattle.layout.specs.declared.Refused.{Refused}
use Rattle.layout.specs.Row.{Row, fits, all, there}
use Rattle.layout.specs.Read.{Answer, frame, refused, read_rows}
use Rattle.layout.specs.Write.{held, lay, good, good_but_group, vals, emit}
use Rattle.layout.specs.Shape.{unrolled, rows_of, repeated, span, spans}
use Rattle.layout.specs.Kinds.{table_of, ss_type, action_type}
use Rattle.layout.specs.Frame.{rows, head, places, filled, read, read_bytes, as_reading, reading_of}
use Rattle.layout.specs.Frame.{laid, clean, valid, write, judged_of, written_if, written_of, output_of}
use Rattle.layout.proofs.EachKind.{every-test}
use Rattle.layout.proofs.RoundTrip.{read-emit, Sound, sound, lay-clean}

-- ---- the tables: no row has more codes than its bits can hold, nor has the action type
pub tables-fit : (kind : Kind) → T (all fits (rows kind))
unfolding rows unrolled rows_of repeated span spans table_of
tables-fit = every-test (λ kind. all fits (rows kind)) tt

action-fits : (kind : Kind) → action_type kind < 2 ^ 4
action-fits kind = ltb→lt _ _ (every-test (λ kind. ltb (action_type kind) (2 ^ 4)) tt kind)

-- ---- the head
-- a head is not cut short in ten bits or more
whole-head : (n : ℕ) (a : Answer) → 10 ≤ n → cond (ltb n 6) (refused EndsInside 0) (cond (ltb n 10) (refused EndsInside 6) a) ≡ a
whole-head n a long = rw (le-ltb n 6 (omega arith), le-ltb n 10 long)

pub head-length : (kind : Kind) → length (head kind) ≡ 10
unfolding head
head-length kind = simp (length-append, length_digits)

-- after its kind's head a frame is read row by row
pub read_head : (kind : Kind) (bits : List Bool) → read kind (head kind ++ bits) ≡ read_rows (rows kind) [] 10 bits
unfolding read head
read_head kind bits =
    let action = digits 4 (action_type kind) in
    let whole = (digits 6 ss_type ++ action) ++ bits in
    let ten : length (digits 6 ss_type ++ action) ≡ 10 = head-length kind in
    let long : 10 ≤ length whole = simp (length-append, length_digits) (omega arith) in
    let apart = append_assoc (digits 6 ss_type) action bits in
    let first : value (take 6 whole) ≡ ss_type =
    ap (λ l. value (take 6 l)) apart ∙ ap value (take_at (digits 6 ss_type) (action ++ bits) 6 (length_digits 6 ss_type)) ∙ value-digits 6 ss_type (omega arith) in
    let second : value (take 4 (drop 6 whole)) ≡ action_type kind =
    ap (λ l. value (take 4 (drop 6 l))) apart
    ∙ ap (λ l. value (take 4 l)) (drop_at (digits 6 ss_type) (action ++ bits) 6 (length_digits 6 ss_type))
    ∙ ap value (take_at action bits 4 (length_digits 4 (action_type kind))) ∙ value-digits 4 (action_type kind) (action-fits kind) in
    whole-head (length whole) _ long ∙ rw (eq-eqb _ _ first, eq-eqb _ _ second, drop_at (digits 6 ss_type ++ action) bits 10 ten)

-- ---- what is written is read
pub read-write : (kind : Kind) (s : List ℕ) → T (valid kind s) → read kind (write kind s) ≡ frame (clean kind s)
unfolding valid write clean
read-write kind s good = read_head kind (emit (lay (rows kind) [] s)) ∙ read-emit (rows kind) (tables-fit kind) [] 10 s good

-- ---- what is read is clean and valid, and is written so
pub record Comes (kind : Kind) (bits : List Bool) (s : List ℕ) : Type 0 where
  pub written : write kind s ≡ bits
  pub cleaned : clean kind s ≡ s
  pub validated : T (valid kind s)

abbrev Read : Kind → List Bool → Answer → Type 0
Read kind bits (frame s) = Comes kind bits s
Read kind bits (refused n at) = Unit {0}

-- two fields and the rest
fields-drop : (j k : ℕ) (bits : List Bool) → j + k ≤ length bits
    → digits j (value (take j bits)) ++ digits k (value (take k (drop j bits))) ++ drop (j + k) bits ≡ bits
fields-drop j k bits long =
    let first : j ≤ length bits = omega arith in
    let second : k ≤ length (drop j bits) = rw length-drop (omega arith) in
    rw (append_assoc, ← drop-drop k j bits, digits-drop k (drop j bits) second, digits-drop j bits first)

-- the bits of a frame begin with its head
pub head-drop : (kind : Kind) (bits : List Bool) → 10 ≤ length bits → value (take 6 bits) ≡ ss_type → value (take 4 (drop 6 bits)) ≡ action_type kind
    → head kind ++ drop 10 bits ≡ bits
unfolding head
head-drop kind bits long first second = rw (first, second) at (fields-drop 6 4 bits long)

after-head : (kind : Kind) (bits more : List Bool) (a : Answer) → head kind ++ more ≡ bits → Sound (rows kind) [] more a → Read kind bits a
unfolding write clean valid
after-head kind bits more (refused n at) e i = tt
after-head kind bits more (frame s) e i = rw i.joined (record { written = rw i.same e; cleaned = i.clean; validated = i.valid })

-- what holds of a frame's reading, by its head: cut short, another kind's, or its own
pub by-head : (kind : Kind) (bits : List Bool) (P : Answer → Type 0) → (length bits < 6 → P (refused EndsInside 0))
    → (6 ≤ length bits → length bits < 10 → P (refused EndsInside 6))
    → (10 ≤ length bits → (value (take 6 bits) ≡ ss_type → ⊥) → P (refused WrongKind 0))
    → (10 ≤ length bits → value (take 6 bits) ≡ ss_type → (value (take 4 (drop 6 bits)) ≡ action_type kind → ⊥) → P (refused WrongKind 6))
    → (head kind ++ drop 10 bits ≡ bits → P (read_rows (rows kind) [] 10 (drop 10 bits)))
    → P (read kind bits)
unfolding read
by-head kind bits P one two three four five =
    go (ltb (length bits) 6) (ltb (length bits) 10) (eqb ss ss_type) (eqb action (action_type kind)) refl refl refl refl
  where
    ss : ℕ
    ss = value (take 6 bits)

    action : ℕ
    action = value (take 4 (drop 6 bits))

    go : (a b c d : Bool) → ltb (length bits) 6 ≡ a → ltb (length bits) 10 ≡ b → eqb ss ss_type ≡ c → eqb action (action_type kind) ≡ d
        → P
        (cond a (refused EndsInside 0)
        (cond b (refused EndsInside 6)
        (cond (not c) (refused WrongKind 0) (cond (not d) (refused WrongKind 6) (read_rows (rows kind) [] 10 (drop 10 bits))))))
    go true b c d p q s t = one (ltb-true _ _ p)
    go false true c d p q s t = two (ltb-false _ _ p) (ltb-true _ _ q)
    go false false false d p q s t = three (ltb-false _ _ q) (eqb-false ss ss_type s)
    go false false true false p q s t = four (ltb-false _ _ q) (eqb-true ss ss_type s) (eqb-false action (action_type kind) t)
    go false false true true p q s t = five (head-drop kind bits (ltb-false _ _ q) (eqb-true ss ss_type s) (eqb-true action (action_type kind) t))

comes : (kind : Kind) (bits : List Bool) → Read kind bits (read kind bits)
comes kind bits =
    by-head kind bits (Read kind bits) (λ short. tt) (λ long short. tt) (λ long wrong. tt) (λ long right wrong. tt)
    (λ headed. after-head kind bits (drop 10 bits) (read_rows (rows kind) [] 10 (drop 10 bits)) headed (sound (rows kind) [] 10 (drop 10 bits)))

pub write_read : (kind : Kind) (bits : List Bool) (s : List ℕ) → read kind bits ≡ frame s → Comes kind bits s
write_read kind bits s e = subst (Read kind bits) e (comes kind bits)

-- ---- unused places play no part
pub clean-again : (kind : Kind) (s : List ℕ) → clean kind (clean kind s) ≡ clean kind s
unfolding clean
clean-again kind s = ap vals (lay-clean (rows kind) [] s)

pub write-clean : (kind : Kind) (s : List ℕ) → write kind (clean kind s) ≡ write kind s
unfolding write clean
write-clean kind s = rw (lay-clean (rows kind) [] s)

-- nor do zeros after a record, which is taken to go on with 0
lay-zeros : (left : List Row) (done s : List ℕ) (k : ℕ) → lay left done (s ++ replicate k 0) ≡ lay left done s
unfolding lay
lay-zeros [] done s k = refl
lay-zeros (r ∷ left) done [] zero = refl
lay-zeros (r ∷ left) done [] (suc k) = rw (lay-zeros left (done ++ (held (there done r) 0 ∷ [])) [] k)
lay-zeros (r ∷ left) done (v ∷ s) k = rw (lay-zeros left (done ++ (held (there done r) v ∷ [])) s k)

-- ---- a record is writable exactly where it is valid
pub valid-judged : (kind : Kind) (s : List ℕ) → T (valid kind s) → judged_of kind s ≡ Ok tt
unfolding valid judged_of
valid-judged kind s t = go (all good (laid kind s)) _ t
  where
    go : (a : Bool) (j : Result ⊤ Refusal) → T a → cond a (Ok tt) j ≡ Ok tt
    go true j t = refl
    go false j t = absurd t

pub judged-valid : (kind : Kind) (s : List ℕ) → judged_of kind s ≡ Ok tt → T (valid kind s)
unfolding valid judged_of
judged-valid kind s e = go (all good (laid kind s)) (all good_but_group (laid kind s)) e
  where
    go : (a b : Bool) → ◌≡◌ {A = Result ⊤ Refusal} (cond a (Ok tt) (cond b (Err NoGroup) (Err Reserved))) (Ok tt) → T a
    go true b e = tt
    go false true e = let z : ◌≡◌ {A = ℕ} 0 1 = cc in absurd (omega arith)
    go false false e = let z : ◌≡◌ {A = ℕ} 0 1 = cc in absurd (omega arith)

-- ---- in bytes
-- a frame in bytes is read as its bits are, whatever comes after it
read-bytes : (kind : Kind) (bits : List Bool) (rest : List ℕ) → read_bytes kind (bytes_of bits ++ rest) (length bits) ≡ read kind bits
unfolding read_bytes
read-bytes kind bits rest =
    let n = length bits in
    let long : n ≤ 8 * length (bytes_of bits ++ rest) = rw (length-append, length-bytes_of) (omega arith) in
    rw (le-ltb (8 * length (bytes_of bits ++ rest)) n long, bits_of-append, bits-bytes, append_assoc, take-append_seam bits (spare n ++ bits_of rest))

pub read-written : (kind : Kind) (s rest : List ℕ) → T (valid kind s)
    → read_bytes kind (bytes_of (write kind s) ++ rest) (length (write kind s)) ≡ frame (clean kind s)
read-written kind s rest good = read-bytes kind (write kind s) rest ∙ read-write kind s good

-- what is known of a frame of n bits that was written from the byte `start` on
record Wrote (kind : Kind) (s : List ℕ) (size start n : ℕ) : Type 0 where
  inside : start ≤ size
  reads : (rest : List ℕ) → read_bytes kind (bytes_of (write kind s) ++ rest) n ≡ frame (clean kind s)

abbrev Writes : Kind → List ℕ → ℕ → ℕ → Result ℕ Refusal → Type 0
Writes kind s size start (Ok n) = Wrote kind s size start n
Writes kind s size start (Err n) = Unit {0}

writes : (kind : Kind) (s : List ℕ) (size start : ℕ) → Writes kind s size start (written_of kind s size start)
unfolding written_of
writes kind s size start = go (judged_of kind s) refl
  where
    n : ℕ
    n = length (write kind s)

    roomy : (a b : Bool) → leb start size ≡ a → T (valid kind s) → Writes kind s size start (cond (a && b) (Ok n) (Err NoSpace))
    roomy false b e good = tt
    roomy true false e good = tt
    roomy true true e good = record { inside = leb-true start size e; reads = λ rest. read-written kind s rest good }

    go : (j : Result ⊤ Refusal) → judged_of kind s ≡ j → Writes kind s size start (written_if j n size start)
    go (Err n) e = tt
    go (Ok tt) e = roomy (leb start size) (leb (bytes_for n) (size - start)) refl (judged-valid kind s e)

-- a record that has a frame of `count` bits is written where there is room for it
pub write-fits : (kind : Kind) (s : List ℕ) (count : ℕ) → judged_of kind s ≡ Ok tt → length (write kind s) ≡ count
    → (size start : ℕ) → start + bytes_for count ≤ size → written_of kind s size start ≡ Ok count
unfolding written_of
write-fits kind s count fine long size start fit =
    let inside : start ≤ size = omega arith in
    let enough : bytes_for count ≤ size - start = omega arith in
    rw (fine, long, le-leb start size inside, le-leb (bytes_for count) (size - start) enough)

-- and where there is not, it is refused for that
pub write-short : (kind : Kind) (s : List ℕ) (count : ℕ) → judged_of kind s ≡ Ok tt → length (write kind s) ≡ count
    → (size start : ℕ) → size < start + bytes_for count → written_of kind s size start ≡ Err NoSpace
unfolding written_of
write-short kind s count fine long size start short = rw (fine, long) (go (leb start size) refl)
  where
    go : (b : Bool) → leb start size ≡ b → cond (b && leb (bytes_for count) (size - start)) (Ok count) (Err NoSpace) ≡ Err NoSpace
    go false e = refl
    go true e = rw (lt-leb (bytes_for count) (size - start) (omega (arith, leb-true start size e)))

-- what is known of a record that was read from the first `count` bits of bytes
record Took (kind : Kind) (bytes : List ℕ) (count : ℕ) (s : List ℕ) : Type 0 where
  enough : count ≤ 8 * length bytes
  comes : Comes kind (take count (bits_of bytes)) s

abbrev Takes : Kind → List ℕ → ℕ → Answer → Type 0
Takes kind bytes count (frame s) = Took kind bytes count s
Takes kind bytes count (refused n at) = Unit {0}

takes : (kind : Kind) (bytes : List ℕ) (count : ℕ) → Takes kind bytes count (read_bytes kind bytes count)
unfolding read_bytes
takes kind bytes count = go (ltb (8 * length bytes) count) refl
  where
    bits : List Bool
    bits = take count (bits_of bytes)

    more : (a : Answer) → count ≤ 8 * length bytes → Read kind bits a → Takes kind bytes count a
    more (frame s) enough c = record { enough = enough; comes = c }
    more (refused n at) enough c = tt

    go : (b : Bool) → ltb (8 * length bytes) count ≡ b → Takes kind bytes count (cond b (refused EndsInside 0) (read kind bits))
    go true e = tt
    go false e = more (read kind bits) (ltb-false (8 * length bytes) count e) (comes kind bits)

-- ---- what the writer makes, the reader returns
-- a frame of n bits that was written from the byte `start` on is read there, whatever comes after it
pub read-output : (kind : Kind) (s out : List ℕ) (start n : ℕ) → written_of kind s (length out) start ≡ Ok n
    → read_bytes kind (drop start (output_of kind s out start)) n ≡ frame (clean kind s)
unfolding output_of
read-output kind s out start n e =
    let w : Wrote kind s (length out) start n = subst (Writes kind s (length out) start) e (writes kind s (length out) start) in
    let rest = drop (start + bytes_for n) out in
    let before = length-take-le start out w.inside in
    rw (e, drop_at (take start out) (bytes_of (write kind s) ++ rest) start before, w.reads rest)

abbrev pub read_as : List ℕ → Result Record Refused
read_as s = Ok (record { place = filled s })

pub write-then-read : (kind : Kind) (s out : List ℕ) (start n : ℕ) → written_of kind s (length out) start ≡ Ok n
    → reading_of kind (drop start (output_of kind s out start)) n ≡ read_as (clean kind s)
unfolding reading_of as_reading
write-then-read kind s out start n e = ap as_reading (read-output kind s out start n e)

-- ---- what the reader takes, the writer makes again, bit for bit
-- a record s that was read from the first `count` bits of bytes is clean, its frame is these bits, and wherever there is room for them they are written
pub record MadeAgain (kind : Kind) (bytes : List ℕ) (count : ℕ) (s : List ℕ) : Type 0 where
  pub cleaned : filled (clean kind s) ≡ s
  pub writable : judged_of kind s ≡ Ok tt
  pub same : write kind s ≡ take count (bits_of bytes)
  pub long : length (write kind s) ≡ count
  pub told : (out : List ℕ) (start : ℕ) → start + bytes_for count ≤ length out → written_of kind s (length out) start ≡ Ok count
  pub made : (out : List ℕ) (start : ℕ) → start + bytes_for count ≤ length out
      → output_of kind s out start ≡ take start out ++ (bytes_of (take count (bits_of bytes)) ++ drop (start + bytes_for count) out)

made_again : (kind : Kind) (bytes : List ℕ) (count : ℕ) (s : List ℕ) → Took kind bytes count s → MadeAgain kind bytes count (filled s)
unfolding write clean valid output_of
made_again kind bytes count s t =
    let alike = lay-zeros (rows kind) [] s (places - length s) in
    let cleaned : clean kind (filled s) ≡ s = rw alike t.comes.cleaned in
    let same : write kind (filled s) ≡ take count (bits_of bytes) = rw alike t.comes.written in
    let good : T (valid kind (filled s)) = rw alike t.comes.validated in
    let fine = valid-judged kind (filled s) good in
    let enough : count ≤ length (bits_of bytes) = rw length-bits_of t.enough in
    let long = ap length same ∙ length-take-le count (bits_of bytes) enough in
    let told = write-fits kind (filled s) count fine long in
    record {
      cleaned = ap filled cleaned;
      writable = fine;
      same = same;
      long = long;
      told = λ out. told (length out);
      made = λ out start fit. rw (told (length out) start fit, same);
    }

pub read-then-write : (kind : Kind) (bytes : List ℕ) (count : ℕ) (values : Record) → reading_of kind bytes count ≡ Ok values
    → MadeAgain kind bytes count values.place
unfolding reading_of as_reading
read-then-write kind bytes count values e = go (read_bytes kind bytes count) (takes kind bytes count) e
  where
    go : (a : Answer) → Takes kind bytes count a → as_reading a ≡ Ok values → MadeAgain kind bytes count values.place
    go (frame s) t e = subst (MadeAgain kind bytes count) (cc) (made_again kind bytes count s t)
    go (refused n at) t e = let z : ◌≡◌ {A = ℕ} 0 1 = cc in absurd (omega arith)
