-- Where a frame in lent bytes is bad: the same of what the reader answers, and that its bit is no further than the frame's end.
-- Assumes nothing.
use Prim.Native.Nat.{ℕ, ◌*◌, ◌≤◌}
use mathlib.Core.Path.{◌≡◌, refl, ap, sym, ◌∙◌, subst}
use mathlib.Core.Bool.{Bool, true, false, cond}
use mathlib.Core.List.{List, ◌++◌}
use native.Mathlib.Omega.{arith}
use borrow.Author.Tests.{le-ltb, lt-ltb, ltb-true, ltb-false}
use lib.Dec.{ltb}
use lib.ListN.{length, take, length-append}
use lib.Seq.{length-take-le}
use Rattle.std.specs.Prelude.{Result, Ok, Err}
use Rattle.refusal.specs.declared.Refusal.{Refusal}
use Rattle.refusal.specs.declared.Refusal.TheVariants.{EndsInside}
use Rattle.bits.specs.Bits.{bits_of}
use Rattle.bits.proofs.Laws.{length-bits_of}
use Rattle.layout.specs.declared.Kind.{Kind}
use Rattle.layout.specs.declared.Record.{Record}
use Rattle.layout.specs.declared.Refused.{Refused}
use Rattle.layout.specs.Read.{Answer, frame, refused}
use Rattle.layout.specs.Frame.{head, read, read_bytes, as_reading, reading_of}
use Rattle.layout.specs.Where.{Begins, Cut, ss_type_cut, action_type_cut, row_cut, OtherKind, ss_type_wrong, action_type_wrong}
use Rattle.layout.specs.Where.{Refuses, one, two, three, four, five, six, seven, RefusedIn, count_too_large, in_the_bits}
use Rattle.layout.proofs.Frames.{head-length}
use Rattle.layout.proofs.Where.{refused-so}
use Rattle.layout.proofs.WhereExact.{so-refused}

-- ---- the bit is one of the frame's, or the first past its end
begins-within : {kind : Kind} {bits : List Bool} {at k : ℕ} {done : List ℕ} {rest : List Bool} → Begins kind bits at k done rest → at ≤ length bits
begins-within {kind} {rest = rest} b =
    omega (arith, b.bit, ap length b.parts, length-append (head kind) (b.front ++ rest), length-append b.front rest, head-length kind)

cut-within : {kind : Kind} {bits : List Bool} {at : ℕ} → Cut kind bits at → at ≤ length bits
cut-within (ss_type_cut e short) = omega arith
cut-within (action_type_cut e long short) = omega arith
cut-within (row_cut k done rest b cut) = begins-within b

other-within : {kind : Kind} {bits : List Bool} {at : ℕ} → OtherKind kind bits at → at ≤ length bits
other-within (ss_type_wrong e long wrong) = omega arith
other-within (action_type_wrong e long right wrong) = omega arith

refuses-within : {kind : Kind} {bits : List Bool} {n : Refusal} {at : ℕ} → Refuses kind bits n at → at ≤ length bits
refuses-within (one e c) = cut-within c
refuses-within (two e p) = omega (arith, p.more)
refuses-within (three e o) = other-within o
refuses-within (four e m) = begins-within m.begins
refuses-within (five e g) = begins-within g.begins
refuses-within (six e m) = begins-within m.closes.begins
refuses-within (seven e m) = begins-within m.begins

-- ---- in lent bytes
module _ (kind : Kind) (bytes : List ℕ) (count : ℕ) where
  -- what an answer says of the lent bits
  abbrev Meant : Result Record Refused → Type 0
  Meant (Ok values) = Unit {0}
  Meant (Err e) = RefusedIn kind bytes count e.refusal e.bit

  meant : Meant (reading_of kind bytes count)
  unfolding reading_of as_reading read_bytes
  meant = lent (ltb (8 * length bytes) count) refl
    where
      bits : List Bool
      bits = take count (bits_of bytes)

      by_answer : (a : Answer) → read kind bits ≡ a → count ≤ 8 * length bytes → Meant (as_reading a)
      by_answer (frame s) e enough = tt
      by_answer (refused n at) e enough = in_the_bits enough (refused-so kind bits n at e)

      lent : (b : Bool) → ltb (8 * length bytes) count ≡ b → Meant (as_reading (cond b (refused EndsInside 0) (read kind bits)))
      lent true e = count_too_large (ltb-true (8 * length bytes) count e) refl refl
      lent false e = by_answer (read kind bits) refl (ltb-false (8 * length bytes) count e)

  module _ (n : Refusal) (at : ℕ) where
    pub refused-in : reading_of kind bytes count ≡ Err (record { refusal = n; bit = at }) → RefusedIn kind bytes count n at
    refused-in e = subst Meant e meant

    pub in-refused : RefusedIn kind bytes count n at → reading_of kind bytes count ≡ Err (record { refusal = n; bit = at })
    unfolding reading_of as_reading read_bytes
    in-refused (count_too_large more e f) = rw (lt-ltb (8 * length bytes) count more, e, f)
    in-refused (in_the_bits enough r) = rw (le-ltb (8 * length bytes) count enough, so-refused kind (take count (bits_of bytes)) n at r)

    pub bit-within : RefusedIn kind bytes count n at → at ≤ count
    bit-within (count_too_large more e f) = omega arith
    bit-within (in_the_bits enough r) =
        omega (arith, refuses-within r, length-take-le count (bits_of bytes) (omega (arith, length-bits_of bytes)))

  -- so P2 leaves one number and one bit
  abbrev number_in : Result Record Refused → Refusal
  number_in (Ok values) = EndsInside
  number_in (Err e) = e.refusal

  abbrev bit_in : Result Record Refused → ℕ
  bit_in (Ok values) = 0
  bit_in (Err e) = e.bit

  pub one_answer : (n m : Refusal) (at bit : ℕ) → RefusedIn kind bytes count n at → RefusedIn kind bytes count m bit → (n ≡ m) × (at ≡ bit)
  one_answer n m at bit p q =
      let same = sym (in-refused n at p) ∙ in-refused m bit q in
      (ap number_in same, ap bit_in same)
