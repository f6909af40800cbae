-- A whole frame, written: the judgement of a record, its bits over those of the bytes, and the bytes before and after it.
-- Assumes nothing.
use Rattle.std.proofs.Common.{◌≡◌, ℕ, zero, suc, ◌+◌, ◌-◌, ◌*◌, ◌^◌, ◌<◌, ◌≤◌, Bool, true, false, cond, T, Result, Ok, Err, List, [], ◌++◌, length}
use Rattle.std.proofs.Common.{take, drop, replicate, sym, refl, ap, ◌∙◌, subst, ap₂, append-nil, zero-add, zero-mul, arith, length-append}
use Rattle.std.proofs.Common.{length-drop, drop_of_length-le, get_or-drop, take_all, drop-drop, take_at, drop_at}
use Rattle.std.specs.Prelude.{⊤}
use borrow.Rule.Slice.PartMut.{put_mid, mid_of, post_of}
use lib.ListN.{length-replicate}
use Rattle.refusal.specs.declared.Refusal.{Refusal}
use Rattle.refusal.specs.declared.Refusal.TheVariants.{Reserved, NoGroup, NoSpace}
use Rattle.bits.specs.Bits.{digits, value, bits_of, bytes_for, bytes_of, Bytes}
use Rattle.bits.specs.Field.{put_at}
use Rattle.bits.proofs.Laws.{length_digits, digits_value, bits_of-drop, bits-bytes, bytes_bits, bytes_of-append, bytes_of-below, put-inside}
use Rattle.layout.specs.declared.Kind.{Kind}
use Rattle.writing.specs.Pass.{Judge, Lay}
use Rattle.layout.specs.Row.{all}
use Rattle.layout.specs.Write.{good, good_but_group, emit}
use Rattle.layout.specs.Kinds.{ss_type, action_type}
use Rattle.layout.proofs.Tests.{told}
use Rattle.layout.specs.Frame.{head, laid, valid, write, judged_of, written_of, output_of}
use Rattle.writing.specs.Lay.{Lent, Over, most_bits}
use Rattle.writing.specs.Whole.{Walks}
use Rattle.layout.specs.Length.{frame_length, measured_if, measured_of}
use Rattle.layout.proofs.Frames.{head-length, judged-valid}
use Rattle.layout.proofs.Lengths.{length-written}
use Rattle.layout.proofs.Room.{told-bits, room-of-own, room-too-little}
use Rattle.layout.proofs.Largest.{written-most}
use Rattle.writing.proofs.LayLaws.{over-put, over-join}

-- ---- what the walk that judges finds is what is told of the record
module _ (kind : Kind) (s : List ℕ) where
  pub measures : (out out' : Lent) (r : Result ℕ Refusal) → Walks Judge (laid kind s) out out' r → r ≡ measured_of kind s
  unfolding measured_of judged_of valid write
  measures out out' (Ok n) f =
      let bits = f.outcome.1 ∙ sym (length-append (head kind) (emit (laid kind s)) ∙ ap (λ (m : ℕ). m + length (emit (laid kind s))) (head-length kind)) in
      rw f.outcome.0 (ap Ok (bits ∙ length-written kind s (subst T (sym f.outcome.0) tt)))
  measures out out' (Err n) f = rw (f.outcome.1, f.outcome.0) (go (all good_but_group (laid kind s)))
    where
      go : (b : Bool) → Err (cond b NoGroup Reserved) ≡ measured_if (cond b (Err NoGroup) (Err Reserved)) (frame_length kind s)
      go true = refl
      go false = refl

  -- and so is its judgement
  abbrev verdict : Result ℕ Refusal → Result ⊤ Refusal
  verdict (Ok n) = Ok tt
  verdict (Err n) = Err n

  pub judges : (r : Result ℕ Refusal) → measured_of kind s ≡ r → judged_of kind s ≡ verdict r
  unfolding measured_of
  judges r e = go (judged_of kind s) e
    where
      go : (j : Result ⊤ Refusal) → measured_if j (frame_length kind s) ≡ r → j ≡ verdict r
      go (Ok tt) e = rw (← e)
      go (Err n) e = rw (← e)

  -- a record that is told a length has a frame of that length
  pub frame_told : (n : ℕ) → measured_of kind s ≡ Ok n → T (valid kind s) × (length (write kind s) ≡ n) × (n ≤ most_bits)
  frame_told n e =
      let fine = judged-valid kind s (judges (Ok n) e) in
      let long : frame_length kind s ≡ n = cc (told-bits kind s fine) in
      (fine, length-written kind s fine ∙ long, omega (arith, long, length-written kind s fine, written-most kind s fine))

  -- ---- the head and the elements
  module _ (out out₁ out₂ out₃ : List ℕ) (p : out₁ ≡ put_at out 0 6 ss_type) (q : out₂ ≡ put_at out₁ 6 4 (action_type kind)) where
    headed : Over out out₂ 0 (head kind)
    unfolding head
    headed =
        over-join out out₁ out₂ 0 (digits 6 ss_type) (digits 4 (action_type kind))
        (subst (λ (x : List ℕ). Over out x 0 (digits 6 ss_type)) (sym p) (over-put out 0 6 ss_type (omega arith)))
        (subst (λ (n : ℕ). Over out₁ out₂ n (digits 4 (action_type kind))) (sym (ap (λ (n : ℕ). 0 + n) (length_digits 6 ss_type)))
        (subst (λ (x : List ℕ). Over out₁ x 6 (digits 4 (action_type kind))) (sym q) (over-put out₁ 6 4 (action_type kind) (omega arith))))

    pub framed : (r : Result ℕ Refusal) (lent lent' : Lent) → lent.bytes ≡ out₂ → lent'.bytes ≡ out₃ → T (valid kind s)
        → Walks Lay (laid kind s) lent lent' r → Over out out₃ 0 (write kind s)
    unfolding valid write
    framed r lent lent' b b' v f =
        over-join out out₂ out₃ 0 (head kind) (emit (laid kind s)) headed
        (subst (λ (m : ℕ). Over out₂ out₃ m (emit (laid kind s))) (sym (ap (λ (m : ℕ). 0 + m) (head-length kind)))
        (rw (← b, ← b') (f.outcome (told (all good (laid kind s)) v))))

-- ---- the spare bits
value-zero : (w : ℕ) → value (replicate w false) ≡ 0
unfolding value
value-zero zero = refl
value-zero (suc w) = omega (arith, zero-mul (2 ^ length (replicate w false)), value-zero w)

digits-zero : (w : ℕ) → digits w 0 ≡ replicate w false
digits-zero w = ap₂ digits (sym (length-replicate w false)) (sym (value-zero w)) ∙ digits_value (replicate w false)

-- ---- the bytes: those of the frame, and those after it as they were
module _ (bits : List Bool) (out out₁ out₂ : List ℕ) (n : ℕ) (over : Over out out₁ 0 bits) (size : n ≡ length bits) (room : bytes_for n ≤ length out)
    (last : out₂ ≡ put_at out₁ n (8 * bytes_for n - n) 0) (bounded : Bytes out) where
  first : bits_of out₁ ≡ bits ++ drop n (bits_of out)
  first =
      over.bits (omega (arith, zero-add (length bits)))
      ∙ ap (λ (k : ℕ). bits ++ drop k (bits_of out)) (zero-add (length bits) ∙ sym size)

  after : drop (n + (8 * bytes_for n - n)) (bits_of out₁) ≡ bits_of (drop (bytes_for n) out)
  after =
      let w = 8 * bytes_for n - n in
      let e : n + w ≡ 8 * bytes_for n = omega arith in
      sym (drop-drop w n (bits_of out₁)) ∙ ap (drop w) (ap (drop n) first ∙ drop_at bits (drop n (bits_of out)) n (sym size)) ∙ drop-drop w n (bits_of out)
      ∙ ap (λ (k : ℕ). drop k (bits_of out)) e ∙ bits_of-drop (bytes_for n) out

  filled : bytes_of (bits ++ replicate (8 * bytes_for n - n) false) ≡ bytes_of bits
  filled =
      ap (λ (k : ℕ). bytes_of (bits ++ replicate (8 * bytes_for k - k) false)) size
      ∙ ap bytes_of (sym (bits-bytes bits)) ∙ bytes_bits (bytes_of bits) (bytes_of-below bits)

  pub laid-bytes : out₂ ≡ bytes_of bits ++ drop (bytes_for n) out
  laid-bytes =
      let w = 8 * bytes_for n - n in
      let few : w ≤ 32 = omega arith in
      let inside : n + w ≤ 8 * length out₁ = omega (arith, over.size) in
      let spare : List Bool = replicate w false in
      let whole : length (bits ++ spare) ≡ 8 * bytes_for n = length-append bits spare ∙ omega (arith, size, length-replicate w false) in
      let front : take n (bits_of out₁) ≡ bits = ap (take n) first ∙ take_at bits (drop n (bits_of out)) n (sym size) in
      last ∙ put-inside out₁ n w 0 inside few
      ∙ ap bytes_of (ap₂ (λ (a b : List Bool). a ++ b) (ap₂ (λ (a b : List Bool). a ++ b) front (digits-zero w)) after)
      ∙ bytes_of-append (bytes_for n) (bits ++ spare) (bits_of (drop (bytes_for n) out)) whole
      ∙ ap₂ (λ (a b : List ℕ). a ++ b) filled
      (bytes_bits (drop (bytes_for n) out) (λ i. subst (λ (k : ℕ). k < 256) (sym (get_or-drop (bytes_for n) out i 0)) (bounded (bytes_for n + i))))

-- ---- what is answered, and what the whole buffer then holds
-- nothing is written where the answer is a refusal
pub refused-record : (kind : Kind) (s out : List ℕ) (start : ℕ) (n : Refusal) → written_of kind s (length out) start ≡ Err n
    → (Err n ≡ written_of kind s (length out) start) × (out ≡ output_of kind s out start)
unfolding output_of
refused-record kind s out start n e = (sym e, rw e)

module _ (kind : Kind) (s out : List ℕ) (start n : ℕ) (told : measured_of kind s ≡ Ok n) where
  -- too little room
  pub no_room : length out < start + bytes_for n → (Err NoSpace ≡ written_of kind s (length out) start) × (out ≡ output_of kind s out start)
  no_room h =
      let frame = frame_told kind s n told in
      refused-record kind s out start NoSpace
      (room-too-little kind s (length out) start frame.0 (omega (arith, frame.1, length-written kind s frame.0)))

  pub written-part : start + bytes_for n ≤ length out → (k : ℕ) (ys : List ℕ) → length out ≤ start + k
      → ys ≡ bytes_of (write kind s) ++ drop (bytes_for n) (mid_of start k out)
      → (Ok n ≡ written_of kind s (length out) start) × (put_mid start k out ys ≡ output_of kind s out start)
  unfolding output_of
  written-part h k ys j e =
      let answered : written_of kind s (length out) start ≡ Ok n = room-of-own kind s n (length out) start told h ∙ told in
      let frame = bytes_of (write kind s) in
      let nothing : post_of start k out ≡ [] = drop_of_length-le (drop start out) {i = k} (omega (arith, length-drop start out)) in
      let all_of : mid_of start k out ≡ drop start out = take_all k (drop start out) (omega (arith, length-drop start out)) in (
        sym answered,
        ap₂ (λ (a b : List ℕ). take start out ++ (a ++ b)) (e ∙ ap (λ (a : List ℕ). frame ++ drop (bytes_for n) a) all_of) nothing
            ∙ ap (λ (a : List ℕ). take start out ++ a)
            (append-nil (frame ++ drop (bytes_for n) (drop start out)) ∙ ap (λ (a : List ℕ). frame ++ a) (drop-drop (bytes_for n) start out))
            ∙ rw answered,
      )
