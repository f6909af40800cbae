-- The laws of bit fields, over any width: numbers and their digits, bytes and their bits, and fields.
-- Assumes nothing.
use Prim.Native.Nat.{ℕ, zero, suc, ◌+◌, ◌-◌, ◌*◌, ◌/◌, ◌%◌, ◌^◌, ◌≤◌, ◌<◌}
use mathlib.Core.Path.{◌≡◌, refl, ap, ap₂, sym, ◌∙◌, subst}
use mathlib.Core.Bool.{Bool, true, false, ◌||◌}
use mathlib.Core.List.{List, [], ◌∷◌, ◌++◌, append_assoc, append-nil}
use native.Mathlib.Nat.{zero-add, suc-add, add_comm, add-mul, mul_assoc, mod-lt, mod-eq_of_lt, pow-succ', div-lt_iff_lt-mul, lt_of_lt_of_le}
use native.Mathlib.Numerals.{one-add}
use native.Mathlib.Omega.{arith}
use borrow.Author.Tests.{lt-ltb, le-ltb, ltb-true, ltb-false}
use lib.Arith.{digits_lt}
use lib.Dec.{eqb, ltb}
use lib.ListN.{length, take, drop, replicate, length-append, length-take, length-drop, length-replicate, take-append-drop}
use lib.Pow.{pow_pos, pow_mono, pow-add, shr-shr, split, high, low, field, mod-mod-pow}
use lib.Seq.{length-take-le, take-nil, drop-nil, take-append-add, drop-append-add, take-append-le, drop-append-le, take_at, drop_at}
use Rattle.bits.specs.Bits.{odd, bit, digits, value, bits_of, bytes_for, spare, pack, bytes_of, Bytes}
use Rattle.bits.specs.Field.{field_at, put_at}
use Rattle.std.specs.Prelude.{Some, None}

-- ---- numbers and their digits

pub length_digits : (w n : ℕ) → length (digits w n) ≡ w
unfolding digits
length_digits zero n = refl
length_digits (suc w) n = ap suc (length_digits w (n % 2 ^ w))

odd-bit : (b : Bool) → odd (bit b) ≡ b
odd-bit false = refl
odd-bit true = refl

bit-eq : (m : ℕ) → m < 2 → bit (eqb m 1) ≡ m
bit-eq zero h = refl
bit-eq (suc zero) h = refl
bit-eq (suc (suc m)) h = omega arith

bit-odd : (n : ℕ) → bit (odd n) ≡ n % 2
bit-odd n = bit-eq (n % 2) (mod-lt n (omega arith))

bit-lt : (b : Bool) → bit b < 2
bit-lt false = omega arith
bit-lt true = omega arith

-- a run of bits stands for a number below the power of its length
pub value-lt : (bs : List Bool) → value bs < 2 ^ length bs
unfolding value
value-lt [] = omega arith
value-lt (b ∷ bs) = rw (pow-succ' 2 (length bs)) (digits_lt (bit-lt b) (value-lt bs))

-- a number that fits is what its digits stand for
pub value-digits : (w n : ℕ) → n < 2 ^ w → value (digits w n) ≡ n
unfolding digits value
value-digits zero n h = omega arith
value-digits (suc w) n h =
    rw (length_digits w (n % 2 ^ w), value-digits w (n % 2 ^ w) (mod-lt n (pow_pos w)), bit-odd (n / 2 ^ w), mod-eq_of_lt ((div-lt_iff_lt-mul (pow_pos w)).1 (rw (pow-succ' 2 w) at h)))
    (split n w)

-- a run of bits is the digits of its number
pub digits_value : (bs : List Bool) → digits (length bs) (value bs) ≡ bs
unfolding digits value
digits_value [] = refl
digits_value (b ∷ bs) = rw (high (bit b) (length bs) (value-lt bs), low (bit b) (length bs) (value-lt bs)) (ap₂ ◌∷◌ (odd-bit b) (digits_value bs))

-- the first w bits of a run, and the others
pub digits-drop : (w : ℕ) (bs : List Bool) → w ≤ length bs → digits w (value (take w bs)) ++ drop w bs ≡ bs
digits-drop w bs l =
    let e : digits w (value (take w bs)) ≡ take w bs = subst (λ (n : ℕ). digits n (value (take w bs)) ≡ take w bs) (length-take-le w bs l) (digits_value (take w bs)) in
    ap (λ (x : List Bool). x ++ drop w bs) e ∙ take-append-drop w bs

-- what stands above the lowest w bits is not seen
pub digits_mod : (w n : ℕ) → digits w (n % 2 ^ w) ≡ digits w n
unfolding digits
digits_mod zero n = refl
digits_mod (suc w) n =
    let one : 1 + w ≡ suc w = one-add w in
    let top : n % 2 ^ suc w / 2 ^ w ≡ n / 2 ^ w % 2 = subst (λ (k : ℕ). n % 2 ^ k / 2 ^ w ≡ n / 2 ^ w % 2) one (field n 1 w) in
    let rest : n % 2 ^ suc w % 2 ^ w ≡ n % 2 ^ w = subst (λ (k : ℕ). n % 2 ^ k % 2 ^ w ≡ n % 2 ^ w) one (mod-mod-pow n 1 w) in
    let same : n % 2 ^ suc w / 2 ^ w % 2 ≡ n / 2 ^ w % 2 = omega arith in
    ap₂ (λ (m : ℕ) (k : ℕ). eqb m 1 ∷ digits w k) same rest

-- digits stand for the lowest w bits of any number
pub value-digits-mod : (w n : ℕ) → value (digits w n) ≡ n % 2 ^ w
value-digits-mod w n = ap value (sym (digits_mod w n)) ∙ value-digits w (n % 2 ^ w) (mod-lt n (pow_pos w))

-- digits in two parts
pub digits_append : (j k n : ℕ) → digits (j + k) n ≡ digits j (n / 2 ^ k) ++ digits k n
unfolding digits
digits_append zero k n = ap (λ (w : ℕ). digits w n) (zero-add k)
digits_append (suc j) k n =
    let place : n / 2 ^ (j + k) ≡ n / 2 ^ k / 2 ^ j = ap (λ (i : ℕ). n / 2 ^ i) (add_comm j k) ∙ sym (shr-shr n k j) in
    ap (λ (w : ℕ). digits w n) (suc-add j k)
    ∙ ap₂ (λ (m : ℕ) (r : List Bool). odd m ∷ r) place (digits_mod (j + k) n ∙ digits_append j k n)
    ∙ ap (λ (r : List Bool). odd (n / 2 ^ k / 2 ^ j) ∷ r ++ digits k n) (sym (digits_mod j (n / 2 ^ k)))

-- a number in two parts
pub value-append : (xs ys : List Bool) → value (xs ++ ys) ≡ value xs * 2 ^ length ys + value ys
unfolding value
value-append [] ys = omega arith
value-append (x ∷ xs) ys =
    let high : bit x * 2 ^ length (xs ++ ys) ≡ bit x * 2 ^ length xs * 2 ^ length ys =
    ap (λ (k : ℕ). bit x * k) (ap (λ (l : ℕ). 2 ^ l) (length-append xs ys) ∙ pow-add 2 (length xs) (length ys)) ∙ sym (mul_assoc (bit x) (2 ^ length xs) (2 ^ length ys)) in
    omega (arith, value-append xs ys, add-mul (bit x * 2 ^ length xs) (value xs) (2 ^ length ys))

-- ---- bytes and their bits

pub length-bits_of : (bytes : List ℕ) → length (bits_of bytes) ≡ 8 * length bytes
unfolding bits_of
length-bits_of [] = refl
length-bits_of (b ∷ bs) = length-append (digits 8 b) (bits_of bs) ∙ omega (arith, length_digits 8 b, length-bits_of bs)

pub bits_of-append : (xs ys : List ℕ) → bits_of (xs ++ ys) ≡ bits_of xs ++ bits_of ys
unfolding bits_of
bits_of-append [] ys = refl
bits_of-append (x ∷ xs) ys = ap (λ (l : List Bool). digits 8 x ++ l) (bits_of-append xs ys) ∙ sym (append_assoc (digits 8 x) (bits_of xs) (bits_of ys))

pub bits_of-take : (n : ℕ) (bytes : List ℕ) → take (8 * n) (bits_of bytes) ≡ bits_of (take n bytes)
unfolding bits_of
bits_of-take zero bs = refl
bits_of-take (suc n) [] = take-nil (8 * suc n)
bits_of-take (suc n) (b ∷ bs) =
    let e : 8 * suc n ≡ length (digits 8 b) + 8 * n = omega (arith, length_digits 8 b) in
    ap (λ (k : ℕ). take k (digits 8 b ++ bits_of bs)) e
    ∙ take-append-add (digits 8 b) (bits_of bs) (8 * n)
    ∙ ap (λ (l : List Bool). digits 8 b ++ l) (bits_of-take n bs)

pub bits_of-drop : (n : ℕ) (bytes : List ℕ) → drop (8 * n) (bits_of bytes) ≡ bits_of (drop n bytes)
unfolding bits_of
bits_of-drop zero bs = refl
bits_of-drop (suc n) [] = drop-nil (8 * suc n)
bits_of-drop (suc n) (b ∷ bs) =
    let e : 8 * suc n ≡ length (digits 8 b) + 8 * n = omega (arith, length_digits 8 b) in
    ap (λ (k : ℕ). drop k (digits 8 b ++ bits_of bs)) e ∙ drop-append-add (digits 8 b) (bits_of bs) (8 * n) ∙ bits_of-drop n bs

length-pack : (n : ℕ) (bits : List Bool) → length (pack n bits) ≡ n
unfolding pack
length-pack zero bits = refl
length-pack (suc n) bits = ap suc (length-pack n (drop 8 bits))

bits-pack : (n : ℕ) (bits : List Bool) → length bits ≡ 8 * n → bits_of (pack n bits) ≡ bits
unfolding pack bits_of
bits-pack zero [] e = refl
bits-pack zero (b ∷ bs) e = absurd (omega arith)
bits-pack (suc n) bits e =
    let rest : length (drop 8 bits) ≡ 8 * n = length-drop 8 bits ∙ omega arith in
    ap (λ (x : List Bool). digits 8 (value (take 8 bits)) ++ x) (bits-pack n (drop 8 bits) rest) ∙ digits-drop 8 bits (omega arith)

-- bytes are packed from their bits, whatever stands after
pack-bits : (xs : List ℕ) (rest : List Bool) → Bytes xs → pack (length xs) (bits_of xs ++ rest) ≡ xs
unfolding pack bits_of
pack-bits [] rest h = refl
pack-bits (x ∷ xs) rest h =
    let cut : digits 8 x ++ bits_of xs ++ rest ≡ digits 8 x ++ (bits_of xs ++ rest) = append_assoc (digits 8 x) (bits_of xs) rest in
    let first : value (take 8 (digits 8 x ++ bits_of xs ++ rest)) ≡ x =
    ap value (ap (take 8) cut ∙ take_at (digits 8 x) (bits_of xs ++ rest) 8 (length_digits 8 x)) ∙ value-digits 8 x (h 0) in
    let others : pack (length xs) (drop 8 (digits 8 x ++ bits_of xs ++ rest)) ≡ xs =
    ap (pack (length xs)) (ap (drop 8) cut ∙ drop_at (digits 8 x) (bits_of xs ++ rest) 8 (length_digits 8 x)) ∙ pack-bits xs rest (λ i. h (suc i)) in
    ap₂ ◌∷◌ first others

pack-append : (n m : ℕ) (xs ys : List Bool) → length xs ≡ 8 * n → pack (n + m) (xs ++ ys) ≡ pack n xs ++ pack m ys
unfolding pack
pack-append zero m [] ys e = ap (λ (k : ℕ). pack k ys) (zero-add m)
pack-append zero m (x ∷ xs) ys e = absurd (omega arith)
pack-append (suc n) m xs ys e =
    let long : 8 ≤ length xs = omega arith in
    let rest : length (drop 8 xs) ≡ 8 * n = length-drop 8 xs ∙ omega arith in
    ap (λ (k : ℕ). pack k (xs ++ ys)) (suc-add n m)
    ∙ ap₂ (λ (a : List Bool) (b : List Bool). value a ∷ pack (n + m) b) (take-append-le 8 xs ys long) (drop-append-le 8 xs ys long)
    ∙ ap (λ (r : List ℕ). value (take 8 xs) ∷ r) (pack-append n m (drop 8 xs) ys rest)

pub length-bytes_of : (bits : List Bool) → length (bytes_of bits) ≡ bytes_for (length bits)
unfolding bytes_of
length-bytes_of bits = length-pack (bytes_for (length bits)) (bits ++ spare (length bits))

-- the bytes of a run of bits hold it, and 0 after it
pub bits-bytes : (bits : List Bool) → bits_of (bytes_of bits) ≡ bits ++ spare (length bits)
unfolding bytes_of
bits-bytes bits = bits-pack (bytes_for (length bits)) (bits ++ spare (length bits)) (length-append bits (spare (length bits)) ∙ rw length-replicate (omega arith))

-- a run that ends with a byte leaves no spare bits
bytes_of-whole : (n : ℕ) (bits : List Bool) → length bits ≡ 8 * n → bytes_of bits ≡ pack n bits
unfolding bytes_of
bytes_of-whole n bits e =
    let count : bytes_for (8 * n) ≡ n = omega arith in
    let none : 8 * bytes_for (8 * n) - 8 * n ≡ 0 = omega arith in
    ap (λ (k : ℕ). pack (bytes_for k) (bits ++ spare k)) e
    ∙ ap₂ (λ (k : ℕ) (z : ℕ). pack k (bits ++ replicate z false)) count none
    ∙ ap (pack n) (append-nil bits)

pub bits-bytes-whole : (n : ℕ) (bits : List Bool) → length bits ≡ 8 * n → bits_of (bytes_of bits) ≡ bits
bits-bytes-whole n bits e = ap bits_of (bytes_of-whole n bits e) ∙ bits-pack n bits e

-- bytes are told by their bits
pub bytes_bits : (xs : List ℕ) → Bytes xs → bytes_of (bits_of xs) ≡ xs
unfolding bytes_of
bytes_bits xs h =
    let n : bytes_for (length (bits_of xs)) ≡ length xs = omega (arith, length-bits_of xs) in
    ap (λ (k : ℕ). pack k (bits_of xs ++ spare (length (bits_of xs)))) n ∙ pack-bits xs (spare (length (bits_of xs))) h

-- a run after one that ends with a byte
pub bytes_of-append : (n : ℕ) (xs ys : List Bool) → length xs ≡ 8 * n → bytes_of (xs ++ ys) ≡ bytes_of xs ++ bytes_of ys
unfolding bytes_of
bytes_of-append n xs ys e =
    let count : length (xs ++ ys) ≡ 8 * n + length ys = length-append xs ys ∙ ap (λ (k : ℕ). k + length ys) e in
    let bytes : bytes_for (8 * n + length ys) ≡ n + bytes_for (length ys) = omega arith in
    let left : 8 * bytes_for (8 * n + length ys) - (8 * n + length ys) ≡ 8 * bytes_for (length ys) - length ys = omega arith in
    ap (λ (k : ℕ). pack (bytes_for k) (xs ++ ys ++ spare k)) count
    ∙ ap₂ (λ (k : ℕ) (s : List Bool). pack k s) bytes (ap (λ (k : ℕ). xs ++ ys ++ replicate k false) left ∙ append_assoc xs ys (spare (length ys)))
    ∙ pack-append n (bytes_for (length ys)) xs (ys ++ spare (length ys)) e
    ∙ ap (λ (r : List ℕ). r ++ bytes_of ys) (sym (bytes_of-whole n xs e))

pack-below : (n : ℕ) (bits : List Bool) → Bytes (pack n bits)
unfolding pack
pack-below zero bits i = omega arith
pack-below (suc n) bits zero =
    let short : length (take 8 bits) ≤ 8 = rw length-take (omega arith) in
    lt_of_lt_of_le (value-lt (take 8 bits)) (pow_mono short)
pack-below (suc n) bits (suc i) = pack-below n (drop 8 bits) i

-- what a run of bits is packed into are bytes
pub bytes_of-below : (bits : List Bool) → Bytes (bytes_of bits)
unfolding bytes_of
bytes_of-below bits i = pack-below (bytes_for (length bits)) (bits ++ spare (length bits)) i

-- ---- fields

or-true : (t : Bool) → t || true ≡ true
or-true true = refl
or-true false = refl

-- the cases of `field_at`
module _ (frame : List ℕ) (bits at width : ℕ) where
  pub field-short : 8 * length frame < bits → field_at frame bits at width ≡ None
  unfolding field_at
  field-short h = rw (lt-ltb (8 * length frame) bits h)

  pub field_cut : bits < at + width → field_at frame bits at width ≡ None
  unfolding field_at
  field_cut h = rw (lt-ltb bits (at + width) h, or-true (ltb (8 * length frame) bits))

  pub field-wide : 32 < width → field_at frame bits at width ≡ None
  unfolding field_at
  field-wide h = rw (lt-ltb 32 width h, or-true (ltb (8 * length frame) bits || ltb bits (at + width)))

  pub field-value : bits ≤ 8 * length frame → at + width ≤ bits → width ≤ 32
      → field_at frame bits at width ≡ Some (value (take width (drop at (take bits (bits_of frame)))))
  unfolding field_at
  field-value h k l = rw (le-ltb (8 * length frame) bits h, le-ltb bits (at + width) k, le-ltb 32 width l)

-- the cases of `put_at`, and what it leaves
module _ (out : List ℕ) (at width v : ℕ) where
  pub put-wide : 32 < width → put_at out at width v ≡ out
  unfolding put_at
  put-wide h = rw (lt-ltb 32 width h)

  pub put-past : 8 * length out < at + width → put_at out at width v ≡ out
  unfolding put_at
  put-past h = rw (lt-ltb (8 * length out) (at + width) h, or-true (ltb 32 width))

  pub put-inside : at + width ≤ 8 * length out → width ≤ 32
      → put_at out at width v ≡ bytes_of (take at (bits_of out) ++ digits width v ++ drop (at + width) (bits_of out))
  unfolding put_at
  put-inside h l = rw (le-ltb 32 width l, le-ltb (8 * length out) (at + width) h)

  -- as many bits as before
  put-length : at + width ≤ 8 * length out → length (take at (bits_of out) ++ digits width v ++ drop (at + width) (bits_of out)) ≡ 8 * length out
  put-length h =
      let n : length (bits_of out) ≡ 8 * length out = length-bits_of out in
      rw (length-append, length-append, length_digits, length-drop, length-take-le at (bits_of out) (omega arith)) (omega arith)

  pub put-bits : at + width ≤ 8 * length out → width ≤ 32
      → bits_of (put_at out at width v) ≡ take at (bits_of out) ++ digits width v ++ drop (at + width) (bits_of out)
  put-bits h l =
      ap bits_of (put-inside h l) ∙ bits-bytes-whole (length out) (take at (bits_of out) ++ digits width v ++ drop (at + width) (bits_of out)) (put-length h)

  pub length-put_at : length (put_at out at width v) ≡ length out
  length-put_at = go (ltb 32 width) (ltb (8 * length out) (at + width)) refl refl
    where
      go : (t u : Bool) → ltb 32 width ≡ t → ltb (8 * length out) (at + width) ≡ u → length (put_at out at width v) ≡ length out
      go true u p q = ap length (put-wide (ltb-true 32 width p))
      go false true p q = ap length (put-past (ltb-true (8 * length out) (at + width) q))
      go false false p q =
          let h : at + width ≤ 8 * length out = ltb-false (8 * length out) (at + width) q in
          let whole : length (take at (bits_of out) ++ digits width v ++ drop (at + width) (bits_of out)) ≡ 8 * length out = put-length h in
          ap length (put-inside h (ltb-false 32 width p)) ∙ length-bytes_of (take at (bits_of out) ++ digits width v ++ drop (at + width) (bits_of out)) ∙ ap bytes_for whole ∙ omega arith
