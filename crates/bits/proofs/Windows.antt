-- The laws of the whole bytes that a field lies in: what is read of them, what is laid into them, and the field among their bits.
-- Assumes nothing.
use Prim.Native.Nat.{ℕ, zero, suc, ◌+◌, ◌-◌, ◌*◌, ◌/◌, ◌%◌, ◌^◌, ◌≤◌, ◌<◌}
use mathlib.Core.Path.{◌≡◌, refl, ap, ap₂, sym, ◌∙◌, subst}
use mathlib.Core.Bool.{Bool}
use mathlib.Core.List.{List, [], ◌∷◌, ◌++◌, append_assoc, append-nil}
use native.Mathlib.Nat.{lt_of_lt_of_le}
use native.Mathlib.Numerals.{add-one}
use native.Mathlib.Omega.{arith}
use borrow.Rule.Slice.PartMut.{put_mid}
use lib.ListN.{length, get_or, take, drop, set, length-append, length-drop, length-take, take-append-drop}
use lib.Pow.{high, low, pow_mono, shr_lt}
use lib.Seq.{length-take-le, take-suc, take-take, take-add, take_at, drop-cons, drop-drop, drop_at, drop-set-lt, get_or-set_same, lt-length-set, append_snoc}
use Rattle.std.specs.Int.{div_ceil}
use Rattle.bits.specs.Bits.{digits, value, bits_of, bytes_of, Bytes}
use Rattle.bits.specs.Field.{put_at}
use Rattle.bits.specs.Window.{value_at, joined_bits, bytes_in, laid}
use Rattle.bits.proofs.Laws.{length_digits, value-lt, digits_value, digits_mod, value-digits, value-digits-mod, digits_append, value-append}
use Rattle.bits.proofs.Laws.{length-bits_of, bits_of-append, bits_of-take, bits_of-drop, bytes_bits, put-inside}

-- ---- reading

-- what stands past the end of a part is not seen
pub part-of-take : (at w n : ℕ) (l : List Bool) → at + w ≤ n → take w (drop at (take n l)) ≡ take w (drop at l)
part-of-take zero w n l h = take-take w n l (omega arith)
part-of-take (suc at) w zero l h = absurd (omega arith)
part-of-take (suc at) w (suc n) [] h = refl
part-of-take (suc at) w (suc n) (x ∷ l) h = part-of-take at w n l (omega arith)

-- the number of a part, from the number of the whole
part-value : (l : List Bool) (o w : ℕ) → o + w ≤ length l → value (take w (drop o l)) ≡ value l / 2 ^ (length l - (o + w)) % 2 ^ w
part-value l o w h =
    let a : List Bool = take o l in
    let f : List Bool = take w (drop o l) in
    let r : List Bool = drop w (drop o l) in
    let lr : length r ≡ length l - (o + w) = omega (arith, length-drop w (drop o l), length-drop o l) in
    let lf : length f ≡ w = length-take-le w (drop o l) (omega (arith, length-drop o l)) in
    let whole : a ++ f ++ r ≡ l = append_assoc a f r ∙ ap (λ (x : List Bool). a ++ x) (take-append-drop w (drop o l)) ∙ take-append-drop o l in
    let vf : value f < 2 ^ w = subst (λ (k : ℕ). value f < 2 ^ k) lf (value-lt f) in
    let v : value l ≡ (value a * 2 ^ w + value f) * 2 ^ length r + value r =
    ap value (sym whole) ∙ value-append (a ++ f) r ∙ ap (λ (x : ℕ). x * 2 ^ length r + value r) (value-append a f ∙ ap (λ (k : ℕ). value a * 2 ^ k + value f) lf) in
    sym
    (ap (λ (k : ℕ). value l / 2 ^ k % 2 ^ w) (sym lr)
    ∙ ap (λ (x : ℕ). x / 2 ^ length r % 2 ^ w) v
    ∙ ap (λ (x : ℕ). x % 2 ^ w) (high (value a * 2 ^ w + value f) (length r) (value-lt r))
    ∙ low (value a) w vf)

-- a field, from the `count` bytes that it lies in
pub field-bytes : (bytes : List ℕ) (at w count : ℕ) → at / 8 + count ≤ length bytes → at % 8 + w ≤ 8 * count
    → value_at bytes at w ≡ value (bits_of (take count (drop (at / 8) bytes))) / 2 ^ (8 * count - (at % 8 + w)) % 2 ^ w
field-bytes bytes at w count h k =
    let o : ℕ = at % 8 in
    let rest : List ℕ = drop (at / 8) bytes in
    let here : 8 * (at / 8) + o ≡ at = omega arith in
    let room : count ≤ length rest = omega (arith, length-drop (at / 8) bytes) in
    let size : length (bits_of (take count rest)) ≡ 8 * count = length-bits_of (take count rest) ∙ ap (λ (x : ℕ). 8 * x) (length-take-le count rest room) in
    ap (λ (l : List Bool). value (take w l))
    (ap (λ (x : ℕ). drop x (bits_of bytes)) (sym here) ∙ sym (drop-drop o (8 * (at / 8)) (bits_of bytes)) ∙ ap (drop o) (bits_of-drop (at / 8) bytes))
    ∙ ap value (sym (part-of-take o w (8 * count) (bits_of rest) k))
    ∙ ap (λ (l : List Bool). value (take w (drop o l))) (bits_of-take count rest)
    ∙ part-value (bits_of (take count rest)) o w (omega arith)
    ∙ ap (λ (x : ℕ). value (bits_of (take count rest)) / 2 ^ (x - (o + w)) % 2 ^ w) size

module _ (bytes : List ℕ) where
  -- the first bytes as a number
  pub value-lt-first : (count : ℕ) → value (bits_of (take count bytes)) < 2 ^ (8 * count)
  value-lt-first count =
      let part : List ℕ = take count bytes in
      let short : length part ≤ count = rw length-take (omega arith) in
      lt_of_lt_of_le (value-lt (bits_of part)) (pow_mono (omega (arith, length-bits_of part)))

  -- one byte more
  pub value-more : (j : ℕ) → j < length bytes → get_or bytes j 0 < 256
      → value (bits_of (take (j + 1) bytes)) ≡ value (bits_of (take j bytes)) * 256 + get_or bytes j 0
  unfolding bits_of
  value-more j h k =
      let b : ℕ = get_or bytes j 0 in
      let next : take (j + 1) bytes ≡ take j bytes ++ (b ∷ []) = ap (λ (i : ℕ). take i bytes) (add-one j) ∙ take-suc bytes j 0 h in
      ap (λ (l : List ℕ). value (bits_of l)) next
      ∙ ap value (bits_of-append (take j bytes) (b ∷ []) ∙ ap (λ (l : List Bool). bits_of (take j bytes) ++ l) (append-nil (digits 8 b)))
      ∙ value-append (bits_of (take j bytes)) (digits 8 b)
      ∙ ap₂ (λ (w : ℕ) (x : ℕ). value (bits_of (take j bytes)) * 2 ^ w + x) (length_digits 8 b) (value-digits 8 b k)

-- ---- laying

-- the bits of a number's bytes
bits-bytes_in : (count n : ℕ) → bits_of (bytes_in count n) ≡ digits (8 * count) n
unfolding bytes_in bits_of digits
bits-bytes_in zero n = refl
bits-bytes_in (suc count) n =
    let next : 8 * count + 8 ≡ 8 * suc count = omega arith in
    bits_of-append (bytes_in count (n / 256)) (n % 256 ∷ [])
    ∙ ap₂ (λ (a : List Bool) (b : List Bool). a ++ b) (bits-bytes_in count (n / 256)) (append-nil (digits 8 (n % 256)) ∙ digits_mod 8 n)
    ∙ sym (digits_append (8 * count) 8 n)
    ∙ ap (λ (k : ℕ). digits k n) next

-- the lowest byte is laid: one byte less is left to lay
pub lay-turn : (out : List ℕ) (left n : ℕ) → left < length out
    → bytes_in left (n / 256) ++ drop left (set out left (n % 256)) ≡ bytes_in (suc left) n ++ drop (suc left) out
unfolding bytes_in
lay-turn out left n h =
    let x : ℕ = n % 256 in
    let rest : List ℕ = bytes_in left (n / 256) in
    let end : drop left (set out left x) ≡ x ∷ drop (suc left) out =
    drop-cons (set out left x) left 0 (lt-length-set out left x h) ∙ ap₂ ◌∷◌ (get_or-set_same out left x 0 h) (drop-set-lt (suc left) out left x (omega arith)) in
    ap (λ (l : List ℕ). rest ++ l) end ∙ sym (append_snoc rest x (drop (suc left) out))

-- a part of `out`, of k bytes, once a number is laid into it
pub laid-part : (out part : List ℕ) (first k count n : ℕ) → k ≡ count → part ≡ bytes_in count n → put_mid first k out part ≡ laid out first count n
laid-part out part first k count n e f =
    ap₂ (λ (l : List ℕ) (r : List ℕ). take first out ++ (l ++ r)) f (drop-drop k first out ∙ ap (λ (m : ℕ). drop (first + m) out) e)
    ∙ sym (append_assoc (take first out) (bytes_in count n) (drop (first + count) out))

-- a byte in two parts, with what comes after it
module _ (bytes : List ℕ) (q j k : ℕ) (h : q < length bytes) (e : j + k ≡ 8) where
  byte-parts : drop (8 * q) (bits_of bytes) ≡ digits j (get_or bytes q 0 / 2 ^ k) ++ (digits k (get_or bytes q 0) ++ drop (8 * suc q) (bits_of bytes))
  unfolding bits_of
  byte-parts =
      let b : ℕ = get_or bytes q 0 in
      bits_of-drop q bytes
      ∙ ap bits_of (drop-cons bytes q 0 h)
      ∙ ap₂ (λ (x : List Bool) (r : List Bool). x ++ r) (ap (λ (w : ℕ). digits w b) (sym e) ∙ digits_append j k b) (sym (bits_of-drop (suc q) bytes))
      ∙ append_assoc (digits j (b / 2 ^ k)) (digits k b) (drop (8 * suc q) (bits_of bytes))

  take-in-byte : take (8 * q + j) (bits_of bytes) ≡ take (8 * q) (bits_of bytes) ++ digits j (get_or bytes q 0 / 2 ^ k)
  take-in-byte =
      let b : ℕ = get_or bytes q 0 in
      take-add (8 * q) j (bits_of bytes)
      ∙ ap (λ (r : List Bool). take (8 * q) (bits_of bytes) ++ r)
      (ap (take j) byte-parts ∙ take_at (digits j (b / 2 ^ k)) (digits k b ++ drop (8 * suc q) (bits_of bytes)) j (length_digits j (b / 2 ^ k)))

  drop-in-byte : drop (8 * q + j) (bits_of bytes) ≡ digits k (get_or bytes q 0) ++ drop (8 * suc q) (bits_of bytes)
  drop-in-byte =
      let b : ℕ = get_or bytes q 0 in
      sym (drop-drop j (8 * q) (bits_of bytes))
      ∙ ap (drop j) byte-parts
      ∙ drop_at (digits j (b / 2 ^ k)) (digits k b ++ drop (8 * suc q) (bits_of bytes)) j (length_digits j (b / 2 ^ k))

-- the number that `joined` makes
pub joined-value : (first from v width last after : ℕ) → first < 256 → from ≤ 8
    → joined_bits first from v width last after ≡ (first / 2 ^ (8 - from) * 2 ^ width + v % 2 ^ width) * 2 ^ after + last % 2 ^ after
joined-value first from v width last after h k =
    let top : ℕ = first / 2 ^ (8 - from) in
    let all : 8 ≡ from + (8 - from) = omega arith in
    let small : top < 2 ^ from = shr_lt from (8 - from) (subst (λ (n : ℕ). first < 2 ^ n) all h) in
    value-append (digits from top ++ digits width v) (digits after last)
    ∙ ap (λ (x : ℕ). x * 2 ^ length (digits after last) + value (digits after last))
    (value-append (digits from top) (digits width v)
    ∙ ap (λ (n : ℕ). value (digits from top) * 2 ^ n + value (digits width v)) (length_digits width v)
    ∙ ap₂ (λ (x : ℕ) (y : ℕ). x * 2 ^ width + y) (value-digits from top small) (value-digits-mod width v))
    ∙ ap₂ (λ (n : ℕ) (y : ℕ). (top * 2 ^ width + v % 2 ^ width) * 2 ^ n + y) (length_digits after last) (value-digits-mod after last)

regroup : (a p d q z : List Bool) → a ++ (p ++ d ++ q) ++ z ≡ a ++ p ++ d ++ (q ++ z)
regroup a p d q z = simp append_assoc

-- the bits of `out` once the bytes that a field lies in are laid anew
laid-field : (out : List ℕ) (at w v first from count after : ℕ) → at ≡ 8 * first + from → from + w + after ≡ 8 * count → from ≤ 8 → after ≤ 8 → 0 < count → first + count ≤ length out
    → bits_of (laid out first count (joined_bits (get_or out first 0) from v w (get_or out (first + count - 1) 0) after)) ≡ take at (bits_of out) ++ digits w v ++ drop (at + w) (bits_of out)
laid-field out at w v first from count after place size hf ha some inside =
    let last : ℕ = first + count - 1 in
    let B : List Bool = bits_of out in
    let P : List Bool = digits from (get_or out first 0 / 2 ^ (8 - from)) in
    let Q : List Bool = digits after (get_or out last 0) in
    let D : List Bool = digits w v in
    let n : ℕ = value (P ++ D ++ Q) in
    let all : length (P ++ D ++ Q) ≡ 8 * count =
    omega (arith, length-append (P ++ D) Q, length-append P D, length_digits from (get_or out first 0 / 2 ^ (8 - from)), length_digits w v, length_digits after (get_or out last 0)) in
    let number : digits (8 * count) n ≡ P ++ D ++ Q = subst (λ (k : ℕ). digits k n ≡ P ++ D ++ Q) all (digits_value (P ++ D ++ Q)) in
    let front : take (8 * first) B ++ P ≡ take at B = sym (take-in-byte out first from (8 - from) (omega arith) (omega arith)) ∙ ap (λ (k : ℕ). take k B) (sym place) in
    let end : 8 * last + (8 - after) ≡ at + w = omega arith in
    let back : Q ++ drop (8 * suc last) B ≡ drop (at + w) B = sym (drop-in-byte out last (8 - after) after (omega arith) (omega arith)) ∙ ap (λ (k : ℕ). drop k B) end in
    let next : first + count ≡ suc last = omega arith in
    bits_of-append (take first out ++ bytes_in count n) (drop (first + count) out)
    ∙ ap₂ (λ (x : List Bool) (y : List Bool). x ++ y)
    (bits_of-append (take first out) (bytes_in count n)
    ∙ ap₂ (λ (x : List Bool) (y : List Bool). x ++ y) (sym (bits_of-take first out)) (bits-bytes_in count n ∙ number))
    (ap (λ (k : ℕ). bits_of (drop k out)) next ∙ sym (bits_of-drop (suc last) out))
    ∙ regroup (take (8 * first) B) P D Q (drop (8 * suc last) B)
    ∙ ap₂ (λ (x : List Bool) (y : List Bool). x ++ D ++ y) front back

-- bytes that hold the bits of `put_at` are those of `put_at`
pub put-told : (out new : List ℕ) (at w v : ℕ) → at + w ≤ 8 * length out → w ≤ 32 → Bytes new
    → bits_of new ≡ take at (bits_of out) ++ digits w v ++ drop (at + w) (bits_of out) → new ≡ put_at out at w v
put-told out new at w v h k bytes e = sym (bytes_bits new bytes) ∙ ap bytes_of e ∙ sym (put-inside out at w v h k)

-- a field is put once the bytes that it lies in are laid anew
pub put-laid : (out new : List ℕ) (at w v count : ℕ) → 0 < w → w ≤ 32 → at + w ≤ 8 * length out → Bytes new → count ≡ div_ceil (at % 8 + w) 8
    → let first = at / 8 in
    let from = at % 8 in
    (number : ℕ) → number ≡ joined_bits (get_or out first 0) from v w (get_or out (first + count - 1) 0) (8 * count - (from + w))
    → new ≡ laid out first count number → new ≡ put_at out at w v
put-laid out new at w v count some narrow inside bytes size number e l =
    put-told out new at w v inside narrow bytes
    (ap bits_of (l ∙ ap (laid out (at / 8) count) e)
    ∙ laid-field out at w v (at / 8) (at % 8) count (8 * count - (at % 8 + w)) (omega arith) (omega arith) (omega arith) (omega arith) (omega arith) (omega arith))
