-- Laws of digits: a table at a place, a text of two digits and more, the length of bytes in digits.
use mathlib.Core.Path.{◌≡◌, refl, sym, ap, ◌∙◌}
use mathlib.Core.Bool.{Bool, true, false, ◌&&◌}
use mathlib.Core.List.{List, [], ◌∷◌}
use Prim.Native.Nat.{ℕ, zero, suc, ◌+◌, ◌-◌, ◌*◌, ◌%◌, ◌<◌, ◌≤◌}
use native.Mathlib.Nat.{add-zero, zero-add, add-suc, suc-add, le_of_suc-le-suc, not-suc-le-zero}
use native.Mathlib.Numerals.{add-one}
use native.Mathlib.Omega.{arith}
use lib.Dec.{ltb}
use lib.ListN.{length, get_or, take, drop, set}
use lib.Seq.{drop-cons, drop-drop, get_or-take, get_or-drop, sets}
use Rattle.std.specs.Simd.{first_chunks}
use lib.Bits.{bit_or, or_lt, or_add_and, and_le_l, and_le_r, or_shifted}
use borrow.Author.Tests.{lt-ltb, le-ltb, ltb-true, ltb-false}
use Rattle.house.specs.Hex.{digit_value, all_digits, bytes_from}

-- the values of `f` from `from` on, `n` of them
abbrev pub tabled : (ℕ → ℕ) → ℕ → ℕ → List ℕ
tabled f from zero = []
tabled f from (suc n) = f from ∷ tabled f (suc from) n

tabled-at : (f : ℕ → ℕ) (n from k : ℕ) → k < n → get_or (tabled f from n) k 0 ≡ f (from + k)
tabled-at f zero from k h = absurd (not-suc-le-zero h)
tabled-at f (suc n) from zero h = ap f (sym (add-zero from))
tabled-at f (suc n) from (suc k) h = tabled-at f n (suc from) k (le_of_suc-le-suc h) ∙ ap f (suc-add from k ∙ sym (add-suc from k))

-- a table of `f` holds `f` of each place
pub table_at : (f : ℕ → ℕ) (n : ℕ) {table : List ℕ} {place k : ℕ} → table ≡ tabled f 0 n → place ≡ k → k < n → get_or table place 0 ≡ f k
table_at f n {k = k} e p h = rw (e, p) (tabled-at f n 0 k h ∙ ap f (zero-add k))

-- the pair of characters at a place
chunk-at : (k i : ℕ) (text none : List ℕ) → i < k → get_or (first_chunks 2 k text) i none ≡ take 2 (drop (2 * i) text)
chunk-at zero i text none h = absurd (not-suc-le-zero h)
chunk-at (suc k) zero text none h = refl
chunk-at (suc k) (suc i) text none h =
    let place : 2 + 2 * i ≡ 2 * suc i = omega arith in
    chunk-at k i (drop 2 text) none (le_of_suc-le-suc h) ∙ ap (take 2) (drop-drop (2 * i) 2 text ∙ ap (λ n. drop n text) place)

pub pair-at : (k i : ℕ) (text none : List ℕ) {pairs : List (List ℕ)} → pairs ≡ first_chunks 2 k text → i < k
    → (get_or (get_or pairs i none) 0 0 ≡ get_or text (2 * i) 0) × (get_or (get_or pairs i none) 1 0 ≡ get_or text (2 * i + 1) 0)
pair-at k i text none e h =
    let pair = ap (λ (l : List (List ℕ)). get_or l i none) e ∙ chunk-at k i text none h in (
      ap (λ (l : List ℕ). get_or l 0 0) pair ∙ get_or-take 2 (drop (2 * i) text) 0 0 (omega arith) ∙ get_or-drop (2 * i) text 0 0
          ∙ ap (λ n. get_or text n 0) (add-zero (2 * i)),
      ap (λ (l : List ℕ). get_or l 1 0) pair ∙ get_or-take 2 (drop (2 * i) text) 1 0 (omega arith) ∙ get_or-drop (2 * i) text 1 0,
    )

-- two more characters of a text, from an even place on
two-more : (text : List ℕ) (i : ℕ) → 2 * i + 1 < length text → drop (2 * i) text ≡ get_or text (2 * i) 0 ∷ get_or text (2 * i + 1) 0 ∷ drop (2 * (i + 1)) text
two-more text i h =
    let first : 2 * i < length text = omega arith in
    let next : suc (2 * i) ≡ 2 * i + 1 = omega arith in
    let last : suc (2 * i + 1) ≡ 2 * (i + 1) = omega arith in
    drop-cons text (2 * i) 0 first
    ∙ ap (λ (rest : List ℕ). get_or text (2 * i) 0 ∷ rest) (ap (λ (k : ℕ). drop k text) next ∙ drop-cons text (2 * i + 1) 0 h ∙ ap (λ (k : ℕ). get_or text (2 * i + 1) 0 ∷ drop k text) last)

or_above : (a b : ℕ) → (a ≤ bit_or a b) × (b ≤ bit_or a b)
or_above a b = omega (arith, or_add_and a b, and_le_l a b, and_le_r a b)

-- values gathered by `|` are all digits' where none brought 16 in
or-small : (a b : ℕ) → ltb (bit_or a b) 16 ≡ (ltb a 16 && ltb b 16)
or-small a b = pick (ltb a 16) (ltb b 16) refl refl
  where
    pick : (s t : Bool) → ltb a 16 ≡ s → ltb b 16 ≡ t → ltb (bit_or a b) 16 ≡ (s && t)
    pick true true p q = lt-ltb _ _ (or_lt 4 a b (ltb-true _ _ p) (ltb-true _ _ q))
    pick true false p q = le-ltb (bit_or a b) 16 (omega (arith, or_above a b, ltb-false b 16 q))
    pick false t p q = le-ltb (bit_or a b) 16 (omega (arith, or_above a b, ltb-false a 16 p))

regroup : (a b c d : Bool) → (((a && b) && c) && d) ≡ (a && (b && (c && d)))
regroup true true c d = refl
regroup true false c d = refl
regroup false b c d = refl

-- a byte is stored: what is left to store, from the next place on, makes the same list
stored : (bytes : List ℕ) (i : ℕ) {value byte : ℕ} {all rest : List ℕ} → value ≡ byte → all ≡ byte ∷ rest → sets (set bytes i value) (i + 1) rest ≡ sets bytes i all
stored bytes i e p = rw (e, p, add-one)

-- a turn of the loop that takes bytes: the values `high` and `low` of two more characters, after those that are `seen`
module _ (text bytes : List ℕ) (i seen high low : ℕ) (within : 2 * i + 1 < length text) (h : high ≡ digit_value (get_or text (2 * i) 0)) (l : low ≡ digit_value (get_or text (2 * i + 1) 0)) where
  pub seen_more : (ltb (bit_or (bit_or seen high) low) 16 && all_digits (drop (2 * (i + 1)) text)) ≡ (ltb seen 16 && all_digits (drop (2 * i) text))
  seen_more =
      ap (λ (small : Bool). small && all_digits (drop (2 * (i + 1)) text)) (or-small (bit_or seen high) low ∙ ap (λ (small : Bool). small && ltb low 16) (or-small seen high))
      ∙ regroup (ltb seen 16) (ltb high 16) (ltb low 16) (all_digits (drop (2 * (i + 1)) text))
      ∙ rw (two-more text i within, h, l)

  pub stored_more : bit_or (bit_or seen high) low < 16 → sets (set bytes i (bit_or (high % 16 * 16) low)) (i + 1) (bytes_from (drop (2 * (i + 1)) text)) ≡ sets bytes i (bytes_from (drop (2 * i) text))
  stored_more small =
      let digits : (high < 16) × (low < 16) = omega (arith, or_above seen high, or_above (bit_or seen high) low) in
      let joined = or_shifted (high % 16) 4 low digits.1 in
      let byte : bit_or (high % 16 * 16) low ≡ high * 16 + low = omega arith in
      stored bytes i (byte ∙ rw (h, l)) (ap bytes_from (two-more text i within))

pub seen-less : (seen high low : ℕ) → bit_or (bit_or seen high) low < 16 → seen < 16
seen-less seen high low small = omega (arith, or_above seen high, or_above (bit_or seen high) low)

pub all_seen : (small : Bool) → small ≡ (small && true)
all_seen true = refl
all_seen false = refl

-- two digits a byte
pub length-bytes : (text : List ℕ) (n : ℕ) → length text ≡ 2 * n → length (bytes_from text) ≡ n
length-bytes [] n e = omega arith
length-bytes (high ∷ []) n e = omega arith
length-bytes (high ∷ low ∷ text) n e =
    let less : length text ≡ 2 * (n - 1) = omega arith in
    let rest = length-bytes text (n - 1) less in
    omega arith
