-- Laws of the loop that reads digits.
use mathlib.Core.Path.{◌≡◌, refl, sym, ap, ◌∙◌}
use mathlib.Core.Bool.{Bool, true, false, cond}
use mathlib.Core.List.{List, ◌∷◌}
use Prim.Native.Nat.{ℕ, ◌+◌, ◌-◌, ◌*◌, ◌%◌, ◌^◌, ◌≤◌, ◌<◌}
use native.Mathlib.Omega.{arith}
use lib.Bits.{bit_or, or_shifted}
use lib.ListN.{length, get_or, take, drop, drop_of_length-le, length-drop}
use lib.Pow.{pow_mono, pow-add}
use lib.Seq.{slice, take_all, length-slice}
use borrow.Author.Tests.{le-leb, ltb-true}
use Rattle.std.specs.Prelude.{Some, None}
use Rattle.std.specs.List.{slice_range}
use Rattle.std.proofs.lemmas.List.{drop-take}
use Rattle.std.proofs.lemmas.Option.{cond_some, none-some}
use Rattle.house.specs.Hex.{digit_value}
use Rattle.order.proofs.Walks.{rest-cons}
use Rattle.words.specs.Words.{digit_at, word_of, enough_at, digits_at}

-- i digits of a word's text are read and make `value`: the rest makes behind them what the whole word makes
pub record Read (line : List ℕ) (at width : ℕ) (text : List ℕ) (value i : ℕ) : Type 0 where
  pub few : width ≤ 16
  pub whole : length text ≡ width
  pub small : value < 2 ^ (4 * i)
  pub makes : word_of value (drop i text) (at + width) ≡ digits_at line at width

-- the text is what stands in the line from `at` on
pub read-start : (line : List ℕ) (at width : ℕ) (rest text : List ℕ) → width ≤ 16 → rest ≡ slice_range line at (length line) → width ≤ length rest
    → length rest + at ≡ length line → text ≡ slice_range rest 0 width → Read line at width text 0 0
unfolding digits_at enough_at
read-start line at width rest text few r long inside t =
    let behind : rest ≡ drop at line = r ∙ take_all (length line - at) (drop at line) (omega (arith, length-drop at line)) in
    let none : width - 0 ≡ width = omega arith in
    let is : text ≡ slice at (at + width) line = t ∙ ap (λ (n : ℕ). take n rest) none ∙ ap (take width) behind ∙ sym (drop-take at width line) in
    record {
      few = few;
      whole = ap length is ∙ length-slice at (at + width) line (omega arith) ∙ omega arith;
      small = omega arith;
      makes = rw (is, le-leb width 16 few, le-leb (at + width) (length line) (omega arith)) refl;
    }

digit-none : (b : Bool) (v : ℕ) → None ≡ cond b (Some v) None → b ≡ false
digit-none true v e = absurd (none-some v e)
digit-none false v e = refl

module _ {line : List ℕ} {at width : ℕ} {text : List ℕ} {value i : ℕ} (read : Read line at width text value i) where
  -- the last is read
  pub read_all : length text ≤ i → Some (record { value = value; next = at + width }) ≡ digits_at line at width
  read_all h = rw (drop_of_length-le text {i = i} h) at read.makes

  -- a turn: the next character
  module _ (inside : i < length text) where
    rest : drop i text ≡ get_or text i 0 ∷ drop (i + 1) text
    rest = rest-cons text i 0 inside

    pub read-bad : None ≡ digit_at (get_or text i 0) → None ≡ digits_at line at width
    read-bad e = rw (rest, digit-none _ _ e) at read.makes

    pub read_more : {digit : ℕ} → Some digit ≡ digit_at (get_or text i 0)
        → Read line at width text (bit_or (value * 16 % 18446744073709551616) digit) (i + 1)
    read_more {digit} e =
        let is = cond_some _ _ digit (sym e) in
        let below : digit < 16 = omega (arith, is.1, ltb-true (digit_value (get_or text i 0)) 16 is.0) in
        let most = pow_mono {i = 4 * i} {j = 60} (omega (arith, read.few, read.whole)) in
        let kept : value * 16 % 18446744073709551616 ≡ value * 16 = omega (arith, read.small, most) in
        let more : bit_or (value * 16 % 18446744073709551616) digit ≡ value * 16 + digit = ap (λ n. bit_or n digit) kept ∙ or_shifted value 4 digit below in
        let bits : 4 * (i + 1) ≡ 4 * i + 4 = omega arith in
        record {
          few = read.few;
          whole = read.whole;
          small = rw (more, bits, pow-add 2 (4 * i) 4) (omega (arith, read.small));
          makes = rw (more, sym is.1) (rw (rest, is.0) at read.makes);
        }
