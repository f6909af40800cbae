-- Laws of the heading: when a line has none, what it is where the digits are good, and what it says of the line's length.
use mathlib.Core.Path.{◌≡◌, refl, sym, ap, subst, ◌∙◌}
use mathlib.Core.Bool.{Bool, true, false, cond, ◌&&◌}
use mathlib.Core.List.{List, [], ◌∷◌}
use Prim.Native.Nat.{ℕ, ◌+◌, ◌-◌, ◌*◌, ◌/◌, ◌<◌, ◌≤◌}
use lib.Dec.{leb, eqb, lit<}
use lib.ListN.{length, get_or, take, drop, length-drop, get_or-append}
use lib.Seq.{sets, sets-eq, take_all, take_at, drop-append-le}
use native.Mathlib.Decide.{dec_lt}
use native.Mathlib.Omega.{arith}
use borrow.Author.Tests.{le-leb, lt-leb, ne_eqb, eqb-true}
use Rattle.bits.specs.Bits.{bytes_for}
use Rattle.layout.specs.declared.Kind.{Kind}
use Rattle.layout.specs.declared.UnknownKind.{UnknownKind}
use Rattle.layout.specs.Kinds.{kind_named}
use Rattle.std.specs.Prelude.{Option, Some, None, Result, Ok, Err}
use Rattle.house.specs.Hex.{all_digits, bytes_from}
use Rattle.house.specs.Heading.{bit_count, with_bits, headed, heading_of, part_of, split_of}
use Rattle.house.specs.Unpacked.{Holds, Filled, Unpacked}
use Rattle.house.proofs.Hex.{length-bytes}

both-bad : (t : Bool) → ◌≡◌ {A = Option (Kind × ℕ)} (cond t None None) None
both-bad true = refl
both-bad false = refl

tail-false : (t : Bool) → (t && false) ≡ false
tail-false true = refl
tail-false false = refl

module _ (line : List ℕ) where
  -- a length that no bit count gives
  pub odd-length : ((n : ℕ) → length line ≡ 6 + 2 * n → ⊥) → heading_of line ≡ None
  unfolding heading_of
  odd-length none = simp (ne_eqb _ _ (none (bytes_for (bit_count (bytes_from line))))) (both-bad (all_digits line && leb (length line) 432))

  pub too_long : 432 < length line → heading_of line ≡ None
  unfolding heading_of
  too_long h = simp (lt-leb _ _ h, tail-false)

  pub no-digits : all_digits line ≡ false → heading_of line ≡ None
  unfolding heading_of
  no-digits h = simp h

  all-good : all_digits line ≡ true → length line ≤ 432 → heading_of line ≡ headed (bytes_from line) (length line)
  unfolding heading_of
  all-good h l = simp (h, le-leb _ _ l)

-- a buffer whose front holds `vs`
front_at : (l vs : List ℕ) (k : ℕ) → k < length vs → length vs ≤ length l → get_or (sets l 0 vs) k 0 ≡ get_or vs k 0
front_at l vs k h fits =
    let inside : 0 + length vs ≤ length l = omega arith in
    ap (λ bytes. get_or bytes k 0) (sets-eq vs l 0 inside) ∙ get_or-append vs (drop (0 + length vs) l) 0 k h

-- the heading goes by the first three bytes
headed-same : (bytes others : List ℕ) (digits : ℕ)
    → get_or bytes 0 0 ≡ get_or others 0 0 → get_or bytes 1 0 ≡ get_or others 1 0 → get_or bytes 2 0 ≡ get_or others 2 0 → headed bytes digits ≡ headed others digits
headed-same bytes others digits p q r = rw (p, q, r)

-- a heading's bits are those of the line's length
named-holds : (digits bits : ℕ) (named : Result Kind UnknownKind) → digits ≡ 6 + 2 * bytes_for bits → Holds digits (with_bits named bits)
named-holds digits bits (Ok kind) e = e
named-holds digits bits (Err unknown) e = tt

headed-holds : (bytes : List ℕ) (digits : ℕ) → Holds digits (headed bytes digits)
headed-holds bytes digits = pick (eqb digits (6 + 2 * bytes_for (bit_count bytes))) refl
  where
    pick : (t : Bool) → eqb digits (6 + 2 * bytes_for (bit_count bytes)) ≡ t
        → Holds digits (cond t (with_bits (kind_named (get_or bytes 0 0)) (bit_count bytes)) None)
    pick true e = named-holds digits (bit_count bytes) (kind_named (get_or bytes 0 0)) (eqb-true _ _ e)
    pick false e = tt

heading-holds : (line : List ℕ) → Holds (length line) (heading_of line)
unfolding heading_of
heading-holds line = pick (all_digits line && leb (length line) 432)
  where
    pick : (t : Bool) → Holds (length line) (cond t (headed (bytes_from line) (length line)) None)
    pick true = headed-holds (bytes_from line) (length line)
    pick false = tt

filled : (line before after : List ℕ) (heading : Option (Kind × ℕ)) → after ≡ sets before 0 (bytes_from line) → length line ≤ 432 → Filled line before after heading
filled line before after (Some heading) e l = (e, l)
filled line before after None e l = tt

-- a good line whose bytes are in the buffer has the heading that the buffer's front names
module _ (line before after : List ℕ) (n : ℕ) (good : all_digits line ≡ true)
    (least : 6 ≤ length line) (most : length line ≤ 432) (even : length line ≡ 2 * n)
    (room : length before ≡ 216) (stored : after ≡ sets before 0 (bytes_from line)) where
  same : (k : ℕ) → k < 3 → get_or after k 0 ≡ get_or (bytes_from line) k 0
  same k h =
      let count = length-bytes line n even in
      let inside : k < length (bytes_from line) = omega arith in
      let fits : length (bytes_from line) ≤ length before = omega arith in
      ap (λ bytes. get_or bytes k 0) stored ∙ front_at before (bytes_from line) k inside fits

  pub unpacked : (heading : Option (Kind × ℕ)) → heading ≡ headed after (length line) → Unpacked line before after heading
  unpacked heading e =
      record {
        named = e ∙ headed-same after (bytes_from line) (length line) (same 0 (lit< tt)) (same 1 (lit< tt)) (same 2 (lit< tt))
            ∙ sym (all-good line good most);
        holds = subst (Holds (length line)) (sym e) (headed-holds after (length line));
        filled = filled line before after heading stored most;
      }

module _ (line : List ℕ) (heading : Kind × ℕ) (known : heading_of line ≡ Some heading) where
  -- a line with a heading is long enough for it
  pub long-enough : 6 ≤ length line
  long-enough =
      let holds : length line ≡ 6 + 2 * bytes_for heading.1 = subst (Holds (length line)) known (heading-holds line) in
      omega arith

  -- and short enough: its frame has no more than 1704 bits
  pub few_bits : heading.1 ≤ 1704
  few_bits = go (dec_lt 432 (length line))
    where
      holds : length line ≡ 6 + 2 * bytes_for heading.1
      holds = subst (Holds (length line)) known (heading-holds line)

      go : Dec (432 < length line) → heading.1 ≤ 1704
      go (yes long) =
          let bad : ◌≡◌ {A = Option (Kind × ℕ)} None (Some heading) = sym (too_long line long) ∙ known in
          let z : ◌≡◌ {A = ℕ} 0 1 = cc in absurd (omega arith)
      go (no short) = omega (arith, holds)

  pub split-frame : take (length line - 6) (drop 6 line) ≡ split_of line
  unfolding split_of
  split-frame = rw known (take_all (length line - 6) (drop 6 line) (simp length-drop (omega arith)))

-- a line with no heading: nothing more is told of it
pub not-named : {line before after : List ℕ} → heading_of line ≡ None → Unpacked line before after None
not-named e = record { named = sym e; holds = tt; filled = tt }

pub split-bad : (line : List ℕ) → heading_of line ≡ None → [] ≡ split_of line
unfolding split_of
split-bad line known = rw known

bytes_after : (line : List ℕ) → bytes_from (drop 6 line) ≡ drop 3 (bytes_from line)
bytes_after (a ∷ b ∷ c ∷ d ∷ e ∷ f ∷ line) = refl
bytes_after (a ∷ b ∷ c ∷ d ∷ e ∷ []) = refl
bytes_after (a ∷ b ∷ c ∷ d ∷ []) = refl
bytes_after (a ∷ b ∷ c ∷ []) = refl
bytes_after (a ∷ b ∷ []) = refl
bytes_after (a ∷ []) = refl
bytes_after [] = refl

-- the frame's bytes stand in the buffer behind the heading's three
module _ (line before after : List ℕ) (heading : Kind × ℕ) (room : length before ≡ 216) (unpacking : Unpacked line before after (Some heading)) where
  pub frame-bytes : take (length line / 2 - 3) (drop 3 after) ≡ bytes_from (split_of line)
  unfolding split_of
  frame-bytes =
      let known = unpacking.named in
      let fits = unpacking.holds in
      let most = unpacking.filled.1 in
      let even : length line ≡ 2 * (length line / 2) = omega arith in
      let count : length (bytes_from line) ≡ length line / 2 = length-bytes line (length line / 2) even in
      let inside : 0 + length (bytes_from line) ≤ length before = omega arith in
      let three : 3 ≤ length (bytes_from line) = omega arith in
      let rest = drop (0 + length (bytes_from line)) before in
      let long : length (drop 3 (bytes_from line)) ≡ length line / 2 - 3 = length-drop 3 (bytes_from line) ∙ ap (λ n. n - 3) count in
      ap (λ bytes. take (length line / 2 - 3) (drop 3 bytes)) (unpacking.filled.0 ∙ sets-eq (bytes_from line) before 0 inside)
      ∙ ap (take (length line / 2 - 3)) (drop-append-le 3 (bytes_from line) rest three)
      ∙ take_at (drop 3 (bytes_from line)) rest (length line / 2 - 3) long
      ∙ sym (bytes_after line)
      ∙ ap (λ named. bytes_from (part_of named line)) known
