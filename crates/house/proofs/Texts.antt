-- Laws of the text that goes out, and its length.
use mathlib.Core.Path.{◌≡◌, refl, sym, ap, ◌∙◌, subst}
use mathlib.Core.List.{List, [], ◌∷◌, ◌++◌, append_assoc}
use Prim.Native.Nat.{ℕ, zero, suc, ◌+◌, ◌*◌, ◌≤◌, min}
use native.Mathlib.Nat.{zero-add, zero-min, suc-min-suc, min-le_right}
use native.Mathlib.Omega.{arith}
use lib.ListN.{length, get_or, set, take, drop, length-take, take-append-drop}
use lib.Seq.{sets, sets-eq, drop-append-le, length-take-le, take-nil}
use borrow.Author.Tests.{le-leb}
use Rattle.std.specs.Array.{IsFirstChunk}
use Rattle.bits.specs.Bits.{bytes_for}
use Rattle.refusal.specs.declared.Refusal.{Refusal}
use Rattle.layout.specs.declared.Kind.{Kind}
use Rattle.refusal.specs.Reply.{refused, PutsRefusal}
use Rattle.layout.specs.Kinds.{kind_number}
use Rattle.house.specs.Hex.{digits_of}
use Rattle.house.specs.Echo.{two_bytes, within, taken}
use Rattle.house.specs.Sent.{Sent}

pub length_digits : (bytes : List ℕ) → length (digits_of bytes) ≡ 2 * length bytes
length_digits [] = refl
length_digits (byte ∷ bytes) = let rest = length_digits bytes in omega arith

pub sent : {text same before after : List ℕ} {count : ℕ} → text ≡ same → Sent same before after count → Sent text before after count
sent {text} {same} {before} {after} {count} e s = subst (λ t. Sent t before after count) (sym e) s

-- a text at the front of the first 433 bytes of a buffer is at the front of the buffer
pub sent-front : {text before front after : List ℕ} {count : ℕ} → IsFirstChunk before front 433 → Sent text front after count
    → Sent (within (length before) text) before (after ++ drop 433 before) count
sent-front {text} {before} {front} {after} chunk s =
    let room : 433 ≤ length before = chunk.enough in
    let size : length (take 433 before) ≡ 433 = length-take-le 433 before room in
    let fits : 0 + length text ≤ length (take 433 before) = omega (arith, s.counted, s.short) in
    let rest : drop (length text) (take 433 before) ++ drop 433 before ≡ drop (length text) before =
    sym (drop-append-le (length text) (take 433 before) (drop 433 before) (omega arith)) ∙ ap (drop (length text)) (take-append-drop 433 before) in
    let laid : after ≡ text ++ drop (length text) (take 433 before) =
    s.stored ∙ ap (λ l. sets l 0 text) chunk.same ∙ rw (zero-add) at (sets-eq text (take 433 before) 0 fits) in
    let whole : within (length before) text ≡ text = rw (le-leb _ _ room) in
    record {
      counted = rw whole s.counted;
      stored = rw (whole, laid, append_assoc, rest) (sym (rw (zero-add) at (sets-eq text before 0 (omega arith))));
      short = s.short;
    }

-- a refusal that was put, where there was room
pub told : {refusal : Refusal} {before after : List ℕ} {count : ℕ} → 433 ≤ length before → PutsRefusal refusal before after count
    → Sent (refused refusal) before after count
told {refusal} {before} room p =
    let space : 3 ≤ length before = omega arith in
    record { counted = rw (le-leb _ _ space) at p.counted; stored = rw (le-leb _ _ space) at p.stored; short = omega (arith, p.short) }

-- as many bytes as there are, where more are asked for
pub take-least : (bytes : List ℕ) (n : ℕ) → take (min n (length bytes)) bytes ≡ take n bytes
take-least [] n = take-nil (min n 0) ∙ sym (take-nil n)
take-least (byte ∷ bytes) zero = ap (λ n. take n (byte ∷ bytes)) (zero-min (length (byte ∷ bytes)))
take-least (byte ∷ bytes) (suc n) =
    ap (λ n. take n (byte ∷ bytes)) (suc-min-suc n (length bytes)) ∙ ap (λ (rest : List ℕ). byte ∷ rest) (take-least bytes n)

-- the reply of a frame, put in three steps: A, the heading, the frame's bytes
module _ (out out₁ out₂ bytes : List ℕ) (kind : Kind) (k bits most count : ℕ) (two : List ℕ)
    (named : k ≡ kind_number kind) (halves : two ≡ two_bytes bits) (all : most ≡ bytes_for bits) (least : count ≡ min most 213) (room : length bytes ≡ 213)
    (first : out₁ ≡ sets (set out 0 65) 1 (digits_of (k ∷ get_or two 0 0 ∷ get_or two 1 0 ∷ [])))
    (then : out₂ ≡ sets out₁ 7 (digits_of (take count bytes))) where
  held : count ≡ min (bytes_for bits) (length bytes)
  held = rw (least, all, room)

  frame : take count bytes ≡ take (bytes_for bits) bytes
  frame = ap (λ n. take n bytes) held ∙ take-least bytes (bytes_for bits)

  pub accepted : Sent (taken kind bits (take (bytes_for bits) bytes)) out out₂ (7 + 2 * count)
  accepted =
      let long : length (take (bytes_for bits) bytes) ≡ count = length-take (bytes_for bits) bytes ∙ sym held in
      record {
        counted = omega (arith, length_digits (take (bytes_for bits) bytes));
        stored = rw (then, first, frame, named, halves);
        short = omega (arith, min-le_right most 213);
      }
