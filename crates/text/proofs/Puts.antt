-- Laws of text that is put into a buffer: a text behind another, digits from the last to the first, the reply as a whole.
use mathlib.Core.Path.{◌≡◌, refl, sym, ap, ◌∙◌, subst}
use mathlib.Core.List.{List, [], ◌∷◌, ◌++◌, append_assoc}
use Prim.Native.Nat.{ℕ, zero, suc, ◌+◌, ◌-◌, ◌/◌, ◌%◌, ◌≤◌}
use native.Mathlib.Nat.{add-zero, zero-add}
use native.Mathlib.Omega.{arith}
use lib.ListN.{length, set, length-append}
use lib.Seq.{sets, sets-eq, set_comm, drop-drop}
use borrow.Rule.Slice.PartMut.{put_mid}
use borrow.Author.Tests.{le-leb}
use Rattle.house.specs.Hex.{digit_of}
use Rattle.text.specs.Digits.{digits_text}
use Rattle.text.specs.Put.{Put, Replied, longest, within}

-- a text of two parts is stored part by part
pub sets-append : (xs l : List ℕ) (at : ℕ) (ys : List ℕ) → sets l at (xs ++ ys) ≡ sets (sets l at xs) (at + length xs) ys
sets-append [] l at ys = ap (λ k. sets l k ys) (sym (add-zero at))
sets-append (x ∷ xs) l at ys =
    let place : suc at + length xs ≡ at + length (x ∷ xs) = omega arith in
    sets-append xs (set l at x) (suc at) ys ∙ ap (λ k. sets (sets (set l at x) (suc at) xs) k ys) place

-- the same text, said otherwise
pub put_as : {text same before after : List ℕ} {at next : ℕ} → text ≡ same → Put same before after at next → Put text before after at next
put_as {before = before} {after = after} {at = at} {next = next} e p = subst (λ t. Put t before after at next) (sym e) p

-- a text put behind another
pub put_then : {text more before middle after : List ℕ} {at next end : ℕ}
    → Put text before middle at next → Put more middle after next end → Put (text ++ more) before after at end
put_then {text} {more} {before} {at = at} p q = record {
  ends = omega (arith, p.ends, q.ends, length-append text more);
  stored = q.stored ∙ rw (p.stored, p.ends) (sym (sets-append text before at more));
}

-- what stands behind a text may be stored before it
set-behind : (xs l : List ℕ) (at place x : ℕ) → at + length xs ≤ place → sets (set l place x) at xs ≡ set (sets l at xs) place x
set-behind [] l at place x h = refl
set-behind (y ∷ xs) l at place x h =
    rw (set_comm l place at x y (λ e. omega (arith, e))) (set-behind xs (set l at y) (suc at) place x (omega arith))

pub length_digits : (value width : ℕ) → length (digits_text value width) ≡ width
length_digits value zero = refl
length_digits value (suc width) =
    let rest = length_digits (value / 16) width in
    omega (arith, length-append (digits_text (value / 16) width) (digit_of (value % 16) ∷ []))

-- the last of the digits is stored: those that are left make the same text
pub digit-turn : (out : List ℕ) (at i rest x : ℕ) → x ≡ digit_of (rest % 16)
    → sets (set out (at + i) x) at (digits_text (rest / 16) i) ≡ sets out at (digits_text rest (suc i))
digit-turn out at i rest x e =
    let size = length_digits (rest / 16) i in
    set-behind (digits_text (rest / 16) i) out at (at + i) x (omega arith)
    ∙ sym (sets-append (digits_text (rest / 16) i) out at (digit_of (rest % 16) ∷ []) ∙ rw (size, ← e))

-- a part of the buffer is the text
pub text-put : (out text part : List ℕ) (at : ℕ) → at + length text ≤ length out → part ≡ text
    → Put text out (put_mid at (at + length text - at) out part) at (at + length text)
text-put out text part at fits e =
    let long : at + length text - at ≡ length text = omega arith in
    record { ends = refl; stored = rw (long, e, sets-eq text out at fits, ← append_assoc, drop-drop) }

-- the reply, where there is room for the longest
pub replied : {text same before after : List ℕ} {count : ℕ} → text ≡ same → longest ≤ length before
    → (count ≤ longest) × Put same before after 0 count → Replied text before after count
replied {text} {same} {before} e room (short, p) =
    let whole : within (length before) text ≡ same = rw (le-leb _ _ room) e in
    let fits : 0 + length same ≤ length before = omega (arith, p.ends) in
    record { counted = rw whole (omega (arith, p.ends)); laid = rw whole (p.stored ∙ rw zero-add at (sets-eq same before 0 fits)); short = short }
