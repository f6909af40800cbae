-- `bits::put_field` meets its contract: once the bytes that the field lies in are laid anew, the bits are those of `put_at`, and bytes are told by their bits.
-- Assumes nothing.
use mathlib.Core.Path.{◌≡◌, ap, sym, ◌∙◌}
use Prim.Native.Nat.{ℕ, ◌+◌, ◌-◌, ◌/◌}
use mathlib.Core.List.{[], ◌++◌}
use native.Mathlib.Omega.{arith}
use lib.ListN.{length, take, drop, length-drop}
use lib.Seq.{paste-zero, length-take-le}
use Rattle.bits.specs.Bits.{digits, bits_of}
use Rattle.bits.proofs.Laws.{put-wide, put-past}
use Rattle.bits.specs.Window.{bytes_in}
use Rattle.bits.proofs.Windows.{put-told, put-laid, laid-part}
use Rattle.bits.proofs.put_field.Goals as goal

pub returns-then-width-gt32 : goal.returns-then-width-gt32
returns-then-width-gt32 c = sym (put-wide _ _ _ _ (omega arith))

pub returns-then-out-first : goal.returns-then-out-first
returns-then-out-first c = sym (put-past _ _ _ _ (omega arith))

pub returns-then-width-eq0 : goal.returns-then-width-eq0
unfolding digits
returns-then-width-eq0 c =
    let a = c.args in
    let out = a.out.now in
    let none : 0 ≡ a.width = omega arith in
    put-told out out a.at a.width a.value (omega arith) (omega arith) (λ i. (c.type_inv.out i).fits)
    (paste-zero (bits_of out) a.at [] ∙ ap (λ (w : ℕ). take a.at (bits_of out) ++ digits w a.value ++ drop (a.at + w) (bits_of out)) none)

pub returns : goal.returns
returns c =
    let a = c.args in
    let out = a.out.now in
    let first : ℕ = a.at / 8 in
    let count = c.div_ceil-count.result in
    let size : first + count - first ≡ count = omega arith in
    let part : length (take (first + count - first) (drop first out)) ≡ count =
    ap (λ (k : ℕ). length (take k (drop first out))) size ∙ length-take-le count (drop first out) (omega (arith, length-drop first out)) in
    put-laid out _ a.at a.width a.value count (omega arith) (omega arith) (omega (arith, c.div_ceil-count.ensures)) (λ i. (c.type_inv.out i).fits) c.div_ceil-count.ensures
    c.joined-number.result c.joined-number.ensures
    (laid-part out c.lay_number.new.bytes first (first + count - first) count c.joined-number.result size
    (c.lay_number.ensures ∙ ap (λ (k : ℕ). bytes_in k c.joined-number.result) part))
