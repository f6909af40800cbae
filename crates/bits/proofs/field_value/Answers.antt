-- `bits::field_value` meets its contract: the law of a field in its bytes, `field-bytes`.
-- Assumes nothing.
use mathlib.Core.Path.{◌≡◌, ap, sym, ◌∙◌}
use Prim.Native.Nat.{ℕ, ◌+◌, ◌-◌, ◌*◌, ◌/◌, ◌%◌, ◌^◌}
use native.Mathlib.Omega.{arith}
use lib.ListN.{take, drop}
use Rattle.bits.specs.Bits.{value, bits_of}
use Rattle.bits.proofs.Windows.{field-bytes}
use Rattle.bits.proofs.field_value.Goals as goal

pub returns-then-width-eq0 : goal.returns-then-width-eq0
unfolding value
returns-then-width-eq0 c = rw c.if-width-eq0.true

pub returns : goal.returns
returns c =
    let a = c.args in
    let from : ℕ = a.at % 8 in
    let count = c.div_ceil-count.result in
    let size : a.at / 8 + count - a.at / 8 ≡ count = omega arith in
    c.low.ensures
    ∙ ap (λ (x : ℕ). x / 2 ^ (8 * count - (from + a.width)) % 2 ^ a.width)
    (c.joined_bytes-whole.ensures ∙ ap (λ (k : ℕ). value (bits_of (take k (drop (a.at / 8) a.frame.now)))) size)
    ∙ sym (field-bytes a.frame.now a.at a.width count (omega (arith, c.div_ceil-count.ensures)) (omega (arith, c.div_ceil-count.ensures)))
