-- `bits::Reader::take` meets its contract: each of its tests is a case of `field_at`.
-- Assumes nothing.
use mathlib.Core.Path.{ap, sym, ◌∙◌}
use Prim.Native.Nat.{◌+◌, ◌≤◌}
use native.Mathlib.Omega.{arith}
use Rattle.std.specs.Prelude.{Some}
use Rattle.bits.specs.Bits.{bits_of, value}
use Rattle.bits.proofs.Laws.{field-short, field_cut, field-wide, field-value}
use Rattle.bits.proofs.Windows.{part-of-take}
use Rattle.bits.proofs.Reader.take.Goals as goal

pub returns-then-frame-div_ceil : goal.returns-then-frame-div_ceil
returns-then-frame-div_ceil c = sym (field-short _ _ _ _ (omega arith))

pub returns-then-bits-at : goal.returns-then-bits-at
returns-then-bits-at c = sym (field_cut _ _ _ _ (omega arith))

pub returns-then-bits-at-2 : goal.returns-then-bits-at-2
returns-then-bits-at-2 c = sym (field_cut _ _ _ _ (omega arith))

pub returns-then-width-gt32 : goal.returns-then-width-gt32
returns-then-width-gt32 c = sym (field-wide _ _ _ _ (omega arith))

pub returns : goal.returns
returns c =
    let r = c.args.self in
    let w = c.args.width in
    let inside : r.at + w ≤ r.bits = omega arith in
    ap Some (c.field_value.ensures ∙ ap value (sym (part-of-take r.at w r.bits (bits_of r.frame.now) inside)))
    ∙ sym (field-value r.frame.now r.bits r.at w (omega arith) inside (omega arith))
