-- `text::pieces::put_digits` meets its contract. The invariant: the digits that are left make the whole text.
use mathlib.Core.Path.{◌≡◌, ap, ◌∙◌}
use Prim.Native.Nat.{suc, ◌-◌, ◌%◌}
use native.Mathlib.Omega.{arith}
use Rattle.house.specs.Hex.{digit_of}
use Rattle.text.proofs.Puts.{digit-turn, length_digits}
use Rattle.text.proofs.pieces.put_digits.Goals as goal

pub loop-i-preserved : goal.loop-i-preserved
loop-i-preserved c =
    let l = c.loop-i in
    let e : l.i ≡ suc (l.i - 1) = omega arith in
    let low : l.rest % 16 % 16 ≡ l.rest % 16 = omega arith in
    digit-turn l.out c.args.at (l.i - 1) l.rest _ (c.digit_of.ensures ∙ ap digit_of low) ∙ rw e at l.invariant

pub returns : goal.returns
returns c =
    let a = c.args in
    let e : c.loop-i.i ≡ 0 = omega arith in
    record { ends = omega (arith, length_digits a.value a.width); stored = rw e at c.loop-i.invariant }
