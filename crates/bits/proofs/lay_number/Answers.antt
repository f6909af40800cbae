-- `bits::lay_number` meets its contract: the law of one byte laid, `lay-turn`.
-- Assumes nothing.
use mathlib.Core.Path.{◌≡◌, ap, ◌∙◌}
use mathlib.Core.List.{List, append-nil, ◌++◌}
use Prim.Native.Nat.{ℕ, suc, ◌-◌}
use native.Mathlib.Omega.{arith}
use lib.ListN.{length, drop, drop_of_length-le}
use Rattle.bits.specs.Window.{bytes_in}
use Rattle.bits.proofs.Windows.{lay-turn}
use Rattle.bits.proofs.lay_number.Goals as goal

pub loop-i-init : goal.loop-i-init
loop-i-init c =
    let b = c.args.bytes.now in
    ap (λ (l : List ℕ). bytes_in (length b) c.args.number ++ l) (drop_of_length-le b {i = length b} (omega arith)) ∙ append-nil (bytes_in (length b) c.args.number)

pub loop-i-preserved : goal.loop-i-preserved
loop-i-preserved c =
    let i = c.loop-i.i in
    let some : suc (i - 1) ≡ i = omega arith in
    lay-turn c.loop-i.bytes (i - 1) c.loop-i.rest (omega arith)
    ∙ ap (λ (k : ℕ). bytes_in k c.loop-i.rest ++ drop k c.loop-i.bytes) some
    ∙ c.loop-i.invariant

pub returns : goal.returns
unfolding bytes_in
returns c =
    let none : 0 ≡ c.loop-i.i = omega arith in
    ap (λ (k : ℕ). bytes_in k c.loop-i.rest ++ drop k c.loop-i.bytes) none ∙ c.loop-i.invariant
