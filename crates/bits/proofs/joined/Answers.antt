-- `bits::joined` meets its contract: 7, 32 and 7 bits are far from wrapping.
-- Assumes nothing.
use mathlib.Core.Path.{ap, sym, ◌∙◌}
use Prim.Native.Nat.{ℕ, ◌+◌, ◌-◌, ◌*◌, ◌/◌, ◌%◌, ◌^◌, ◌≤◌, ◌<◌}
use native.Mathlib.Nat.{mod-lt, div-le_self, mul-le-mul}
use native.Mathlib.Omega.{arith}
use lib.Pow.{pow_pos, pow_mono}
use Rattle.bits.proofs.Windows.{joined-value}
use Rattle.bits.proofs.joined.Goals as goal

-- the bits before the field, shifted past it
before-le : (first from width : ℕ) → first < 256 → width ≤ 32 → first / 2 ^ (8 - from) * 2 ^ width ≤ 2 ^ 40
before-le first from width h k =
    let byte : first / 2 ^ (8 - from) ≤ 256 = omega (arith, div-le_self first (2 ^ (8 - from))) in
    omega (arith, mul-le-mul byte (pow_mono {i = width} {j = 32} k))

pub join-requires : goal.join-requires
join-requires c = (omega arith, omega (arith, before-le c.args.first c.args.from c.args.width (omega arith) (omega arith)))

pub join-requires-2 : goal.join-requires-2
join-requires-2 c =
    let a = c.args in
    let first : c.join.result ≤ 2 ^ 41 =
    omega (
      arith,
      c.join.ensures,
      before-le a.first a.from a.width (omega arith) (omega arith),
      mod-lt a.value
          (pow_pos a.width),
      pow_mono {i = a.width} {j = 32} (omega arith),
    ) in
    (omega arith, omega (arith, mul-le-mul first (pow_mono {i = a.after} {j = 8} (omega arith))))

pub returns : goal.returns
returns c =
    let a = c.args in
    c.join-2.ensures
    ∙ ap (λ (x : ℕ). x * 2 ^ a.after + a.last % 2 ^ a.after) c.join.ensures
    ∙ sym (joined-value a.first a.from a.value a.width a.last a.after (omega arith) (omega arith))
