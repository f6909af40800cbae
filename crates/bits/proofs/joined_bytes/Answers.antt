-- `bits::joined_bytes` meets its contract: the law of one byte more, `value-more`.
-- Assumes nothing.
use mathlib.Core.Path.{refl}
use mathlib.Core.List.{List}
use Prim.Native.Nat.{ℕ, ◌*◌, ◌^◌, ◌<◌}
use native.Mathlib.Omega.{arith}
use lib.ListN.{take}
use lib.Pow.{pow_mono}
use Rattle.bits.specs.Bits.{value, bits_of}
use Rattle.bits.proofs.Windows.{value-lt-first, value-more}
use Rattle.bits.proofs.joined_bytes.Goals as goal

-- the number so far leaves room for a byte
small : (bytes : List ℕ) (j : ℕ) → j < 5 → value (bits_of (take j bytes)) < 2 ^ 32
small bytes j few = omega (arith, value-lt-first bytes j, pow_mono {i = 8 * j} {j = 32} (omega arith))

pub loop-byte-init : goal.loop-byte-init
unfolding value bits_of
loop-byte-init c = refl

pub overflow_mul-number : goal.overflow_mul-number
overflow_mul-number c = omega (arith, c.loop-byte.invariant, small c.args.bytes.now c.loop-byte.byte-index (omega arith))

pub overflow_add-number : goal.overflow_add-number
overflow_add-number c =
    let j = c.loop-byte.byte-index in
    omega (arith, c.loop-byte.invariant, small c.args.bytes.now j (omega arith), c.from.ensures, c.type_inv.bytes j)

pub loop-byte-preserved : goal.loop-byte-preserved
loop-byte-preserved c =
    let j = c.loop-byte.byte-index in
    omega (arith, c.loop-byte.invariant, c.from.ensures, value-more c.args.bytes.now j (omega arith) (omega (arith, c.type_inv.bytes j)))
