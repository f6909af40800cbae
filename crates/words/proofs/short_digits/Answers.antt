-- `words::short_digits` meets its contract: what has at most 8 digits fits 32 bits.
use native.Mathlib.Omega.{arith}
use Rattle.words.proofs.Short.{digits-small}
use Rattle.words.proofs.short_digits.Goals as goal

pub overflow_cast-result : goal.overflow_cast-result
overflow_cast-result c =
    let small = digits-small c.args.line.now c.args.at c.args.width _ c.requires c.in_ok-taken.ensures in
    omega arith
