-- `refusal::RefusalDisplay::fmt` writes the number's digits.
use mathlib.Core.Path.{subst}
use Prim.Native.Nat.{ℕ}
use native.Mathlib.Omega.{arith}
use Rattle.std.specs.Fmt.{HasWritten, decimal}
use Rattle.refusal.proofs.RefusalDisplay.fmt.Goals as goal

pub returns-clause-writes : goal.returns-clause-writes
returns-clause-writes g c = λ plain ok.
    subst (λ (n : ℕ). HasWritten g.W.Write.write_str_gives c.args.f.now (decimal n) c.write.new.self)
    (omega (arith, c.from.ensures)) (c.write.ensures.writes plain ok)
