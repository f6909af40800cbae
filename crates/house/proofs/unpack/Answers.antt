-- `house::unpack` meets its contract: each way out is a law of `Headings`.
use mathlib.Core.Path.{sym, ap, subst, ◌∙◌}
use Prim.Native.Nat.{◌/◌}
use native.Mathlib.Omega.{arith}
use lib.ListN.{length}
use Rattle.std.specs.Prelude.{is_some}
use Rattle.house.specs.Unpacked.{Unpacked}
use Rattle.house.proofs.Headings.{odd-length, too_long, no-digits, not-named, unpacked}
use Rattle.house.proofs.unpack.Goals.{then-digits-lt6-via-then-digits-lt6, then-digits-lt6-via-else-digits-lt6+then-digits-gt-LINE_DIGITS}
use Rattle.house.proofs.unpack.Goals.{then-digits-lt6-via-else-digits-lt6+else-digits-gt-LINE_DIGITS+then-digits-eq1}
use Rattle.house.proofs.unpack.Goals as goal

pub returns-then-digits-lt6 : goal.returns-then-digits-lt6
returns-then-digits-lt6 c =
    elim c.then-digits-lt6.branch [
      | then-digits-lt6-via-then-digits-lt6 w ↦ not-named (odd-length c.args.line.now (λ n e. omega arith))
      | then-digits-lt6-via-else-digits-lt6+then-digits-gt-LINE_DIGITS w ↦ not-named (too_long c.args.line.now (omega arith))
      | then-digits-lt6-via-else-digits-lt6+else-digits-gt-LINE_DIGITS+then-digits-eq1 w ↦ not-named (odd-length c.args.line.now (λ n e. omega arith))
    ]

pub returns-in_err-take_bytes : goal.returns-in_err-take_bytes
returns-in_err-take_bytes c =
    let bad = no-digits c.args.line.now (sym c.take_bytes.ensures.good ∙ ap is_some c.in_err-take_bytes.was) in
    subst (Unpacked c.args.line.now c.args.bytes.now c.take_bytes.new.bytes) (sym c.from_residual.ensures) (not-named bad)

pub returns : goal.returns
returns c =
    let line = c.args.line.now in
    let good = sym c.take_bytes.ensures.good ∙ ap is_some c.in_ok-take_bytes.was in
    unpacked line c.args.bytes.now c.take_bytes.new.bytes (length line / 2) good
    (omega arith) (omega arith) (omega arith) (omega arith) c.in_ok-take_bytes.ensures.stored c.heading_of.result c.heading_of.ensures
