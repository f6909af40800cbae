-- `reading::read_frame` meets its contract: the bit count against the lent bits, then the frame.
-- Assumes nothing.
use mathlib.Core.Path.{ap, sym, ◌∙◌}
use native.Mathlib.Omega.{arith}
use Rattle.std.specs.Prelude.{Err}
use Rattle.layout.specs.Frame.{as_reading}
use Rattle.reading.specs.Reads.{recorded}
use Rattle.reading.proofs.FillLaws.{left_by}
use Rattle.reading.proofs.Going.{reading-lent, reading-enough}
use Rattle.reading.proofs.read_frame.Goals as goal

pub returns-then-frame-div_ceil : goal.returns-then-frame-div_ceil
unfolding as_reading
returns-then-frame-div_ceil c =
    ap Err c.refused.ensures ∙ reading-lent c.args.kind c.args.frame.now c.args.bits (omega arith)

pub returns-in_err-read : goal.returns-in_err-read
returns-in_err-read c =
    left_by c.from_residual.result c.from_residual.ensures.1
    ∙ sym (ap (recorded c.read.new.into.values) c.in_err-read.was)
    ∙ c.read.ensures ∙ reading-enough c.args.kind c.args.frame.now c.args.bits (omega arith)

pub returns : goal.returns
returns c =
    sym (ap (recorded c.read.new.into.values) c.in_ok-read.was)
    ∙ c.read.ensures ∙ reading-enough c.args.kind c.args.frame.now c.args.bits (omega arith)
