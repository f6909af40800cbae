-- `Frame::read` meets its contract: the head, the elements.
-- Assumes nothing.
use mathlib.Core.Path.{ap, ◌∙◌}
use Rattle.layout.specs.Frame.{as_reading}
use Rattle.reading.specs.Reads.{bits_in, recorded}
use Rattle.reading.proofs.FillLaws.{left_by}
use Rattle.reading.proofs.Going.{reading-on}
use Rattle.reading.proofs.parts.Frame.read.Goals as goal

pub returns-in_err-at : goal.returns-in_err-at
unfolding as_reading
returns-in_err-at c =
    ap (recorded _) (left_by c.from_residual.result c.from_residual.ensures.1)
    ∙ reading-on c.args.kind (bits_in c.args.self) _ _ c.head.ensures c.in_err-at.was

pub returns : goal.returns
returns c = c.elements.ensures ∙ reading-on c.args.kind (bits_in c.args.self) _ _ c.head.ensures c.in_ok-at.was
