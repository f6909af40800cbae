-- `Frame::identity` meets its contract: the form, then what follows it.
-- Assumes nothing.
use Rattle.reading.proofs.FillLaws.{left_by, fills-then, fills-stop}
use Rattle.reading.proofs.parts.Frame.identity.Goals as goal

pub returns-in_err-next : goal.returns-in_err-next
returns-in_err-next c = fills-stop c.field.ensures _ c.in_err-next.was (left_by c.from_residual.result c.from_residual.ensures.1)

pub returns : goal.returns
returns c = fills-then c.field.ensures c.in_ok-next.was c.after_form.ensures
