-- `writing::walk::Walk::identity` meets its contract: the form, then what follows it.
-- Assumes nothing.
use Rattle.std.proofs.Common.{refl, arith}
use Rattle.writing.proofs.Parts.{goes_on, goes-off, field-then, field-stop}
use Rattle.writing.proofs.walk.Walk.identity.Goals as goal

pub returns-clause-writes : goal.returns-clause-writes
returns-clause-writes g c =
    field-then c.field.ensures.passes (omega (arith, c.requires.room)) refl refl (goes_on c.in_ok-field.was)
    (rw c.field.ensures.stays.0 at c.form.ensures.writes)

pub returns-in_err-field-clause-writes : goal.returns-in_err-field-clause-writes
returns-in_err-field-clause-writes g c =
    rw c.from_residual.ensures (field-stop c.field.ensures.passes (omega (arith, c.requires.room)) refl (goes-off _ c.in_err-field.was))
