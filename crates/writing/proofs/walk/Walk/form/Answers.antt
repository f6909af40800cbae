-- `writing::walk::Walk::form` meets its contract: form 1 is an SNA, a higher one an SSI, form 3 with an extension.
-- Assumes nothing.
use Rattle.std.proofs.Common.{arith}
use Rattle.writing.proofs.Identities.{sna-there, no-form, ssi-then, ssi-stop}
use Rattle.writing.proofs.Parts.{goes_on, goes-off}
use Rattle.writing.proofs.walk.Walk.form.Goals as goal

pub returns-then-self-place-eq1-clause-writes : goal.returns-then-self-place-eq1-clause-writes
returns-then-self-place-eq1-clause-writes g c =
    sna-there c.args.place (omega (arith, c.requires.room)) c.if-self-place-eq1.true c.field.ensures.passes

pub returns-then-self-place-lt2-clause-writes : goal.returns-then-self-place-lt2-clause-writes
returns-then-self-place-lt2-clause-writes g c =
    no-form c.args.place (omega (arith, c.requires.room)) _ c.if-self-place-lt2.true c.if-self-place-eq1.false

pub returns-clause-writes : goal.returns-clause-writes
returns-clause-writes g c =
    ssi-then c.args.place (omega (arith, c.requires.room)) c.if-self-place-lt2.false c.field-2.ensures.passes
    (goes_on c.in_ok-field.was) (rw c.field-2.ensures.stays.0 at c.extension.ensures.writes)

pub returns-in_err-field-clause-writes : goal.returns-in_err-field-clause-writes
returns-in_err-field-clause-writes g c =
    rw c.from_residual.ensures
    (ssi-stop c.args.place (omega (arith, c.requires.room)) c.if-self-place-lt2.false c.field-2.ensures.passes (goes-off _ c.in_err-field.was))
