-- `Frame::extension` meets its contract: the row is there under form 3.
-- Assumes nothing.
use mathlib.Core.Path.{refl}
use Prim.Native.Nat.{◌+◌}
use native.Mathlib.Omega.{arith}
use Rattle.reading.specs.Reads.{bits_in}
use Rattle.reading.proofs.ReadLaws.{reading}
use Rattle.reading.proofs.FillLaws.{reads_as, fills}
use Rattle.table.proofs.IdentityLaws.{extension-on, extension-off}
use Rattle.reading.proofs.parts.Frame.extension.Goals as goal

pub returns-then-into-form-eq3 : goal.returns-then-into-form-eq3
returns-then-into-form-eq3 c =
    let a = c.args in
    fills (a.form + 3) c.requires.0 refl refl c.field.ensures.moved
    (extension-on (reading (bits_in a.self)) a.form a.into.now.values (omega arith) a.at _ _
    c.if-into-form-eq3.true (reads_as (a.form + 3) c.requires.0 refl refl c.field.ensures))

pub returns-else-into-form-eq3 : goal.returns-else-into-form-eq3
returns-else-into-form-eq3 c =
    let a = c.args in
    fills (a.form + 3) c.requires.0 c.skip.ensures.0 refl c.skip.ensures.1
    (extension-off (reading (bits_in a.self)) a.form a.into.now.values (omega arith) a.at
    c.if-into-form-eq3.false (λ q h. a.into.now.clear q (omega arith)))
