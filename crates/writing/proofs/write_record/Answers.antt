-- `writing::write_record` meets its contract: decided before a byte is written.
-- Assumes nothing.
use Rattle.std.proofs.Common.{◌≡◌, Err, sym, ◌∙◌, rules}
use Rattle.layout.proofs.Room.{told-refused}
use Rattle.writing.proofs.WriteLaws.{refused-record}
use Rattle.writing.proofs.write_record.Goals as goal

pub returns-in_err-bits : goal.returns-in_err-bits
returns-in_err-bits c =
    let n = c.in_err-bits.field-0.0 in
    let err : c.from_residual.result ≡ Err n = search rules in
    let told = told-refused c.args.kind c.args.values.now n _ c.args.start (sym c.measure_record.ensures ∙ c.in_err-bits.was) in
    rw err (refused-record c.args.kind c.args.values.now _ c.args.start n told)
