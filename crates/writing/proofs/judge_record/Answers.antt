-- `writing::judge_record` meets its contract: a record has a frame, or is refused, as it is told of its length.
-- Assumes nothing.
use Rattle.std.proofs.Common.{◌≡◌, Ok, Err, sym, ◌∙◌, rules}
use Rattle.writing.proofs.WriteLaws.{judges}
use Rattle.writing.proofs.judge_record.Goals as goal

pub returns-in_err-measure_record : goal.returns-in_err-measure_record
returns-in_err-measure_record c =
    let n = c.in_err-measure_record.field-0.0 in
    let err : c.from_residual.result ≡ Err n = search rules in
    rw err (sym (judges c.args.kind c.args.values.now (Err n) (sym c.measure_record.ensures ∙ c.in_err-measure_record.was)))

pub returns : goal.returns
returns c = sym (judges c.args.kind c.args.values.now (Ok c.in_ok-measure_record.field-0) (sym c.measure_record.ensures ∙ c.in_ok-measure_record.was))
