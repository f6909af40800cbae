-- The walk that lays puts the value's code.
-- Assumes nothing.
use Rattle.std.proofs.Common.{◌∙◌, ap, length, refl, arith}
use Rattle.bits.proofs.Laws.{length-put_at}
use Rattle.writing.proofs.LayLaws.{field-laid}
use Rattle.writing.proofs.walk.LayPass.put.Goals as goal

pub returns : goal.returns
returns c =
    let narrow = c.requires.0 in
    let code = c.wrapping_sub_u32 in
    let put = c.put_field.ensures in
    record {
      lent = record { size = ap length put ∙ length-put_at _ _ _ _; same = refl };
      within = omega (arith, narrow.few);
      lays = λ s vs p inside is. field-laid _ s _ p vs _ inside narrow _ is code.result code.ensures.value (omega arith) _ put;
    }
