-- The walk that judges asks whether the value has a code.
-- Assumes nothing.
use Rattle.std.proofs.Common.{arith}
use Rattle.writing.proofs.LayLaws.{stays_none, field-good, field-bad}
use Rattle.writing.proofs.walk.JudgePass.put.Goals as goal

pub returns-then-field-wrapping_sub_u32 : goal.returns-then-field-wrapping_sub_u32
returns-then-field-wrapping_sub_u32 c =
    let code = c.wrapping_sub_u32 in
    record {
      lent = stays_none;
      within = tt;
      lays = λ s vs p inside is. field-bad _ s _ p vs _ inside c.requires.0 _ is code.result code.ensures.value (omega arith) c.if-field-wrapping_sub_u32.true;
    }

pub returns : goal.returns
returns c =
    let narrow = c.requires.0 in
    let code = c.wrapping_sub_u32 in
    record {
      lent = stays_none;
      within = omega (arith, narrow.few);
      lays = λ s vs p inside is. field-good _ s _ p vs _ inside narrow _ is code.result code.ensures.value (omega arith) c.if-field-wrapping_sub_u32.false;
    }
