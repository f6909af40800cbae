-- `writing::lay_frame` meets its contract: the head, then the elements.
-- Assumes nothing.
use Rattle.std.proofs.Common.{refl, rules, ap, ◌∙◌}
use Rattle.bits.specs.Field.{put_at}
use Rattle.writing.proofs.WriteLaws.{framed}
use Rattle.writing.proofs.lay_frame.Goals as goal

pub returns : goal.returns
returns c =
    framed c.args.kind c.args.values.now c.args.out.now c.put_field.new.out c.put_field-2.new.out _ c.put_field.ensures
    (c.put_field-2.ensures ∙ ap (λ v. put_at c.put_field.new.out 6 4 v) c.action_type.ensures) _ _ _ refl (search rules) c.requires
    c.walk_elements.ensures
