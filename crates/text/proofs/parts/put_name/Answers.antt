-- `text::parts::put_name` meets its contract: two digits a letter, if there are any.
use mathlib.Core.Path.{◌≡◌, refl, sym, ◌∙◌}
use native.Mathlib.Omega.{arith}
use lib.ListN.{length}
use Rattle.std.proofs.Common.{lit≤}
use Rattle.text.specs.Text.{letter_text}
use Rattle.text.proofs.Puts.{put_as}
use Rattle.text.proofs.Texts.{some-name}
use Rattle.text.proofs.Walks.{put_next, put_all, room-left, joined-short}
use Rattle.text.proofs.parts.put_name.Goals as goal

pub put_digits-next-requires : goal.put_digits-next-requires
put_digits-next-requires c =
    let l = c.loop-letter in
    let room = room-left letter_text 2 (λ letter. lit≤ tt) c.args.name.now l.letter-index (omega arith) l.invariant in
    omega arith

pub loop-letter-preserved : goal.loop-letter-preserved
loop-letter-preserved c =
    let l = c.loop-letter in
    put_next letter_text c.args.name.now l.letter-index 0 (omega arith) refl l.invariant c.put_digits-next.ensures

pub returns : goal.returns
returns c =
    let l = c.loop-letter in
    let name = c.args.name.now in
    let end : l.letter-index ≡ length name = omega arith in
    let all = put_all letter_text name (rw end at l.invariant) in
    (omega (arith, all.ends, joined-short letter_text 2 (λ letter. lit≤ tt) name), put_as (some-name name (sym c.is_empty.ensures ∙ c.if-is_empty.false)) all)
