-- `text::parts::put_back` meets its contract: its pieces are put one behind the other.
use mathlib.Core.Path.{◌≡◌, ap, sym}
use native.Mathlib.Omega.{arith}
use lib.ListN.{length}
use Rattle.text.specs.Text.{name_text}
use Rattle.text.proofs.Puts.{put_as, put_then}
use Rattle.text.proofs.Texts.{take-fit}
use borrow.Author.Rules.{rules}
use Rattle.text.proofs.parts.put_back.Goals as goal

pub returns : goal.returns
returns c =
    let shown = c.args.shown in
    -- the name's places
    let full : length shown.name ≡ 16 = search rules in
    let all = take-fit shown.name shown.letters 16 full c.min.ensures in
    let first = put_then c.put_text-at.ensures (put_as (ap name_text (sym all)) c.put_name-at.ensures.1) in
    (omega arith, put_then first (rw c.late-values.ensures at c.put_text.ensures))
