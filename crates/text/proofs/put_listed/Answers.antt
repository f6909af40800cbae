-- `text::put_listed` meets its contract: A and the rows.
use mathlib.Core.Path.{◌≡◌, ap, sym, ◌∙◌}
use native.Mathlib.Omega.{arith}
use lib.ListN.{take, length-take}
use Rattle.text.specs.Text.{most, rows_text, listed_text}
use Rattle.text.proofs.Puts.{put_then, replied}
use Rattle.text.proofs.Texts.{first_rows}
use Rattle.text.proofs.Walks.{joined-short}
use Rattle.text.proofs.put_listed.Goals as goal

pub returns-in-Ok : goal.returns-in-Ok
returns-in-Ok g c =
    let row_text = g.T.Item.text in
    let rows = c.args.rows.now in
    let n = c.min-in-Ok.result in
    let first : take n rows ≡ take c.in-Ok.count (take most rows) = first_rows rows c.in-Ok.count most (omega arith) in
    let text = ap (λ count. listed_text row_text count rows) c.in-Ok.is ∙ ap (rows_text row_text) (sym first) in
    let put = put_then c.put_byte-at.ensures c.put_each.ensures in
    let short = joined-short row_text 30 g.met.T.Item.short (take n rows) in
    replied text c.if-out-lt-LONGEST.false (omega (arith, c.put_each.ensures.ends, c.put_byte-at.ensures.ends, short, length-take n rows), put)
