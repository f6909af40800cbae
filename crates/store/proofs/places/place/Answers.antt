-- `store::places::place` meets its contract.
use mathlib.Core.Path.{sym, ◌∙◌}
use Rattle.store.proofs.PlaceLaws.{place-stands, place_other, place-past}
use Rattle.store.proofs.places.place.Goals as goal

pub returns-then-is_of : goal.returns-then-is_of
returns-then-is_of g c =
    let row = g.R.Row in
    let e = c.in-Some.ensures.lookup in
    place-stands row.below row.same row.item_of c.args.rows.now (row.number_of c.args.key) _ c.rows_before-i.ensures
    _ e.0 e.1 (sym c.is_of.ensures ∙ c.if-is_of.true)

pub returns-else-is_of : goal.returns-else-is_of
returns-else-is_of g c =
    let row = g.R.Row in
    let e = c.in-Some.ensures.lookup in
    place_other row.below row.same row.item_of c.args.rows.now (row.number_of c.args.key) _ c.rows_before-i.ensures
    _ e.0 e.1 (sym c.is_of.ensures ∙ c.if-is_of.false)

pub returns-in_default : goal.returns-in_default
returns-in_default g c =
    let row = g.R.Row in
    place-past row.below row.same row.item_of c.args.rows.now (row.number_of c.args.key) _ c.rows_before-i.ensures
    c.in_default.ensures.lookup.0
