-- `store::named::owned_by` meets its contract.
use mathlib.Core.Path.{sym, ◌∙◌}
use mathlib.Core.List.{[]}
use native.Mathlib.Omega.{arith}
use lib.Dec.{eqb, ltb}
use Rattle.store.specs.Storage.{group_of}
use Rattle.store.proofs.PlaceLaws.{at_place}
use Rattle.store.proofs.named.owned_by.Goals as goal

pub offset_bounds-groups-i : goal.offset_bounds-groups-i
offset_bounds-groups-i c =
    let r = at_place ltb eqb group_of c.args.groups.now c.args.group.0 [] c.in-Ok.i _ c.in-Ok.is c.place.ensures in
    omega (arith, r.inside)

pub bounds-groups-i : goal.bounds-groups-i
bounds-groups-i c =
    let r = at_place ltb eqb group_of c.args.groups.now c.args.group.0 [] c.in-Ok.i _ c.in-Ok.is c.place.ensures in
    omega (arith, r.inside)

pub returns-then-owner_in : goal.returns-then-owner_in
returns-then-owner_in c =
    let r = at_place ltb eqb group_of c.args.groups.now c.args.group.0 [] c.in-Ok.i _ c.in-Ok.is c.place.ensures in
    rw (r.found, sym c.owner_in.ensures ∙ c.if-owner_in.true)

pub returns : goal.returns
returns c =
    let r = at_place ltb eqb group_of c.args.groups.now c.args.group.0 [] c.in-Ok.i _ c.in-Ok.is c.place.ensures in
    rw (r.found, sym c.owner_in.ensures ∙ c.if-owner_in.false)
