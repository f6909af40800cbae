-- `store::places::find` meets its contract: the place that is found, or none.
use mathlib.Core.Path.{◌∙◌}
use native.Mathlib.Omega.{arith}
use mathlib.Core.List.{[]}
use Rattle.rules.specs.Ledger.{same_pair}
use Rattle.rules.specs.ByNumber.{below_pair}
use Rattle.store.specs.Storage.{pair_of}
use Rattle.store.proofs.PlaceLaws.{at_place}
use Rattle.store.proofs.places.find.Goals as goal

pub offset_bounds-pairs-i : goal.offset_bounds-pairs-i
offset_bounds-pairs-i c =
    let a = c.args in
    let r = at_place below_pair same_pair pair_of a.pairs.now (a.group.0, a.radio.0) [] c.in-Ok.i _ c.in-Ok.is c.place.ensures in
    omega (arith, r.inside)

pub bounds-pairs-i : goal.bounds-pairs-i
bounds-pairs-i c =
    let a = c.args in
    let r = at_place below_pair same_pair pair_of a.pairs.now (a.group.0, a.radio.0) [] c.in-Ok.i _ c.in-Ok.is c.place.ensures in
    omega (arith, r.inside)

pub returns : goal.returns
returns c =
    let a = c.args in
    let r = at_place below_pair same_pair pair_of a.pairs.now (a.group.0, a.radio.0) [] c.in-Ok.i _ c.in-Ok.is c.place.ensures in
    c.state_in.ensures ∙ rw (r.is, r.found)
