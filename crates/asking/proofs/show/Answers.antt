-- `asking::show` meets its contract.
use mathlib.Core.Path.{◌≡◌}
use Prim.Native.Nat.{ℕ}
use native.Mathlib.Omega.{arith}
use lib.Dec.{eqb, ltb}
use Rattle.std.specs.Prelude.{Ok}
use Rattle.store.specs.Storage.{contents, ledger_of}
use Rattle.store.specs.Places.{place_of}
use Rattle.asking.proofs.Showing.{Seen, show-absent, seen}
use Rattle.asking.proofs.show.Goals as goal
use Rattle.asking.proofs.show.Goals.{After-place}

place : (c : After-place) → let a = c.args in
    c.place.result ≡ place_of ltb eqb (ledger_of (contents a.head.now a.groups.now a.pairs.now)).groups c.from.result.0
place c = rw c.group_rows.ensures at c.place.ensures

pub unreachable-requires : goal.unreachable-requires
unreachable-requires c =
    let a = c.args in
    let x = contents a.head.now a.groups.now a.pairs.now in
    show-absent x a.asker _ c.ask_fault.ensures c.in_ok-ask_fault.was _ c.from.ensures _ (place (goal.at.unreachable-requires c).After-place) _ c.in_default.is

-- the row at the group's place
there : (c : After-place) (at : ℕ) → c.place.result ≡ Ok at → let a = c.args in
    Seen (contents a.head.now a.groups.now a.pairs.now) a.asker c.asked_group-group.result at
there c at e =
    let a = c.args in
    let x = contents a.head.now a.groups.now a.pairs.now in
    seen x a.asker _ c.ask_fault.ensures c.in_ok-ask_fault.was _ c.from.ensures _ (place c) at e

pub offset_bounds-groups-at : goal.offset_bounds-groups-at
offset_bounds-groups-at c = let h = there (goal.at.offset_bounds-groups-at c).After-place c.in-Ok.at c.in-Ok.is in omega (arith, h.inside)

pub bounds-groups-at : goal.bounds-groups-at
bounds-groups-at c = (there (goal.at.bounds-groups-at c).After-place c.in-Ok.at c.in-Ok.is).inside

pub shown_row-requires : goal.shown_row-requires
shown_row-requires c = let h = there (goal.at.shown_row-requires c).After-place c.in-Ok.at c.in-Ok.is in (h.few, h.plain)

pub returns : goal.returns
returns c =
    let h = there (goal.at.returns c).After-place c.in-Ok.at c.in-Ok.is in
    rw (← c.asked_group-group.ensures, c.shown_row.ensures) h.shown
