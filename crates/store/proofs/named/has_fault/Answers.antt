-- `store::named::has_fault` meets its contract.
use mathlib.Core.Path.{◌≡◌, ap, ◌∙◌}
use mathlib.Core.Bool.{not}
use mathlib.Core.List.{[]}
use mathlib.Core.Logic.{◌⊎◌, inl, inr}
use mathlib.Core.Option.{some}
use Prim.Native.Nat.{ℕ}
use native.Mathlib.Omega.{arith}
use lib.Dec.{eqb, ltb}
use Rattle.rules.specs.Lists.{mem}
use Rattle.rules.specs.Ledger.{Group}
use Rattle.store.specs.Named.{group_fault}
use Rattle.store.specs.Storage.{group_of}
use Rattle.store.specs.declared.Standing.{Standing}
use Rattle.store.specs.declared.Standing.TheVariants.{Foreign, Taken}
use Rattle.store.proofs.PlaceLaws.{at_place}
use Rattle.store.proofs.named.has_fault.Goals as goal

-- of a group that stands
not-owned : (s : Standing) → (s ≡ Foreign) ⊎ (s ≡ Taken) → (x : Group) (asker : ℕ) → not (mem asker x.owners) ≡ group_fault s (some x) asker
not-owned s (inl e) x asker = rw e
not-owned s (inr e) x asker = rw e

pub offset_bounds-groups-i : goal.offset_bounds-groups-i
offset_bounds-groups-i c =
    let r = at_place ltb eqb group_of c.args.groups.now c.args.group.0 [] c.in-Ok.i _ c.in-Ok.is c.place.ensures in
    omega (arith, r.inside)

pub bounds-groups-i : goal.bounds-groups-i
bounds-groups-i c =
    let r = at_place ltb eqb group_of c.args.groups.now c.args.group.0 [] c.in-Ok.i _ c.in-Ok.is c.place.ensures in
    omega (arith, r.inside)

pub returns-in-Foreign : goal.returns-in-Foreign
returns-in-Foreign c =
    let r = at_place ltb eqb group_of c.args.groups.now c.args.group.0 [] c.in-Ok.i _ c.in-Ok.is c.place.ensures in
    rw r.found (ap not c.owner_in.ensures ∙ not-owned c.args.standing c.in-Foreign.is _ c.args.asker.0)
