-- `making::owners::crowds` meets its contract: a group that is not there has none but those who come.
use mathlib.Core.Path.{◌≡◌, refl, sym, ap, ◌∙◌}
use mathlib.Core.Bool.{true}
use mathlib.Core.List.{List, [], ◌∷◌}
use Prim.Native.Nat.{ℕ, ◌+◌, ◌-◌, ◌≤◌}
use native.Mathlib.Omega.{arith}
use lib.Dec.{eqb, ltb}
use borrow.Author.Tests.{ltb-true, ltb-false, lt-ltb, le-ltb}
use Rattle.rules.proofs.Tests.{split}
use Rattle.rules.specs.Lists.{keep}
use Rattle.store.specs.Storage.{group_of}
use Rattle.store.proofs.PlaceLaws.{at_place, no_place}
use Rattle.making.proofs.Room.{owners-within}
use borrow.Author.Rules.{rules}
use lib.ListN.{length}
use Rattle.making.proofs.owners.crowds.Goals as goal

all-kept : (l : List ℕ) → keep (λ a. true) l ≡ l
all-kept [] = refl
all-kept (x ∷ l) = ap (λ (k : List ℕ). x ∷ k) (all-kept l)

-- as many as there is still room for
less-rest : (n held new : ℕ) → held ≤ n → ltb (n - held) new ≡ ltb n (held + new)
less-rest n held new h = split (ltb n (held + new))
    (λ p. let q = ltb-true n (held + new) p in lt-ltb (n - held) new (omega arith) ∙ sym p)
    (λ p. let q = ltb-false n (held + new) p in le-ltb (n - held) new (omega arith) ∙ sym p)

pub returns-in_default : goal.returns-in_default
returns-in_default c =
    let m = no_place ltb eqb group_of c.args.groups.now c.args.group.0 [] _ _ c.in_default.is c.place.ensures in
    rw (m, all-kept, ← c.len.ensures.value) (less-rest 16 0 c.len.result (omega arith))

pub offset_bounds-groups-i : goal.offset_bounds-groups-i
offset_bounds-groups-i c =
    let r = at_place ltb eqb group_of c.args.groups.now c.args.group.0 [] c.in-Ok.i _ c.in-Ok.is c.place.ensures in
    omega (arith, r.inside)

pub bounds-groups-i : goal.bounds-groups-i
bounds-groups-i c =
    let r = at_place ltb eqb group_of c.args.groups.now c.args.group.0 [] c.in-Ok.i _ c.in-Ok.is c.place.ensures in
    omega (arith, r.inside)

pub overflow_sub-result : goal.overflow_sub-result
overflow_sub-result c =
    let r = at_place ltb eqb group_of c.args.groups.now c.args.group.0 [] c.in-Ok.i _ c.in-Ok.is c.place.ensures in
    omega (arith, owners-within _ _ c.owners_of-held.ensures (search (rules, c.told-groups)))

pub returns : goal.returns
returns c =
    let r = at_place ltb eqb group_of c.args.groups.now c.args.group.0 [] c.in-Ok.i _ c.in-Ok.is c.place.ensures in
    let held = c.owners_of-held in
    rw (r.found, ← c.new_owners.ensures, ← held.ensures)
    (less-rest 16 (length held.result.now) c.new_owners.result (owners-within _ _ held.ensures (search (rules, c.told-groups))))
