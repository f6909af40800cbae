-- `defining::make_groups` meets its contract: the groups from j on are put.
use mathlib.Core.Path.{◌≡◌}
use mathlib.Core.Bool.{true}
use Prim.Native.Nat.{ℕ, ◌+◌, ◌-◌}
use native.Mathlib.Omega.{arith}
use lib.Dec.{ltb}
use Rattle.rules.specs.Lists.{mem}
use Rattle.rules.specs.Ledger.{Group}
use Rattle.rules.proofs.Rises.{Climbs, rises-climbs, below-trans}
use Rattle.rules.proofs.ByNumber.{numbers-linear}
use Rattle.rules.proofs.ListLaws.{mem-at}
use Rattle.order.specs.Keys.{keys_held}
use Rattle.store.specs.Storage.{group_of, group_row, groups_of}
use Rattle.defining.specs.Groups.{made_group}
use Rattle.defining.proofs.Making.{row_fits, row_made}
use Rattle.defining.proofs.Downward.{putting-starts, putting-ends, Turn, turn}
use Rattle.defining.proofs.grouping.make_groups.Goals as goal
use Rattle.defining.proofs.grouping.make_groups.Goals.{After-at}

-- the turn that puts the group at hand
turns : (c : After-at) →
    let a = c.args in
    let l = c.loop-j in
    Turn numbers-linear (made_group (keys_held a.come.now) (group_of a.order).1.parameters (groups_of a.count a.groups.now)) group_of group_row
    (keys_held a.named.now) a.groups.now a.count (l.j - 1) l.step.left l.step.by l.groups c.at.result.0
turns c =
    let a = c.args in
    let l = c.loop-j in
    let made : ℕ → Group = made_group (keys_held a.come.now) (group_of a.order).1.parameters (groups_of a.count a.groups.now) in
    let climbs : Climbs ltb (keys_held a.named.now) = rises-climbs ltb below-trans (keys_held a.named.now) c.requires.3 in
    let e : l.j ≡ l.j - 1 + 1 = omega arith in
    turn numbers-linear made group_of group_row (keys_held a.named.now) a.groups.now a.count a.more c.requires.0 climbs
    (l.j - 1) l.step.left l.step.by l.groups (rw e at l.invariant) 0 _ (omega (arith, c.len-j.ensures.value)) c.at.ensures

-- it is among those named
named : (c : After-at) → mem c.at.result.0 (keys_held c.args.named.now) ≡ true
named c =
    let gs = keys_held c.args.named.now in
    let l = c.loop-j in
    rw c.at.ensures (mem-at gs (l.j - 1) (omega (arith, c.len-j.ensures.value)))

pub loop-j-init : goal.loop-j-init
loop-j-init c =
    let a = c.args in
    let made : ℕ → Group = made_group (keys_held a.come.now) (group_of a.order).1.parameters (groups_of a.count a.groups.now) in
    rw c.len-j.ensures.value (putting-starts numbers-linear made group_of group_row (keys_held a.named.now) a.groups.now a.count a.more c.requires.0)

pub make_group-step-requires : goal.make_group-step-requires
make_group-step-requires c =
    let a = c.args in
    let l = c.loop-j in
    let t = turns c in (
      t.opens,
      row_fits (groups_of a.count a.groups.now) (keys_held a.named.now) (keys_held a.come.now) c.requires.1 l.groups l.step.left _ (named c)
          a.order c.requires.2 t.inside t.plain t.found _ t.parted,
    )

pub loop-j-preserved : goal.loop-j-preserved
loop-j-preserved c =
    let a = c.args in
    let made : ℕ → Group = made_group (keys_held a.come.now) (group_of a.order).1.parameters (groups_of a.count a.groups.now) in
    let l = c.loop-j in
    let d = (goal.at.loop-j-preserved c).After-at in
    let t = turns d in
    let row = row_made (groups_of a.count a.groups.now) (keys_held a.named.now) (keys_held a.come.now) c.requires.1 l.groups l.step.left _
    (named d) a.order c.requires.2 t.inside t.plain t.found _ t.parted in
    t.next _ _ _ row c.make_group-step.ensures

pub returns : goal.returns
returns c =
    let a = c.args in
    let made : ℕ → Group = made_group (keys_held a.come.now) (group_of a.order).1.parameters (groups_of a.count a.groups.now) in
    let l = c.loop-j in
    let e : l.j ≡ 0 = omega arith in
    putting-ends numbers-linear made group_of group_row (keys_held a.named.now) a.groups.now a.count a.more c.requires.0 l.step.left l.step.by
    l.groups (rw e at l.invariant)
