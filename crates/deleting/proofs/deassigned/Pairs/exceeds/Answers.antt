-- `deleting::Pairs::exceeds` meets its contract: the room that is left behind the orders to the groups passed.
use mathlib.Core.Path.{◌≡◌, refl, sym, ap}
use mathlib.Core.List.{List, map}
use native.Mathlib.Omega.{arith}
use Prim.Native.Nat.{ℕ, ◌≤◌, ◌<◌}
use lib.ListN.{length, take}
use lib.Seq.{take_all}
use borrow.Author.Tests.{lt-ltb, le-ltb}
use Rattle.store.specs.Storage.{pair_of}
use Rattle.deleting.specs.Deassigned.{deassign_orders}
use Rattle.deleting.specs.Deletes.{named, listed}
use Rattle.deleting.proofs.DeassignedLaws.{counted, within}
use Rattle.deleting.proofs.deassigned.Pairs.exceeds.Goals as goal
use Rattle.deleting.proofs.deassigned.Pairs.exceeds.Goals.{After-count_deassigned-n}

-- the group at hand is one of those named
inside : (c : After-count_deassigned-n) → c.loop-j.j < length (named c.args.asked.now)
inside c = omega (arith, c.len-j-end.ensures.value, c.loop-j-test.true)

pub returns-then-left-n : goal.returns-then-left-n
returns-then-left-n c =
    let d = (goal.at.returns-then-left-n c).After-count_deassigned-n in
    let a = c.args in
    let l = c.loop-j in
    let h = within a.asked.now.deassign (listed a.asked.now) (map pair_of a.self.rows.now) (named a.asked.now) l.j _ _ _ (inside d) c.at.ensures
    c.count_deassigned-n.ensures refl in
    let over : a.room < length (deassign_orders a.asked.now.deassign (listed a.asked.now) (map pair_of a.self.rows.now) (named a.asked.now)) =
    omega (arith, h, l.invariant, c.if-left-n.true) in
    sym (lt-ltb _ _ over)

pub loop-j-preserved : goal.loop-j-preserved
loop-j-preserved c =
    let d = (goal.at.loop-j-preserved c).After-count_deassigned-n in
    let a = c.args in
    let l = c.loop-j in
    let t = counted a.asked.now.deassign (listed a.asked.now) (map pair_of a.self.rows.now) (named a.asked.now) l.j _ _ _ (inside d) c.at.ensures
    c.count_deassigned-n.ensures refl in
    omega (arith, t, l.invariant, c.if-left-n.false)

pub returns : goal.returns
returns c =
    let a = c.args in
    let l = c.loop-j in
    let all : take l.j (named a.asked.now) ≡ named a.asked.now =
    take_all l.j (named a.asked.now) (omega (arith, c.len-j-end.ensures.value, c.loop-j-test.false)) in
    let e = ap (λ (z : List ℕ). length (deassign_orders a.asked.now.deassign (listed a.asked.now) (map pair_of a.self.rows.now) z)) all in
    let fits : length (deassign_orders a.asked.now.deassign (listed a.asked.now) (map pair_of a.self.rows.now) (named a.asked.now)) ≤ a.room =
    omega (arith, e, l.invariant) in
    sym (le-ltb _ _ fits)
