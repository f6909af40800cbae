-- `deleting::Pairs::count` meets its contract.
use mathlib.Core.Path.{sym}
use Rattle.deleting.proofs.DeassignedLaws.{spans}
use Rattle.deleting.proofs.deassigned.Pairs.count.Goals as goal

-- the group's stretch: here and below
pub overflow_sub-result : goal.overflow_sub-result
overflow_sub-result c =
    let p = c.args.self in
    let s = spans p.rows.now p.stretches c.args.group.0 c.stretch_of-stretch.result c.stretch_of-stretch.ensures in
    s.ordered

pub returns : goal.returns
returns c =
    let p = c.args.self in
    let s = spans p.rows.now p.stretches c.args.group.0 c.stretch_of-stretch.result c.stretch_of-stretch.ensures in
    sym s.counts
