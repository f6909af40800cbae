-- `writing::walk::Walk::items` meets its contract: the loop's invariant: i items are passed, and the next begins at `place`.
-- Assumes nothing.
use Rattle.std.proofs.Common.{◌≡◌, ◌<◌, refl, ◌∙◌, arith}
use Rattle.layout.specs.Shape.{times}
use Rattle.writing.proofs.LayLists.{listed-none, listed-all, listed_more, listed-stop}
use Rattle.writing.proofs.Parts.{goes_on, goes-off}
use Rattle.writing.proofs.walk.Walk.items.Goals as goal

pub loop-i-init : goal.loop-i-init
loop-i-init g c = (listed-none, refl, refl)

pub returns-in_err-listed-clause-writes : goal.returns-in_err-listed-clause-writes
returns-in_err-listed-clause-writes g c =
    -- in a turn an item is still to come
    let less : c.loop-i.i < times c.args.items = omega (arith, c.loop-i-test.true, c.times_of-i-end.ensures) in
    let one = rw c.loop-i.invariant.1 at c.listed.ensures.writes in
    rw c.from_residual.ensures (listed-stop c.loop-i.invariant.0 one (times c.args.items) (goes-off _ c.in_err-listed.was) less)

pub loop-i-preserved : goal.loop-i-preserved
loop-i-preserved g c =
    let one = rw c.loop-i.invariant.1 at c.listed.ensures.writes in
    let stays = c.listed.ensures.stays in
    let before = c.loop-i.invariant in
    (listed_more before.0 one (goes_on c.in_ok-listed.was) c.stride_of-place.ensures, stays.0 ∙ before.1, stays.1 ∙ before.2)

pub returns-clause-writes : goal.returns-clause-writes
returns-clause-writes g c =
    let l = c.loop-i in
    let all : l.i ≡ times c.args.items = omega (arith, c.times_of-i-end.ensures, c.loop-i-test.false, l.auto.i-end) in
    rw (← all) (listed-all l.invariant.0)
