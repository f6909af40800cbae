-- `text::listed::put_each` meets its contract: each item is put behind those before it, and none is longer than the room for one.
use mathlib.Core.Path.{◌≡◌}
use native.Mathlib.Omega.{arith}
use lib.ListN.{length}
use Rattle.text.proofs.Walks.{put_next, put_all, room-left}
use Rattle.text.proofs.listed.put_each.Goals as goal

pub put-next-requires : goal.put-next-requires
put-next-requires g c =
    let l = c.loop-item in
    let room = room-left g.T.Item.text 30 g.met.T.Item.short c.args.items.now l.item-index (omega arith) l.invariant in
    omega arith

pub loop-item-preserved : goal.loop-item-preserved
loop-item-preserved g c =
    let l = c.loop-item in
    put_next g.T.Item.text c.args.items.now l.item-index _ (omega arith) c.item-item.is l.invariant c.put-next.ensures

pub returns : goal.returns
returns g c =
    let l = c.loop-item in
    let end : l.item-index ≡ length c.args.items.now = omega arith in
    put_all g.T.Item.text c.args.items.now (rw end at l.invariant)
