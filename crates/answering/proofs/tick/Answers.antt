-- `answering::tick` meets its contract.
use mathlib.Core.Path.{refl, sym, ◌∙◌}
use Rattle.rules.specs.Order.{tick}
use Rattle.store.specs.Storage.{contents}
use Rattle.store.specs.Form.{Sound}
use Rattle.replies.proofs.Orders.{taken-after}
use Rattle.answering.proofs.Answered.{ticked-laid}
use Rattle.answering.proofs.tick.Goals as goal

pub returns : goal.returns
returns c =
    let a = c.args in
    let x = contents a.head.now a.groups.now a.pairs.now in
    -- past the test the contents are in the written form
    let w : Sound x = c.written.ensures.1 c.if-not-written.false in
    let t = taken-after x tick w.form refl in
    record { replies = t.0; leaves = ticked-laid x w _ c.turn_pairs.ensures.rows ∙ sym t.1 }
