-- `deleting::push_rows` meets its contract: orders to the radios of the first i rows are laid.
use mathlib.Core.Path.{sym, ap, ◌∙◌}
use mathlib.Core.List.{[], map}
use native.Mathlib.Omega.{arith}
use Prim.Native.Nat.{ℕ}
use lib.ListN.{length-map, get_or-map}
use Rattle.rules.specs.Outgoing.{deassign}
use Rattle.replies.specs.Sending.{order_row}
use Rattle.sending.proofs.Pushing.{push-turn}
use Rattle.deleting.specs.Deassigned.{radio_in}
use Rattle.deleting.proofs.deassigned.push_rows.Goals as goal

pub loop-i-preserved : goal.loop-i-preserved
loop-i-preserved c =
    let a = c.args in
    let l = c.loop-i in
    let n = length-map a.rows.now radio_in in
    let r = get_or-map radio_in a.rows.now l.i [] in
    let row = c.order_row.ensures ∙ ap (λ (x : ℕ). order_row (record { kind = deassign; radio = x; group = a.group.0 })) (sym r) in
    push-turn (map radio_in a.rows.now) l.out a.out.now a.at deassign a.group.0 l.i (omega (arith, n)) (omega (arith, n, c.requires)) l.invariant _ row
