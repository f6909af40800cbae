-- `defining::Step::put` meets its contract.
use mathlib.Core.Path.{◌≡◌, ap, ◌∙◌}
use Prim.Native.Nat.{ℕ, ◌+◌, ◌-◌}
use lib.ListN.{set}
use Rattle.order.specs.Walks.{moved}
use Rattle.defining.proofs.putting.Step.put.Goals as goal

pub returns : goal.returns
returns g c =
    let a = c.args in
    let s = a.self in
    let copied : c.move_up.new.rows ≡ moved s.by c.behind-from.result s.left a.rows.now = c.move_up.ensures in
    record {
      rows = (λ i. set (copied i) (c.behind-from.result + s.by - 1) a.row)
          ∙ ap (λ (n : ℕ). set (moved s.by n s.left a.rows.now) (n + s.by - 1) a.row) c.behind-from.ensures;
      steps = λ i. record { left = c.index-left.ensures i; by = c.behind-from.ensures i + s.by - 1 - c.index-left.ensures i };
    }
