-- `defining::Ordered::new_pairs` meets its contract: those of the groups passed are counted.
use mathlib.Core.Path.{◌≡◌, ap, ◌∙◌}
use mathlib.Core.List.{map}
use native.Mathlib.Omega.{arith}
use Prim.Native.Nat.{ℕ, ◌+◌, ◌<◌}
use lib.ListN.{length, take}
use Rattle.rules.specs.Lists.{sum}
use Rattle.order.specs.Keys.{keys_held}
use Rattle.store.specs.Storage.{pair_of}
use Rattle.defining.specs.Totals.{new_radios}
use Rattle.defining.proofs.Sums.{sum-front}
use Rattle.making.proofs.Counting.{sum-turn}
use Rattle.defining.proofs.ordered.Ordered.new_pairs.Goals as goal
use Rattle.defining.proofs.ordered.Ordered.new_pairs.Goals.{After-new_radios-n}

-- how many of a group's pairs are new
abbrev new : After-new_radios-n → ℕ → ℕ
new c = new_radios (map pair_of c.args.self.pairs.now) (keys_held c.args.radios.now)

-- a turn
turn : (c : After-new_radios-n) → c.loop-j.n + c.new_radios-n.result ≡ sum (new c) (take (c.loop-j.j + 1) (keys_held c.args.named.now))
turn c =
    let l = c.loop-j in
    let gs = keys_held c.args.named.now in
    let h : l.j < length gs = omega (arith, c.len-j-end.ensures.value, c.loop-j-test.true) in
    sum-turn (new c) gs l.j l.n _ h l.invariant
    (c.new_radios-n.ensures ∙ ap (new c) c.at.ensures)

pub overflow_add-n : goal.overflow_add-n
overflow_add-n c =
    let d = (goal.at.overflow_add-n c).After-new_radios-n in
    omega (arith, turn d, sum-front (new d) (keys_held c.args.named.now) (c.loop-j.j + 1), c.requires)

pub loop-j-preserved : goal.loop-j-preserved
loop-j-preserved c = turn (goal.at.loop-j-preserved c).After-new_radios-n
