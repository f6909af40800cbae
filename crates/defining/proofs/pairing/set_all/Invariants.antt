-- `defining::set_all` meets its contract: the pairs from a group and a radio on are put.
use Prim.Native.Nat.{◌*◌, ◌+◌}
use lib.ListN.{length}
use Rattle.rules.specs.Mark.{fresh}
use Rattle.rules.specs.Steps.{product}
use Rattle.rules.proofs.ByNumber.{pairs-linear}
use Rattle.order.specs.Keys.{keys_held}
use Rattle.store.specs.Storage.{pair_of, pair_row}
use Rattle.defining.proofs.Downward.{Putting}
use Rattle.defining.proofs.pairing.set_all.Given as goal

abbrev pub invariant-loop-j : goal.invariant-loop-j
invariant-loop-j l =
    Putting pairs-linear (λ k. fresh l.state) pair_of pair_row
    (product (keys_held l.named) (keys_held l.radios)) l.initial.pairs l.count (l.j * length (keys_held l.radios)) l.step.left l.step.by l.pairs

abbrev pub invariant-loop-k : goal.invariant-loop-k
invariant-loop-k l =
    Putting pairs-linear (λ k. fresh l.state) pair_of pair_row
    (product (keys_held l.named) (keys_held l.radios)) l.fn.pairs l.count (l.j * length (keys_held l.radios) + l.k) l.step.left l.step.by l.pairs
