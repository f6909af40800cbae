-- `writing::walk::Walk::items` meets its contract: the loop's invariant: i items are passed, and the next begins at `place`.
-- Assumes nothing.
use Rattle.std.proofs.Common.{◌≡◌}
use Rattle.writing.proofs.LayLists.{Listed}
use Rattle.writing.proofs.walk.Walk.items.Given as goal

abbrev pub invariant-loop-i : goal.invariant-loop-i
invariant-loop-i g l =
    let at_first = l.initial.self in
    Listed g.P.Pass.pass l.items at_first.values.now at_first.at l.count (g.P.Pass.lent at_first.pass.now) (g.P.Pass.lent l.self.pass.now) l.self.at l.place l.i
    × (l.self.values ≡ at_first.values) × (l.self.pass.ghost_name ≡ at_first.pass.ghost_name)
