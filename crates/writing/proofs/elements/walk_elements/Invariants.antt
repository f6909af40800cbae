-- `writing::elements::walk_elements` meets its contract: the loop's invariant: what is passed so far, and what is left.
-- Assumes nothing.
use Rattle.std.proofs.Common.{◌≡◌}
use Rattle.writing.specs.Found.{behind}
use Rattle.writing.proofs.WholeRecord.{Wrote}
use Rattle.writing.proofs.elements.walk_elements.Given as goal

abbrev pub invariant-loop-element : goal.invariant-loop-element
invariant-loop-element g l =
    let at_first = l.initial.walk in
    Wrote g.P.Pass.pass l.fn.kind l.element-items at_first.values.now (g.P.Pass.lent at_first.pass.now) (g.P.Pass.lent l.walk.pass.now)
    l.grouped (behind l.last) l.walk.at l.place l.element-index
    × (l.walk.values ≡ at_first.values) × (l.walk.pass.ghost_name ≡ at_first.pass.ghost_name)
