-- `writing::walk::Walk::element` meets its contract: what its shape finds, where the caller's record says that it is there; else nothing.
-- Assumes nothing.
use Rattle.std.proofs.Common.{sym, ◌∙◌}
use Rattle.writing.specs.Found.{behind}
use Rattle.writing.proofs.LayShapes.{element-puts, element-off}
use Rattle.writing.proofs.walk.Walk.element.Goals as goal

pub returns-then-there-clause-puts : goal.returns-then-there-clause-puts
returns-then-there-clause-puts g c =
    element-puts g.P.Pass.pass c.args.element c.args.self.now.values.now (behind c.args.last) c.args.self.now.at c.args.place
    (sym c.there.ensures ∙ c.if-there.true) c.shape.ensures.puts

pub returns-else-there-clause-puts : goal.returns-else-there-clause-puts
returns-else-there-clause-puts g c =
    let a = c.args in
    element-off g.P.Pass.pass a.element a.self.now.values.now (behind a.last) a.self.now.at a.place (g.P.Pass.lent a.self.now.pass.now)
    (sym c.there.ensures ∙ c.if-there.false)
    c.requires.0.room
