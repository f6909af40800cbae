-- `echo::answer_lines` hands back what is unfinished: behind each newline it is the same, and where none is left it is all.
use mathlib.Core.Path.{◌≡◌, sym, ap, ◌∙◌}
use Prim.Native.Nat.{◌+◌}
use native.Mathlib.Omega.{arith}
use lib.ListN.{drop, length-drop}
use lib.Seq.{take_all, drop-drop}
use Rattle.echo.specs.Line.{unfinished}
use Rattle.echo.proofs.Lines.{line-passed, no-line}
use Rattle.echo.proofs.answer_lines.Goals as goal

pub loop-end-preserved : goal.loop-end-preserved
loop-end-preserved g c =
    let rest = c.loop-end.rest.now in
    let end = c.in-Some.end in
    let behind = c.split_at.ensures.back in
    let next : drop 1 (drop end rest) ≡ drop (end + 1) rest = drop-drop 1 end rest in
    let passed = line-passed rest end (sym c.line_end.ensures.first ∙ c.in-Some.is) in
    ap unfinished (take_all _ _ (simp length-drop (omega arith)) ∙ ap (drop 1) behind ∙ next) ∙ passed.1 ∙ c.loop-end.invariant

pub returns-clause-left : goal.returns-clause-left
returns-clause-left g c = sym (no-line c.loop-end.rest.now (sym c.line_end.ensures.first ∙ c.in_default.is)) ∙ c.loop-end.invariant
