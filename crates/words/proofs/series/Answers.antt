-- `words::series` meets its contract: each turn is a law of `Lists`.
use mathlib.Core.Path.{◌∙◌}
use native.Mathlib.Omega.{arith}
use Rattle.words.proofs.Lists.{list-start, list_full, list-end, list-bad, list-more}
use Rattle.words.proofs.series.Goals as goal

pub loop-i-init : goal.loop-i-init
loop-i-init c =
    rw c.identity_of-identity.ensures (list-start c.in_ok-mark.ensures c.in_ok-code.ensures c.in_ok-next.ensures)

pub returns-in_err-taken : goal.returns-in_err-taken
returns-in_err-taken c =
    c.from_residual-in_err-taken.ensures ∙ list-bad c.loop-i.invariant (omega arith) c.in-Some.ensures c.in_err-taken.ensures

pub loop-i-preserved : goal.loop-i-preserved
loop-i-preserved c = list-more c.loop-i.invariant (omega arith) c.in-Some.ensures c.in_ok-taken.ensures

pub returns-after-loop-i : goal.returns-after-loop-i
returns-after-loop-i c = list_full c.loop-i.invariant (omega arith)

pub returns-in_default : goal.returns-in_default
returns-in_default c = list-end c.loop-i.invariant (omega arith) c.in_default.ensures
