-- `words::digits` meets its contract: each turn is a law of `Values`.
use mathlib.Core.Path.{◌∙◌}
use Rattle.words.proofs.Values.{read-start, read-bad, read_more}
use Rattle.words.proofs.digits.Goals as goal

pub loop-character-init : goal.loop-character-init
loop-character-init c =
    let a = c.args in
    let rest = c.in_ok-get.ensures.lookup.0 in
    let text = c.in_ok-character-items.ensures.lookup.0 in
    read-start a.line.now a.at a.width _ _ c.if-width-gt-DIGITS.false rest.2 text.1 rest.3 text.2

pub returns-in_err-value : goal.returns-in_err-value
returns-in_err-value c = c.from_residual-in_err-value.ensures ∙ read-bad c.loop-character.invariant c.loop-character-test.true c.in_err-value.ensures

pub loop-character-preserved : goal.loop-character-preserved
loop-character-preserved c = read_more c.loop-character.invariant c.loop-character-test.true c.in_ok-value.ensures
