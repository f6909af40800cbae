-- `words::digits` meets its contract: each turn is a law of `Values`.
use Rattle.words.proofs.Values.{Read}
use Rattle.words.proofs.digits.Given as goal

abbrev pub invariant-loop-character : goal.invariant-loop-character
invariant-loop-character l = Read l.line l.at l.width l.character-items l.value l.character-index
