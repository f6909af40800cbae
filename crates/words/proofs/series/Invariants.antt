-- `words::series` meets its contract: each turn is a law of `Lists`.
use Rattle.words.proofs.Lists.{Listing}
use Rattle.words.proofs.series.Given as goal

abbrev pub invariant-loop-i : goal.invariant-loop-i
invariant-loop-i l = Listing l.line l.at l.code.value l.identity l.i l.next
