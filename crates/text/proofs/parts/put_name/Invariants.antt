-- `text::parts::put_name` meets its contract: so far the first letters are put.
use lib.ListN.{take}
use Rattle.text.specs.Text.{joined, letter_text}
use Rattle.text.specs.Put.{Put}
use Rattle.text.proofs.parts.put_name.Given as goal

abbrev pub invariant-loop-letter : goal.invariant-loop-letter
invariant-loop-letter l = Put (joined letter_text (take l.letter-index l.name)) l.initial.out l.out l.initial.next l.next
