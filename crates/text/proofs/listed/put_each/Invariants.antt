-- `text::listed::put_each` meets its contract: so far the first items are put.
use lib.ListN.{take}
use Rattle.text.specs.Text.{joined}
use Rattle.text.specs.Put.{Put}
use Rattle.text.proofs.listed.put_each.Given as goal

abbrev pub invariant-loop-item : goal.invariant-loop-item
invariant-loop-item g l = Put (joined g.T.Item.text (take l.item-index l.items)) l.initial.out l.out l.initial.next l.next
