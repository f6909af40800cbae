-- `order::Numbers::in_use` meets its contract.
use Rattle.order.proofs.ListLaws.{used-take}
use borrow.Author.Rules.{rules}
use Rattle.order.proofs.Numbers.in_use.Goals as goal

pub returns : goal.returns
returns c = let n = c.args.self.now in used-take n.code n.identity _ c.used_count.ensures (search rules)
