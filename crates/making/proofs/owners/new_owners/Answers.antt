-- `making::owners::new_owners` meets its contract: those who come are counted.
use Rattle.std.proofs.Common.{ℕ, not, rules, tests}
use Rattle.std.proofs.lemmas.Iterator.Consumers.{count_from_yields_List, YieldsList-from_filter}
use Rattle.rules.specs.Lists.{mem}
use Rattle.order.specs.Keys.{keys_held}
use Rattle.order.proofs.Yielded.{YieldsList-by_place}
use Rattle.store.specs.Storage.{group_of}
use Rattle.making.proofs.owners.new_owners.Goals as goal

pub returns : goal.returns
returns c =
    let is_new = λ (a : ℕ). not (mem a (group_of c.args.row).1.owners) in
    count_from_yields_List c.filter.result _ c.count.ensures.ran
    (YieldsList-from_filter _ is_new (YieldsList-by_place (keys_held c.args.come.now) c.len.ensures.value cc)
    c.filter.ensures.closure (λ x r q k. search (rules, tests)))
