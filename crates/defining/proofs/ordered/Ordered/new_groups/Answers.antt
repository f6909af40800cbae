-- `defining::Ordered::new_groups` meets its contract: those of the named groups that are not found are counted.
use Rattle.std.proofs.Common.{ℕ, not, eqb, map, rules, tests}
use Rattle.std.proofs.lemmas.Iterator.Consumers.{count_from_yields_List, YieldsList-from_filter}
use Rattle.rules.specs.Entries.{find}
use Rattle.rules.specs.Lists.{present}
use Rattle.order.specs.Keys.{keys_held}
use Rattle.order.proofs.Yielded.{YieldsList-by_place}
use Rattle.store.specs.Storage.{group_of}
use Rattle.defining.proofs.ordered.Ordered.new_groups.Goals as goal

pub returns : goal.returns
returns c =
    let a = c.args in
    let is_new = λ (g : ℕ). not (present (find eqb (map group_of a.self.groups.now) g)) in
    count_from_yields_List c.filter.result _ c.count.ensures.ran
    (YieldsList-from_filter _ is_new (YieldsList-by_place (keys_held a.named.now) c.len.ensures.value cc)
    c.filter.ensures.closure (λ x r q k. search (rules, tests)))
