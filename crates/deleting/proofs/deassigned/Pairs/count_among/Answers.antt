-- `deleting::Pairs::count_among` meets its contract: those of the list that the group has are counted.
use Rattle.std.proofs.Common.{ℕ, map, rules, tests}
use Rattle.std.proofs.lemmas.Iterator.Consumers.{count_from_yields_List, YieldsList-from_filter}
use Rattle.rules.specs.Entries.{find}
use Rattle.rules.specs.Ledger.{same_pair}
use Rattle.rules.specs.Lists.{present}
use Rattle.order.specs.Keys.{keys_held}
use Rattle.order.proofs.Yielded.{YieldsList-by_place}
use Rattle.store.specs.Storage.{pair_of}
use Rattle.deleting.proofs.deassigned.Pairs.count_among.Goals as goal

pub returns : goal.returns
returns c =
    let a = c.args in
    let owns = λ (r : ℕ). present (find same_pair (map pair_of a.self.rows.now) (a.group.0, r)) in
    count_from_yields_List c.filter.result _ c.count.ensures.ran
    (YieldsList-from_filter _ owns (YieldsList-by_place (keys_held a.radios.now) c.len.ensures.value cc)
    c.filter.ensures.closure (λ x r q k. search (rules, tests)))
