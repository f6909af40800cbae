-- `making::owners::any_crowded` meets its contract.
use Rattle.std.proofs.Common.{ℕ, map, eqb, ltb, rules, tests}
use Rattle.std.proofs.lemmas.Iterator.Search.{any_from_yields_List}
use Rattle.rules.specs.Written.{max_owners}
use Rattle.order.specs.Keys.{keys_held}
use Rattle.order.proofs.Yielded.{YieldsList-by_place}
use Rattle.store.specs.Places.{looked_up}
use Rattle.store.specs.Storage.{group_of}
use Rattle.making.specs.Owners.{owner_total}
use Rattle.making.proofs.owners.any_crowded.Goals as goal

pub returns : goal.returns
returns c =
    let a = c.args in
    let crowded = λ (g : ℕ). ltb max_owners (owner_total (looked_up ltb eqb (map group_of a.groups.now) g) (keys_held a.come.now)) in
    any_from_yields_List crowded _ _ _ c.any.ensures.ran
    (YieldsList-by_place (keys_held a.named.now) c.len.ensures.value cc) (λ x b q k. search (rules, tests))
