-- `store::named::any_group` meets its contract.
use Rattle.std.proofs.Common.{ℕ, map, eqb, ltb, rules, tests}
use Rattle.std.proofs.lemmas.Iterator.Search.{any_from_yields_List}
use Rattle.order.specs.Keys.{keys_held}
use Rattle.order.proofs.Yielded.{YieldsList-by_place}
use Rattle.store.specs.Named.{group_fault}
use Rattle.store.specs.Places.{looked_up}
use Rattle.store.specs.Storage.{group_of}
use Rattle.store.proofs.named.any_group.Goals as goal

pub returns : goal.returns
returns c =
    let a = c.args in
    let fault = λ (g : ℕ). group_fault a.standing (looked_up ltb eqb (map group_of a.groups.now) g) a.asker.0 in
    any_from_yields_List fault _ _ _ c.any.ensures.ran
    (YieldsList-by_place (keys_held a.named.now) c.len.ensures.value cc) (λ x b q k. search (rules, tests))
