-- `order::owners_in` meets its contract.
use mathlib.Core.Path.{ap, ◌∙◌}
use mathlib.Core.Bool.{not}
use mathlib.Core.List.{List, ◌∷◌}
use Prim.Native.Nat.{ℕ}
use lib.Dec.{eqb}
use Rattle.rules.specs.Lists.{keep, in_order}
use Rattle.rules.specs.Number.{key}
use Rattle.rules.specs.Named.{numbers_in, max_numbers, max_listed_owners}
use Rattle.rules.specs.Written.{max_owners}
use Rattle.rules.proofs.Steps.{numbers-once}
use Rattle.order.specs.Keys.{fitting, keys_as, keys_held}
use Rattle.order.specs.Lists.{list_of}
use Rattle.order.specs.Numbers.{radio_number}
use Rattle.order.proofs.KeyLaws.{keys-held}
use Rattle.order.proofs.ListLaws.{asker-once}
use Rattle.order.proofs.RangeLaws.{fitting-once}
use Rattle.order.proofs.keys.owners_in.Goals as goal

pub returns : goal.returns
returns c =
    let a = c.args in
    let asker = c.from.ensures in
    -- the owners listed, as they are handed on
    let listed = fitting max_listed_owners (numbers_in a.asker.1 (list_of a.list)) in
    let keys = c.as_slice.ensures ∙ ap keys_held c.keys_in-listed.ensures ∙ keys-held max_numbers listed in
    let once = fitting-once max_listed_owners (numbers_in a.asker.1 (list_of a.list)) (numbers-once a.asker.1 (list_of a.list)) in
    let held = (λ i. asker i ∷ keep (λ y. not (eqb (asker i) y)) (keys i)) ∙ asker-once (key (radio_number a.asker)) listed once in
    c.rising.ensures ∙ ap (λ (l : List ℕ). keys_as (in_order l)) (ap keys_held c.with_asker.ensures ∙ keys-held max_owners _ ∙ held)
