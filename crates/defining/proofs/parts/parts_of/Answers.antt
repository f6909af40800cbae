-- `defining::parts_of` meets its contract: the lists read are those of the order.
use mathlib.Core.Path.{ap, ◌∙◌}
use mathlib.Core.List.{◌∷◌}
use mathlib.Core.Option.{Option}
use Rattle.rules.specs.Lists.{rising}
use Rattle.rules.specs.Number.{Numbers, key}
use Rattle.rules.specs.Named.{numbers_in, max_numbers, max_listed_owners}
use Rattle.rules.specs.Recorded.{define_of}
use Rattle.order.specs.Numbers.{radio_number}
use Rattle.rules.specs.Refusals.{first}
use Rattle.replies.specs.Orders.{reply_of}
use Rattle.order.specs.Keys.{fitting, keys_as}
use Rattle.order.specs.Lists.{list_of}
use Rattle.order.specs.declared.DefineLists.{DefineLists}
use Rattle.order.specs.declared.keys.Keys.{Keys}
use Rattle.order.specs.declared.RadioKey.{RadioKey}
use Rattle.order.proofs.Recorded.{lists-said, owners-said, radios-said}
use Rattle.defining.specs.Parts.{list_tests}
use Rattle.defining.proofs.parts.parts_of.Goals as goal

pub returns : goal.returns
unfolding define_of
returns c =
    let a = c.args in
    let lists = c.lists_of-lists.ensures in
    let gs = lists-said (radio_number a.asker) a.place in
    let os = owners-said (radio_number a.asker) a.place in
    let rs = radios-said (radio_number a.asker) a.place in
    let named = c.keys_named.ensures
    ∙ ap (λ (d : DefineLists). keys_as (fitting max_numbers (numbers_in a.asker.1 (list_of d.groups)))) lists
    ∙ ap (λ (n : Option Numbers). keys_as (fitting max_numbers (numbers_in a.asker.1 n))) gs in
    let radios = c.keys_named-2.ensures
    ∙ ap (λ (d : DefineLists). keys_as (fitting max_numbers (numbers_in a.asker.1 (list_of d.radios)))) lists
    ∙ ap (λ (n : Option Numbers). keys_as (fitting max_numbers (numbers_in a.asker.1 n))) rs in
    let given : Option Numbers → Keys RadioKey 16 = λ n. keys_as (rising (key (radio_number a.asker) ∷ fitting max_listed_owners (numbers_in a.asker.1 n))) in
    let owners = c.owners_in.ensures ∙ ap (λ (d : DefineLists). given (list_of d.owners)) lists ∙ ap given os in
    let fault = c.lists_fault.ensures
    ∙ ap (λ (d : DefineLists). reply_of (first (list_tests a.asker.1 (list_of d.groups) (list_of d.owners) (list_of d.radios)))) lists
    ∙ (λ i. reply_of (first (list_tests a.asker.1 (gs i) (os i) (rs i)))) in
    λ i. record {
      named = named i;
      radios = radios i;
      owners = owners i;
      fault = fault i;
    }
