-- `order::any_short` meets its contract.
use Rattle.std.proofs.Common.{ap, ◌∙◌, rules, tests}
use Rattle.std.proofs.lemmas.Iterator.{YieldsList-from_slice}
use Rattle.std.proofs.lemmas.Iterator.Search.{any_from_yields_List}
use Rattle.rules.specs.Lists.{any}
use Rattle.rules.specs.Number.{short}
use Rattle.rules.proofs.Tests.{any-map}
use Rattle.order.specs.Lists.{identity_of}
use Rattle.order.proofs.lists.any_short.Goals as goal

pub returns : goal.returns
returns c =
    let listed = c.in_use.result.now in
    any_from_yields_List (λ i. short (identity_of i)) _ _ _ c.any.ensures.ran (YieldsList-from_slice listed cc) (λ x b q k. search (rules, tests))
    ∙ any-map short identity_of listed ∙ ap (any short) c.in_use.ensures
