-- `defining::Ordered::has_pair` meets its contract.
use mathlib.Core.Path.{ap, ◌∙◌}
use mathlib.Core.List.{map}
use Rattle.rules.proofs.ByNumber.{pairs-linear}
use Rattle.store.specs.Places.{stands_at}
use Rattle.store.specs.Storage.{pair_of}
use Rattle.store.proofs.LookedUp.{place_found}
use Rattle.defining.proofs.ordered.Ordered.has_pair.Goals as goal

pub returns : goal.returns
returns c =
    let s = c.args.self in
    c.stands.ensures ∙ ap stands_at c.place.ensures ∙ place_found pairs-linear (map pair_of s.pairs.now) (c.args.group.0, c.args.radio.0) s.in_order.pairs_rise
