-- `defining::Ordered::has_group` meets its contract.
use mathlib.Core.Path.{ap, ◌∙◌}
use mathlib.Core.List.{map}
use Rattle.rules.proofs.ByNumber.{numbers-linear}
use Rattle.store.specs.Places.{stands_at}
use Rattle.store.specs.Storage.{group_of}
use Rattle.store.proofs.LookedUp.{place_found}
use Rattle.defining.proofs.ordered.Ordered.has_group.Goals as goal

pub returns : goal.returns
returns c =
    let s = c.args.self in
    c.stands.ensures ∙ ap stands_at c.place.ensures ∙ place_found numbers-linear (map group_of s.groups.now) c.args.group.0 s.in_order.groups_rise
