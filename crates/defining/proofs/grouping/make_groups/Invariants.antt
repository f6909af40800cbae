-- `defining::make_groups` meets its contract: the groups from j on are put.
use Rattle.rules.proofs.ByNumber.{numbers-linear}
use Rattle.order.specs.Keys.{keys_held}
use Rattle.store.specs.Storage.{group_of, group_row, groups_of}
use Rattle.defining.specs.Groups.{made_group}
use Rattle.defining.proofs.Downward.{Putting}
use Rattle.defining.proofs.grouping.make_groups.Given as goal

abbrev pub invariant-loop-j : goal.invariant-loop-j
invariant-loop-j l =
    Putting numbers-linear (made_group (keys_held l.come) (group_of l.order).1.parameters (groups_of l.count l.initial.groups)) group_of group_row
    (keys_held l.named) l.initial.groups l.count l.j l.step.left l.step.by l.groups
