-- `making::owners::held_owners` meets its contract: there is room for the owners of a row.
use Rattle.std.proofs.Common.{sym, length-take-le, rules}
use Rattle.making.proofs.Room.{owners-within}
use Rattle.making.proofs.owners.held_owners.Goals as goal

pub slice_bounds-key-end : goal.slice_bounds-key-end
slice_bounds-key-end c = owners-within c.args.row _ c.owners_of-owners.ensures (search rules)

pub slice_bounds-copy_from_slice-end : goal.slice_bounds-copy_from_slice-end
slice_bounds-copy_from_slice-end c = sym (length-take-le _ _ (owners-within c.args.row _ c.owners_of-owners.ensures (search rules)))

pub copy_from_slice-requires : goal.copy_from_slice-requires
copy_from_slice-requires c = length-take-le _ _ (owners-within c.args.row _ c.owners_of-owners.ensures (search rules))
