-- `asking::list` meets its contract.
use native.Mathlib.Omega.{arith}
use Rattle.std.proofs.lemmas.Result.{err_from_is_err_and}
use Rattle.store.specs.Storage.{contents}
use Rattle.asking.proofs.Listing.{Holds, list-refused, holds}
use Rattle.asking.proofs.list.Goals as goal
use Rattle.asking.proofs.list.Goals.{After-stretch_of-stretch}

pub returns-in_err-ask_fault : goal.returns-in_err-ask_fault
returns-in_err-ask_fault c =
    let a = c.args in
    let e = err_from_is_err_and c.from_residual.result c.from_residual.ensures.1 in
    let x = contents a.head.now a.groups.now a.pairs.now in
    rw (e.1, e.2, ← c.asked_group-group.ensures) (list-refused x a.asker _ a.out.now c.ask_fault.ensures _ c.in_err-ask_fault.was)

-- the group's stretch holds the list
there : (c : After-stretch_of-stretch) → let a = c.args in
    Holds (contents a.head.now a.groups.now a.pairs.now) a.asker c.asked_group-group.result a.out.now c.from-key.result.0 c.pair_rows-pairs.result.now c.stretch_of-stretch.result
there c =
    let a = c.args in
    holds (contents a.head.now a.groups.now a.pairs.now) a.asker _ a.out.now c.ask_fault.ensures c.in_ok-ask_fault.was
    _ c.pair_rows-pairs.ensures _ c.from-key.ensures _ c.stretch_of-stretch.ensures

pub offset_bounds-pairs-stretch : goal.offset_bounds-pairs-stretch
offset_bounds-pairs-stretch c = let h = there (goal.at.offset_bounds-pairs-stretch c).After-stretch_of-stretch in omega (arith, h.ordered, h.inside)

pub slice_bounds-members-count : goal.slice_bounds-members-count
slice_bounds-members-count c = let h = there (goal.at.slice_bounds-members-count c).After-stretch_of-stretch in omega (arith, h.ordered, h.inside)

pub slice_bounds-members-start : goal.slice_bounds-members-start
slice_bounds-members-start c = let h = there (goal.at.slice_bounds-members-start c).After-stretch_of-stretch in omega (arith, h.ordered, h.inside)

pub slice_bounds-members-end : goal.slice_bounds-members-end
slice_bounds-members-end c = let h = there (goal.at.slice_bounds-members-end c).After-stretch_of-stretch in omega (arith, h.ordered, h.inside)

pub list_pairs-requires : goal.list_pairs-requires
list_pairs-requires c =
    record { fits = c.if-out-members.false; mine = (there (goal.at.list_pairs-requires c).After-stretch_of-stretch).mine _ (omega arith) }

pub returns-then-out-members : goal.returns-then-out-members
returns-then-out-members c =
    rw (← c.asked_group-group.ensures) ((there (goal.at.returns-then-out-members c).After-stretch_of-stretch).full _ (omega arith) c.if-out-members.true)

pub returns : goal.returns
returns c =
    rw (← c.asked_group-group.ensures) ((there (goal.at.returns c).After-stretch_of-stretch).fits _ (omega arith) c.if-out-members.false _ c.list_pairs.ensures)
