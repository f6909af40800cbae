-- `answering::settle` meets its contract.
use mathlib.Core.List.{[]}
use native.Mathlib.Omega.{arith}
use lib.ListN.{get_or}
use Rattle.rules.specs.Mark.{fresh}
use Rattle.store.specs.Storage.{pair_of, pair_row}
use Rattle.store.proofs.OneRow.{row-replaced}
use Rattle.answering.proofs.OneRow.{row-taken}
use Rattle.answering.proofs.settle.Goals as goal

pub returns-in_default : goal.returns-in_default
returns-in_default c =
    let a = c.args in
    rw (c.in_default.is, c.copy_within.ensures.after)
    (row-taken pair_of pair_row a.pairs.now a.count a.at (omega arith) (omega arith) c.requires.2)

pub returns : goal.returns
returns c =
    let a = c.args in
    rw c.in-Some.is
    (row-replaced pair_of pair_row a.pairs.now a.count a.at (omega arith) (omega arith) c.requires.2
    ((pair_of (get_or a.pairs.now a.at [])).0, fresh c.in-Some.state))
