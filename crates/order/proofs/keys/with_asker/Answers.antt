-- `order::with_asker` meets its contract: the asker, then those passed that differ from him.
use native.Mathlib.Omega.{arith}
use lib.Seq.{take_all}
use Rattle.rules.specs.Written.{max_owners}
use Rattle.order.proofs.ListLaws.{keys-whole}
use borrow.Author.Rules.{rules}
use Rattle.order.proofs.keys.with_asker.Goals as goal

pub returns : goal.returns
returns c =
    let a = c.args in
    let l = c.loop-owner in
    let e = take_all l.owner-index a.listed.now (search rules) in
    let w = keys-whole max_owners _ l.key l.count (omega (arith, l.invariant.1)) (rw e at l.invariant.2) l.invariant.3 in
    λ i. record { count = w.0 i; key = w.1 i; of = record {} }
