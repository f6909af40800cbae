-- `store::form::pairs_ok` meets its contract: the groups and pairs left tell the whole, and the rows passed are rows of pairs.
use mathlib.Core.Path.{◌≡◌, ap}
use native.Mathlib.Omega.{arith}
use mathlib.Core.Bool.{not, false≢true}
use mathlib.Core.List.{[]}
use lib.ListN.{length, drop, drop_of_length-le}
use borrow.Author.Count.{below_more}
use Rattle.store.proofs.PairWalk.{pairs_end, turn-out, turn-past, turn-next}
use borrow.Author.Rules.{rules}
use Rattle.store.proofs.form.pairs_ok.Goals as goal

pub returns-then-group-groups : goal.returns-then-group-groups
returns-then-group-groups c =
    let a = c.args in
    let l = c.loop-i in
    let t = turn-out a.groups.now a.pairs.now l.group l.i l.least _ (omega (arith, c.loop-i-test.true)) l.invariant.2 in
    (t (omega arith), λ e. absurd (false≢true e))

pub loop-i-preserved-then-groups-group : goal.loop-i-preserved-then-groups-group
loop-i-preserved-then-groups-group c =
    let a = c.args in
    let l = c.loop-i in
    let t = turn-past a.groups.now a.pairs.now l.group l.i l.least _ (omega (arith, c.loop-i-test.true)) l.invariant.2
    (omega arith) (λ e. omega (arith, c.if-groups-group.true)) in
    (search rules, search rules, t, l.invariant.3)

-- a turn at a pair of the group goes on behind it, or stops
pub returns-then-not-pair_ok : goal.returns-then-not-pair_ok
returns-then-not-pair_ok c =
    let a = c.args in
    let l = c.loop-i in
    let t = turn-next a.groups.now a.pairs.now l.group l.i l.least _ (omega (arith, c.loop-i-test.true)) l.invariant.2
    (omega arith) (omega (arith, c.if-groups-group.false)) c.pair_ok.result c.pair_ok.ensures.0 in
    (t.1 (ap not c.if-not-pair_ok.true), λ e. absurd (false≢true e))

pub loop-i-preserved : goal.loop-i-preserved
loop-i-preserved c =
    let a = c.args in
    let l = c.loop-i in
    let t = turn-next a.groups.now a.pairs.now l.group l.i l.least _ (omega (arith, c.loop-i-test.true)) l.invariant.2
    (omega arith) (omega (arith, c.if-groups-group.false)) c.pair_ok.result c.pair_ok.ensures.0 in
    (search rules, search rules, t.0 (ap not c.if-not-pair_ok.false), below_more _ _ l.invariant.3 c.pair_ok.ensures.1)

pub returns : goal.returns
returns c =
    let l = c.loop-i in
    let e : l.i ≡ length c.args.pairs.now = omega arith in
    let d : drop l.i c.args.pairs.now ≡ [] = drop_of_length-le c.args.pairs.now (omega arith) in
    (rw (d, pairs_end) at l.invariant.2, λ _. rw e at l.invariant.3)
