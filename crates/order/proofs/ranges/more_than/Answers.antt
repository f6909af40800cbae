-- `order::more_than` meets its contract.
use mathlib.Core.Path.{◌≡◌, ◌∙◌}
use lib.Dec.{ltb}
use lib.ListN.{length}
use borrow.Author.Tests.{eq-eqb, ne_eqb}
use Rattle.rules.specs.Named.{span}
use Rattle.order.proofs.ListLaws.{nobody}
use Rattle.order.proofs.RangeLaws.{range-long, listed-short}
use borrow.Author.Rules.{rules}
use Rattle.order.proofs.ranges.more_than.Goals as goal

pub returns-then-listed-eq1 : goal.returns-then-listed-eq1
returns-then-listed-eq1 c =
    let a = c.args in
    let n = a.listed.now in
    let ten : length n.identity ≡ 10 = search rules in
    let first = c.identity_key-first.ensures in
    let last = c.identity_key-last.ensures in
    range-long a.home n.identity nobody ten n.code a.most.count _ (eq-eqb n.code 1 c.if-listed-eq1.true)
    (c.too_long.ensures ∙ (λ i. ltb a.most.count (span (first i) (last i))))

pub returns-else-listed-eq1 : goal.returns-else-listed-eq1
returns-else-listed-eq1 c =
    let a = c.args in
    let n = a.listed.now in
    let ten : length n.identity ≡ 10 = search rules in
    let listed = ne_eqb n.code 1 c.if-listed-eq1.false in
    listed ∙ listed-short a.home n.identity nobody ten n.code a.most.count a.most.listed listed
