-- `order::keys_of` meets its contract.
use mathlib.Core.Path.{◌≡◌, sym, ap, ◌∙◌}
use mathlib.Core.List.{List}
use native.Mathlib.Omega.{arith}
use Prim.Native.Nat.{ℕ, ◌≤◌}
use lib.ListN.{length}
use borrow.Author.Tests.{eq-eqb, ne_eqb}
use Rattle.rules.specs.Named.{consecutive, numbers, span}
use Rattle.rules.proofs.InRange.{listed-numbers}
use Rattle.order.specs.Keys.{fitting, keys_as}
use Rattle.order.specs.Lists.{numbers_of}
use Rattle.order.proofs.ListLaws.{nobody}
use Rattle.order.proofs.RangeLaws.{fitting-all, ends-numbers, listed-few}
use borrow.Author.Rules.{rules}
use Rattle.order.proofs.spelling.keys_of.Goals as goal

pub returns-then-listed-eq1 : goal.returns-then-listed-eq1
returns-then-listed-eq1 g c =
    let a = c.args in
    let n = a.listed.now in
    let ten : length n.identity ≡ 10 = search rules in
    let range = eq-eqb n.code 1 c.if-listed-eq1.true in
    let first = c.identity_key-first.ensures in
    let last = c.identity_key-last.ensures in
    c.range_keys.ensures ∙ (λ i. keys_as (fitting a.most.count (consecutive (first i) (span (first i) (last i)))))
    ∙ ap (λ (l : List ℕ). keys_as (fitting a.most.count l)) (sym (ends-numbers a.home n.identity nobody ten n.code range))

pub returns : goal.returns
returns g c =
    let a = c.args in
    let n = a.listed.now in
    let ten : length n.identity ≡ 10 = search rules in
    let listed = ne_eqb n.code 1 c.if-listed-eq1.false in
    let all = numbers a.home (numbers_of n) in
    let few : length all ≤ a.most.count = omega (arith, a.most.listed, listed-few a.home n.identity nobody ten n.code listed) in
    c.listed_keys.ensures ∙ ap keys_as (sym (listed-numbers a.home (numbers_of n) listed) ∙ sym (fitting-all a.most.count all few))
