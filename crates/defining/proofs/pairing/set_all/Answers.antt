-- `defining::set_all` meets its contract: the pairs from a group and a radio on are put.
use mathlib.Core.Path.{◌≡◌, refl, sym, ap, ◌∙◌}
use Prim.Native.Nat.{ℕ, ◌+◌, ◌-◌, ◌*◌, ◌<◌}
use native.Mathlib.Omega.{arith}
use lib.Dec.{ltb}
use lib.ListN.{length}
use Rattle.std.proofs.lemmas.Nat.{mul-add-lt}
use Rattle.rules.specs.Mark.{fresh}
use Rattle.rules.specs.Steps.{product}
use Rattle.rules.proofs.Rises.{rises-climbs, below-trans}
use Rattle.rules.proofs.ByNumber.{pairs-linear}
use Rattle.rules.proofs.Pairs.{product-length}
use Rattle.order.specs.Keys.{keys_held}
use Rattle.store.specs.Storage.{pair_of, pair_row}
use Rattle.defining.proofs.Products.{product-climbs, product_at}
use Rattle.defining.proofs.Downward.{putting-starts, putting-ends, Turn, turn}
use Rattle.defining.proofs.pairing.set_all.Goals as goal
use Rattle.defining.proofs.pairing.set_all.Goals.{After-at-in-loop-k}

-- the turn that puts the pair at hand
turns : (c : After-at-in-loop-k) →
    let a = c.args in
    let gs = keys_held a.named.now in
    let rs = keys_held a.radios.now in
    let l = c.loop-k in
    Turn pairs-linear (λ k. fresh a.state) pair_of pair_row (product gs rs) a.pairs.now a.count ((c.loop-j.j - 1) * length rs + (l.k - 1))
    l.step.left l.step.by l.pairs (c.at.result.0, c.at-in-loop-k.result.0)
turns c =
    let a = c.args in
    let gs = keys_held a.named.now in
    let rs = keys_held a.radios.now in
    let l = c.loop-k in
    let j = c.loop-j.j - 1 in
    let k = l.k - 1 in
    let p : j < length gs = omega (arith, c.len-j.ensures.value) in
    let q : k < length rs = omega (arith, c.len-width.ensures.value) in
    let climbs = product-climbs gs rs (rises-climbs ltb below-trans gs c.requires.1) (rises-climbs ltb below-trans rs c.requires.2) in
    let e : j * length rs + l.k ≡ j * length rs + k + 1 = omega arith in
    let inside : j * length rs + k < length (product gs rs) = omega (arith, product-length gs rs, mul-add-lt j (length rs) k (length gs) p q) in
    turn pairs-linear (λ k. fresh a.state) pair_of pair_row (product gs rs) a.pairs.now a.count a.more c.requires.0 climbs
    (j * length rs + k) l.step.left l.step.by l.pairs (rw e at l.invariant) (0, 0) _ inside
    ((λ t. (c.at.ensures t, c.at-in-loop-k.ensures t)) ∙ sym (product_at gs rs j k p q))

pub loop-j-init : goal.loop-j-init
loop-j-init c =
    let a = c.args in
    let gs = keys_held a.named.now in
    let rs = keys_held a.radios.now in
    let n : c.len-j.result * length rs ≡ length (product gs rs) =
    ap (λ (m : ℕ). m * length rs) c.len-j.ensures.value ∙ sym (product-length gs rs) in
    rw n (putting-starts pairs-linear (λ k. fresh a.state) pair_of pair_row (product gs rs) a.pairs.now a.count a.more c.requires.0)

pub set_pair-step-requires : goal.set_pair-step-requires
set_pair-step-requires c = (turns c).opens

pub loop-k-preserved : goal.loop-k-preserved
loop-k-preserved c =
    let d = (goal.at.loop-k-preserved c).After-at-in-loop-k in
    (turns d).next _ _ _ refl c.set_pair-step.ensures

pub returns : goal.returns
returns c =
    let a = c.args in
    let gs = keys_held a.named.now in
    let rs = keys_held a.radios.now in
    let l = c.loop-j in
    let e : l.j * length rs ≡ 0 = let z : l.j ≡ 0 = omega arith in ap (λ (m : ℕ). m * length rs) z ∙ omega arith in
    putting-ends pairs-linear (λ k. fresh a.state) pair_of pair_row (product gs rs) a.pairs.now a.count a.more
    c.requires.0 l.step.left l.step.by l.pairs (rw e at l.invariant)
