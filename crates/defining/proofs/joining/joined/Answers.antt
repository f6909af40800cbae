-- `defining::joined` meets its contract: the first of those who come are entered.
use mathlib.Core.Path.{◌≡◌, sym, ap, subst, ◌∙◌}
use native.Mathlib.Omega.{arith}
use mathlib.Core.List.{List, ◌++◌}
use Prim.Native.Nat.{ℕ, ◌+◌, ◌≤◌, ◌<◌}
use lib.ListN.{length, get_or}
use lib.Seq.{take_all}
use Rattle.rules.specs.Lists.{rising, Rising}
use Rattle.rules.specs.Owners.{max_owners}
use Rattle.order.specs.Keys.{placed, keys_held}
use Rattle.order.specs.declared.RadioKey.{RadioKey}
use Rattle.order.specs.declared.keys.Keys.{Keys}
use Rattle.order.proofs.KeyLaws.{keys-held}
use Rattle.store.specs.Storage.{group_of}
use Rattle.defining.proofs.Entering.{up_to, join-starts, join-few, join-turn}
use Rattle.defining.proofs.joining.joined.Goals as goal
use Rattle.defining.proofs.joining.joined.Goals.{After-as_slice-owner-items}

-- those who stand, and those who come
abbrev standing : After-as_slice-owner-items → List ℕ
standing c = keys_held c.held_owners-standing.result

abbrev coming : After-as_slice-owner-items → List ℕ
coming c = keys_held c.args.come.now

owned : (c : After-as_slice-owner-items) → standing c ≡ (group_of c.args.row).1.owners
owned c = ap keys_held c.held_owners-standing.ensures ∙ keys-held max_owners _

few : (c : After-as_slice-owner-items) → length (rising (standing c ++ coming c)) ≤ max_owners
few c = rw (owned c) c.requires.few

pub loop-owner-init : goal.loop-owner-init
loop-owner-init c =
    let held = c.held_owners-standing in
    let starts = join-starts (standing c) (coming c) (subst Rising (sym (owned c)) c.requires.rises) ∙ owned c in (
      ap (λ (o : Keys RadioKey 16). o.key) held.ensures ∙ ap (placed max_owners) (sym starts),
      ap (λ (o : Keys RadioKey 16). o.count) held.ensures ∙ ap length (sym starts),
    )

pub loop-owner-preserved : goal.loop-owner-preserved
loop-owner-preserved c =
    let d = (goal.at.loop-owner-preserved c).After-as_slice-owner-items in
    let l = c.loop-owner in
    let inside : l.owner-index < length (coming d) = omega (arith, ap length c.as_slice-owner-items.ensures, c.loop-owner-test.true) in
    let is = ap (λ (z : List ℕ). get_or z l.owner-index 0) c.as_slice-owner-items.ensures in
    join-turn (standing d) (coming d) l.owner-index _ inside is
    (join-few (standing d) (coming d) (l.owner-index + 1) (few d)) _ _ _ _ l.invariant.0 l.invariant.1
    c.enter-count.ensures

pub returns : goal.returns
returns c =
    let d = (goal.at.returns c).After-as_slice-owner-items in
    let l = c.loop-owner in
    let all : up_to (standing d) (coming d) l.owner-index ≡ rising (standing d ++ coming d) =
    ap (λ (z : List ℕ). rising (standing d ++ z)) (take_all l.owner-index (coming d)
    (omega (arith, ap length c.as_slice-owner-items.ensures, c.loop-owner-test.false))) in
    let is = all ∙ (λ i. rising (owned d i ++ coming d)) in
    λ i. record { count = (l.invariant.1 ∙ ap length is) i; key = (l.invariant.0 ∙ ap (placed max_owners) is) i; of = record {} }
