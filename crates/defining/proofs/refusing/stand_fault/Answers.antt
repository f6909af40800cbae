-- `defining::stand_fault` meets its contract.
use mathlib.Core.Path.{◌≡◌, sym, ◌∙◌}
use mathlib.Core.Bool.{◌||◌, not}
use mathlib.Core.List.{map}
use Prim.Native.Nat.{ℕ, ◌+◌, ◌≤◌, ◌*◌}
use native.Mathlib.Omega.{arith}
use native.Mathlib.Nat.{mul-le-mul}
use lib.Dec.{eqb, ltb}
use lib.ListN.{length, length-map}
use borrow.Author.Tests.{lt-ltb, le-ltb}
use Rattle.rules.specs.Named.{max_numbers}
use Rattle.rules.specs.Lists.{any, present}
use Rattle.rules.specs.Entries.{find}
use Rattle.rules.specs.Ledger.{same_pair}
use Rattle.rules.specs.Refusals.{max_groups, max_pairs}
use Rattle.rules.specs.Owners.{max_owners}
use Rattle.rules.proofs.ByNumber.{numbers-linear}
use Rattle.rules.proofs.ListLaws.{length-keep}
use Rattle.order.specs.Keys.{keys_held}
use Rattle.store.specs.Storage.{group_of, pair_of}
use Rattle.store.specs.Named.{group_fault}
use Rattle.store.specs.declared.Standing.TheVariants.{Taken}
use Rattle.store.proofs.LookedUp.{faults-found}
use Rattle.store.proofs.PlaceLaws.{looked-found}
use Rattle.making.specs.Owners.{owner_total}
use Rattle.defining.specs.Totals.{new_groups, new_radios, new_pairs}
use Rattle.defining.proofs.Sums.{sum-most}
use Rattle.defining.proofs.refusing.stand_fault.Goals as goal
use Rattle.defining.proofs.refusing.stand_fault.Goals.{After-any_group, After-any_crowded, After-len-2, After-new_pairs}

-- the totals are those of the lists
full : (c : After-new_pairs) → let a = c.args in
    let gs = map group_of a.ordered.groups.now in
    let ps = map pair_of a.ordered.pairs.now in
    let named = keys_held a.parts.now.named in
    (ltb max_groups (length a.ordered.groups.now + c.new_groups.result) || ltb max_pairs (length a.ordered.pairs.now + c.new_pairs.result))
    ≡ (ltb max_groups (length gs + new_groups gs named)
    || ltb max_pairs (length ps + new_pairs ps (keys_held a.parts.now.radios) named))
full c =
    let a = c.args in
    let n = sym (length-map a.ordered.groups.now group_of) in
    let m = sym (length-map a.ordered.pairs.now pair_of) in
    λ i. ltb max_groups (n i + c.new_groups.ensures i) || ltb max_pairs (m i + c.new_pairs.ensures i)

-- whether a named group is another's, by what is found
owned : (c : After-any_group) → let a = c.args in
    c.any_group.result ≡ any (λ g. group_fault Taken (find eqb (map group_of a.ordered.groups.now) g) a.asker.0) (keys_held a.parts.now.named)
owned c =
    let a = c.args in
    c.any_group.ensures ∙ faults-found (map group_of a.ordered.groups.now) a.ordered.in_order.groups_rise Taken a.asker.0 (keys_held a.parts.now.named)

-- whether one would have too many owners
crowded : (c : After-any_crowded) → let a = c.args in
    let groups = map group_of a.ordered.groups.now in
    c.any_crowded.result ≡ any (λ g. ltb max_owners (owner_total (find eqb groups g) (keys_held a.parts.now.owners))) (keys_held a.parts.now.named)
crowded c =
    let a = c.args in
    let groups = map group_of a.ordered.groups.now in
    c.any_crowded.ensures
    ∙ (λ i. any (λ g. ltb max_owners (owner_total (looked-found numbers-linear groups g a.ordered.in_order.groups_rise i) (keys_held a.parts.now.owners)))
    (keys_held a.parts.now.named))

-- no more groups or pairs are new than the lists have places for
few-groups : (c : After-len-2) → new_groups (map group_of c.args.ordered.groups.now) (keys_held c.args.parts.now.named) ≤ max_numbers
few-groups c =
    let a = c.args in
    omega (
      arith,
      length-keep (λ (g : ℕ). not (present (find eqb (map group_of a.ordered.groups.now) g))) (keys_held a.parts.now.named),
      c.len.ensures.value,
      c.len.ensures.few,
    )

few-pairs : (c : After-len-2) →
    new_pairs (map pair_of c.args.ordered.pairs.now) (keys_held c.args.parts.now.radios) (keys_held c.args.parts.now.named) ≤ max_numbers * max_numbers
few-pairs c =
    let a = c.args in
    let ps = map pair_of a.ordered.pairs.now in
    let rs = keys_held a.parts.now.radios in
    let gs = keys_held a.parts.now.named in
    let each : (g : ℕ) → new_radios ps rs g ≤ length rs = λ g. length-keep (λ (r : ℕ). not (present (find same_pair ps (g, r)))) rs in
    let few : length gs ≤ max_numbers = omega (arith, c.len.ensures.value, c.len.ensures.few) in
    let few-radios : length rs ≤ max_numbers = omega (arith, c.len-2.ensures.value, c.len-2.ensures.few) in
    let most : length gs * length rs ≤ max_numbers * max_numbers = mul-le-mul few few-radios in
    omega (arith, sum-most (new_radios ps rs) (length rs) each gs, most)

pub overflow_mul-orders : goal.overflow_mul-orders
overflow_mul-orders c =
    let most : c.len.result * c.len-2.result ≤ max_numbers * max_numbers = mul-le-mul c.len.ensures.few c.len-2.ensures.few in
    omega (arith, most)

pub returns-then-any_group : goal.returns-then-any_group
returns-then-any_group c = rw (sym (owned (goal.at.returns-then-any_group c).After-any_group) ∙ c.if-any_group.true)

pub returns-then-any_crowded : goal.returns-then-any_crowded
returns-then-any_crowded c =
    let p = goal.at.returns-then-any_crowded c in
    let o = sym (owned p.After-any_group) ∙ c.if-any_group.false in
    let w = sym (crowded p.After-any_crowded) ∙ c.if-any_crowded.true in
    rw (o, w)

pub overflow_add-group_total : goal.overflow_add-group_total
overflow_add-group_total c =
    let d = (goal.at.overflow_add-group_total c).After-len-2 in
    omega (arith, few-groups d, c.new_groups.ensures, c.args.ordered.in_order.few_groups)

pub new_pairs-requires : goal.new_pairs-requires
new_pairs-requires c = few-pairs (goal.at.new_pairs-requires c).After-len-2

pub overflow_add-pair_total : goal.overflow_add-pair_total
overflow_add-pair_total c =
    let d = (goal.at.overflow_add-pair_total c).After-len-2 in
    omega (arith, few-pairs d, c.new_pairs.ensures, c.args.ordered.in_order.few_pairs)

pub returns-then-full : goal.returns-then-full
returns-then-full c =
    let p = goal.at.returns-then-full c in
    let o = sym (owned p.After-any_group) ∙ c.if-any_group.false in
    let w = sym (crowded p.After-any_crowded) ∙ c.if-any_crowded.false in
    rw (o, w, ← full p.After-new_pairs, c.if-full.true)

pub returns-then-room-orders : goal.returns-then-room-orders
returns-then-room-orders c =
    let p = goal.at.returns-then-room-orders c in
    let o = sym (owned p.After-any_group) ∙ c.if-any_group.false in
    let w = sym (crowded p.After-any_crowded) ∙ c.if-any_crowded.false in
    rw (o, w, ← full p.After-new_pairs, c.if-full.false, ← c.len.ensures.value, ← c.len-2.ensures.value, lt-ltb _ _ c.if-room-orders.true)

pub returns : goal.returns
returns c =
    let p = goal.at.returns c in
    let o = sym (owned p.After-any_group) ∙ c.if-any_group.false in
    let w = sym (crowded p.After-any_crowded) ∙ c.if-any_crowded.false in
    rw (o, w, ← full p.After-new_pairs, c.if-full.false, ← c.len.ensures.value, ← c.len-2.ensures.value, le-ltb _ _ c.if-room-orders.false)
