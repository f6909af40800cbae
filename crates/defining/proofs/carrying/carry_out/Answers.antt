-- `defining::carry_out` meets its contract.
use mathlib.Core.Path.{◌≡◌, refl, ap, ◌∙◌}
use mathlib.Core.List.{map}
use native.Mathlib.Omega.{arith}
use lib.Seq.{length-take-le}
use Rattle.rules.specs.Lists.{in_order}
use Rattle.rules.specs.Named.{max_numbers}
use Rattle.order.specs.Keys.{keys_held}
use Rattle.order.proofs.KeyLaws.{keys-held}
use Rattle.store.specs.Storage.{Rows, Contents, contents, group_of, pair_of, group_count, pair_count, ledger_of}
use Rattle.store.proofs.FormLaws.{groups-rise, pairs-rise}
use Rattle.defining.specs.Totals.{new_groups, new_pairs}
use Rattle.defining.proofs.Carried.{sorted_rises, made-total, set-total, groups-grow, groups-taken, pairs-taken, carried-laid}
use Rattle.defining.proofs.carrying.carry_out.Goals as goal
use Rattle.defining.proofs.carrying.carry_out.Goals.{Start, After-new_pairs-more_pairs, After-rising-these, After-rising-those}

-- the contents that it finds, the groups and the radios
abbrev found : Start → Contents
found s = contents s.args.head.now s.args.groups.now s.args.pairs.now

pub invariant_of-ordered : goal.invariant_of-ordered
invariant_of-ordered c =
    let s = (goal.at.invariant_of-ordered c).Start in
    let x = found s in
    let w = c.requires.sound in
    record {
      in_order = rw (c.group_rows.ensures, c.pair_rows.ensures) (record {
        few_groups = omega (arith, w.few_groups, length-take-le (group_count x) x.groups (omega (arith, w.groups, w.few_groups)));
        few_pairs = omega (arith, w.few_pairs, length-take-le (pair_count x) x.pairs (omega (arith, w.pairs, w.few_pairs)));
        groups_rise = groups-rise x w;
        pairs_rise = pairs-rise x w;
      });
    }

pub new_pairs-more_pairs-requires : goal.new_pairs-more_pairs-requires
new_pairs-more_pairs-requires c =
    let s = (goal.at.new_pairs-more_pairs-requires c).Start in
    let a = c.args in
    let p = a.parts.now in
    rw c.pair_rows.ensures (omega (
      arith,
      set-total (found s) a.order (keys_held p.owners) (keys_held p.named) (keys_held p.radios) a.state c.requires,
      c.requires.few_pairs,
    ))

-- how many groups and pairs are new
more-groups : (c : After-new_pairs-more_pairs) → let s = (goal.at.After-new_pairs-more_pairs c).Start in
    c.new_groups-more_groups.result ≡ new_groups (ledger_of (found s)).groups (keys_held c.args.parts.now.named)
more-groups c = c.new_groups-more_groups.ensures ∙ ap (λ (rows : Rows). new_groups (map group_of rows) (keys_held c.args.parts.now.named)) c.group_rows.ensures

more-pairs : (c : After-new_pairs-more_pairs) → let s = (goal.at.After-new_pairs-more_pairs c).Start in
    c.new_pairs-more_pairs.result ≡ new_pairs (ledger_of (found s)).pairs (keys_held c.args.parts.now.radios) (keys_held c.args.parts.now.named)
more-pairs c =
    c.new_pairs-more_pairs.ensures
    ∙ ap (λ (rows : Rows). new_pairs (map pair_of rows) (keys_held c.args.parts.now.radios) (keys_held c.args.parts.now.named)) c.pair_rows.ensures

-- the groups, rising, and the radios
these : (c : After-rising-these) → keys_held c.rising-these.result ≡ in_order (keys_held c.args.parts.now.named)
these c = ap keys_held c.rising-these.ensures ∙ keys-held max_numbers (in_order (keys_held c.args.parts.now.named))

those : (c : After-rising-those) → keys_held c.rising-those.result ≡ in_order (keys_held c.args.parts.now.radios)
those c = ap keys_held c.rising-those.ensures ∙ keys-held max_numbers (in_order (keys_held c.args.parts.now.radios))

pub make_groups-requires : goal.make_groups-requires
make_groups-requires c =
    let d = goal.at.make_groups-requires c in
    let s = d.Start in
    let n = d.After-new_pairs-more_pairs in
    let g = these d.After-rising-these in
    let a = c.args in
    let p = a.parts.now in
    let r = in_order (keys_held p.radios) in (
      groups-taken (found s) a.order (keys_held p.owners) (keys_held p.named) (keys_held p.radios) a.state c.requires _ r g refl _ _ (more-groups n) (more-pairs n),
      groups-grow (found s) a.order (keys_held p.owners) (keys_held p.named) (keys_held p.radios) a.state c.requires _ r g refl _ _ (more-groups n) (more-pairs n),
      c.requires.row,
      rw g (sorted_rises (keys_held p.named) c.requires.groups_once),
    )

pub set_all-requires : goal.set_all-requires
set_all-requires c =
    let d = goal.at.set_all-requires c in
    let n = d.After-new_pairs-more_pairs in
    let g = these d.After-rising-these in
    let r = those d.After-rising-those in
    let a = c.args in
    let p = a.parts.now in (
      pairs-taken (found d.Start) a.order (keys_held p.owners) (keys_held p.named) (keys_held p.radios) a.state c.requires _ _ g r _ _ (more-groups n)
          (more-pairs n),
      rw g (sorted_rises (keys_held p.named) c.requires.groups_once),
      rw r (sorted_rises (keys_held p.radios) c.requires.radios_once),
    )

pub overflow_add-head : goal.overflow_add-head
overflow_add-head c =
    let d = goal.at.overflow_add-head c in
    let a = c.args in
    let p = a.parts.now in
    omega (
      arith,
      more-groups d.After-new_pairs-more_pairs,
      made-total (found d.Start) a.order (keys_held p.owners) (keys_held p.named) (keys_held p.radios) a.state c.requires,
      c.requires.few_groups,
    )

pub overflow_add-head-2 : goal.overflow_add-head-2
overflow_add-head-2 c =
    let d = goal.at.overflow_add-head-2 c in
    let a = c.args in
    let p = a.parts.now in
    omega (
      arith,
      more-pairs d.After-new_pairs-more_pairs,
      set-total (found d.Start) a.order (keys_held p.owners) (keys_held p.named) (keys_held p.radios) a.state c.requires,
      c.requires.few_pairs,
    )

pub returns : goal.returns
returns c =
    let d = goal.at.returns c in
    let n = d.After-new_pairs-more_pairs in
    let g = these d.After-rising-these in
    let r = those d.After-rising-those in
    let a = c.args in
    let p = a.parts.now in
    carried-laid (found d.Start) a.order (keys_held p.owners) (keys_held p.named) (keys_held p.radios) a.state c.requires _ _ g r _ _
    (more-groups n) (more-pairs n) _ _ c.make_groups.ensures c.set_all.ensures
