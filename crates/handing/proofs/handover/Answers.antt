-- `handing::handover` meets its contract.
use mathlib.Core.Path.{◌≡◌, sym, ◌∙◌}
use mathlib.Core.List.{[]}
use Prim.Native.Nat.{ℕ, ◌<◌}
use native.Mathlib.Omega.{arith}
use lib.Dec.{eqb, ltb}
use lib.ListN.{length, get_or, replicate}
use Rattle.std.specs.Prelude.{Ok}
use Rattle.std.proofs.lemmas.Result.{err_from_is_err_and}
use Rattle.rows.specs.Layout.{group_words}
use Rattle.order.specs.Steps.{handover_step}
use Rattle.store.specs.Storage.{contents, ledger_of}
use Rattle.store.specs.Places.{place_of}
use Rattle.replies.specs.Orders.{reply_of, verdict}
use Rattle.replies.proofs.Orders.{refused-stays, taken_step, taken-after}
use Rattle.making.specs.Row.{made_row}
use Rattle.handing.proofs.Handing.{group_named, group-in-rows, no-group-refused, owners-set, handed-laid}
use Rattle.handing.proofs.handover.Goals as goal
use Rattle.handing.proofs.handover.Goals.{After-place}

-- the place that was looked for
place : (c : After-place) → let a = c.args in
    c.place.result ≡ place_of ltb eqb (ledger_of (contents a.head.now a.groups.now a.pairs.now)).groups (group_named a.asker a.group)
place c = rw (c.group_rows.ensures, c.group_in-key.ensures) at c.place.ensures

-- what stands there is lent
inside : (c : After-place) (at : ℕ) → c.place.result ≡ Ok at → at < length c.args.groups.now
inside c at e =
    let a = c.args in
    let w = c.handover_fault.ensures.sound c.in_ok-handover_fault.was in
    let r = group-in-rows (contents a.head.now a.groups.now a.pairs.now) w (Ok at) _ (sym e ∙ place c) in
    omega (arith, r.inside, w.groups, w.few_groups)

pub returns-in_err-handover_fault : goal.returns-in_err-handover_fault
returns-in_err-handover_fault c =
    let a = c.args in
    let e = err_from_is_err_and c.from_residual.result c.from_residual.ensures.1 in
    let told = sym c.in_err-handover_fault.was ∙ c.handover_fault.ensures.judges in
    rw (e.1, e.2)
    (record { replies = told; leaves = refused-stays (contents a.head.now a.groups.now a.pairs.now) (handover_step a.asker a.group a.owners) _ told })

-- a handover that is taken finds the contents that are lent in their form
pub unreachable-requires : goal.unreachable-requires
unreachable-requires c =
    let a = c.args in
    let held = contents a.head.now a.groups.now a.pairs.now in
    let step = handover_step a.asker a.group a.owners in
    let sound = c.handover_fault.ensures.sound c.in_ok-handover_fault.was in
    let taken : Ok tt ≡ reply_of (verdict held step) = sym c.in_ok-handover_fault.was ∙ c.handover_fault.ensures.judges in
    no-group-refused held sound a.asker a.group a.owners _ (sym c.in_default.is ∙ place (goal.at.unreachable-requires c).After-place)
    (taken_step held step taken).1

pub offset_bounds-groups-at : goal.offset_bounds-groups-at
offset_bounds-groups-at c = let h = inside (goal.at.offset_bounds-groups-at c).After-place c.in-Ok.at c.in-Ok.is in omega (arith, h)

pub slice_copy_out-old : goal.slice_copy_out-old
slice_copy_out-old c = let h = inside (goal.at.slice_copy_out-old c).After-place c.in-Ok.at c.in-Ok.is in omega (arith, h)

pub offset_bounds-groups-at-2 : goal.offset_bounds-groups-at-2
offset_bounds-groups-at-2 c = let h = inside (goal.at.offset_bounds-groups-at-2 c).After-place c.in-Ok.at c.in-Ok.is in omega (arith, h)

pub bounds-groups-at : goal.bounds-groups-at
bounds-groups-at c = let h = inside (goal.at.bounds-groups-at c).After-place c.in-Ok.at c.in-Ok.is in omega (arith, h)

pub returns : goal.returns
returns c =
    let a = c.args in
    let held = contents a.head.now a.groups.now a.pairs.now in
    let step = handover_step a.asker a.group a.owners in
    let sound = c.handover_fault.ensures.sound c.in_ok-handover_fault.was in
    let taken : Ok tt ≡ reply_of (verdict held step) = sym c.in_ok-handover_fault.was ∙ c.handover_fault.ensures.judges in
    let t = taken_step held step taken in
    let old = get_or a.groups.now c.in-Ok.at [] in
    let os = owners-set held sound a.asker a.group a.owners t.1 _ c.owners_in-owners.ensures in
    let row = c.made_row.ensures ∙ (λ j. made_row (c.group_in-key.ensures j) (replicate group_words 0) old (os j)) in
    record {
      replies = taken;
      leaves = handed-laid held sound a.asker a.group a.owners t.1 _ (sym c.in-Ok.is ∙ place (goal.at.returns c).After-place) _ row
          ∙ sym (taken-after held step t.0 t.1).1;
    }
