-- `deleting::delete` meets its contract.
use mathlib.Core.Path.{◌≡◌, sym, ap, subst, ◌∙◌}
use native.Mathlib.Omega.{arith}
use Prim.Native.Nat.{ℕ, ◌≤◌}
use mathlib.Core.Bool.{true, false, not, ◌&&◌}
use mathlib.Core.List.{List, map}
use mathlib.Core.Option.{none}
use lib.ListN.{length, take, length-set}
use borrow.Author.Rules.{rules}
use Rattle.std.specs.Prelude.{Err}
use Rattle.rules.specs.Named.{numbers}
use Rattle.rules.specs.Order.{Step}
use Rattle.rules.specs.Ledger.{Group, Pair}
use Rattle.rules.specs.Mark.{Mark}
use Rattle.rules.specs.Outgoing.{Outgoing}
use Rattle.rules.specs.Steps.{refused}
use Rattle.order.specs.Lists.{numbers_of}
use Rattle.order.specs.Steps.{delete_step}
use Rattle.order.specs.Walks.{onto}
use Rattle.store.specs.Storage.{Rows, Contents, contents, pair_of, pair_count, placing, ledger_of}
use Rattle.store.specs.Form.{is_written, Sound}
use Rattle.replies.specs.Orders.{Judges}
use Rattle.replies.specs.Sending.{order_row}
use Rattle.replies.proofs.Orders.{sent-refused, sent-taken, taken_step, taken-after}
use Rattle.deleting.specs.Deassigned.{deassign_orders}
use Rattle.deleting.specs.Deletes.{named, listed, groups_left, pairs_left}
use Rattle.deleting.specs.declared.asked.Asked.{Asked}
use Rattle.store.specs.Lists.{Fills}
use Rattle.store.specs.Storage.{group_row, pair_row}
use Rattle.deleting.proofs.DeassignedLaws.{stretches}
use Rattle.deleting.proofs.Deletes.{Whole, radios_in, delete-sends, taken-whole, delete-passed, deleted-laid}
use Rattle.deleting.proofs.delete.Goals as goal
use Rattle.deleting.proofs.delete.Goals.{After-delete_fault, In_ok-delete_fault}

-- what it finds, and the step
abbrev found : After-delete_fault → Contents
found c = contents c.args.head.now c.args.groups.now c.args.pairs.now

abbrev step : After-delete_fault → Step
step c = let a = c.args in delete_step a.asker a.named a.remove a.deassign a.radios a.acknowledgement (length a.out.now)

judged : (c : After-delete_fault) → Judges (found c) (step c) c.delete_fault.result
judged c =
    let a = c.args in
    let P : Asked → Type 0 = λ p. Judges (found c) (delete_step a.asker a.named p.remove p.deassign a.radios a.acknowledgement (length a.out.now))
    c.delete_fault.result in
    subst P c.read-asks.ensures (c.delete_fault.ensures a.acknowledgement)

pub returns-in_err-delete_fault : goal.returns-in_err-delete_fault
returns-in_err-delete_fault c =
    let d = (goal.at.returns-in_err-delete_fault c).After-delete_fault in
    let r = c.in_err-delete_fault.field-0.0 in
    let back : c.from_residual.result ≡ Err r = search rules in
    let t = sent-refused (found d) (step d) r (sym c.in_err-delete_fault.was ∙ (judged d).judges) in
    record { replies = back ∙ t.0; leaves = t.1; sends = rw t.2 }

-- ---- a delete that is not refused ----

abbrev start : In_ok-delete_fault → After-delete_fault
start c = (goal.at.In_ok-delete_fault c).After-delete_fault

-- it finds the contents in their form
sound : (c : In_ok-delete_fault) → Sound (found (start c))
sound c = (judged (start c)).sound c.in_ok-delete_fault.was

taken : (c : In_ok-delete_fault) → (is_written (found (start c)) ≡ true) × (refused placing (ledger_of (found (start c))) (step (start c)) ≡ none)
taken c = taken_step (found (start c)) (step (start c)) (sym c.in_ok-delete_fault.was ∙ (judged (start c)).judges)

-- its lists are read whole
whole : (c : In_ok-delete_fault) → let a = c.args in
    Whole (found (start c)) (sound c) a.asker a.named a.remove a.deassign a.radios a.acknowledgement (length a.out.now) c.read-asks.result
whole c =
    let a = c.args in
    taken-whole (found (start c)) (sound c) a.asker a.named a.remove a.deassign a.radios a.acknowledgement (length a.out.now) (taken c).1
    c.read-asks.result c.read-asks.ensures

-- it has something to do, and room for what it sends
passed : (c : In_ok-delete_fault) → let a = c.args in
    ((not a.remove && not a.deassign) ≡ false)
    × (length (deassign_orders a.deassign (radios_in a.asker a.radios) (ledger_of (found (start c))).pairs (numbers a.asker.1 (numbers_of a.named)))
    ≤ length a.out.now)
passed c =
    let a = c.args in
    delete-passed (found (start c)) (sound c) a.asker a.named a.remove a.deassign a.radios a.acknowledgement (length a.out.now) (taken c).1

-- what is sent is what the law sends
sent : (c : In_ok-delete_fault) (rows : Rows) → rows ≡ take (pair_count (found (start c))) c.args.pairs.now →
    let a = c.args in
    let asks = c.read-asks.result in
    deassign_orders asks.deassign (listed asks) (map pair_of rows) (named asks)
    ≡ deassign_orders a.deassign (radios_in a.asker a.radios) (ledger_of (found (start c))).pairs (numbers a.asker.1 (numbers_of a.named))
sent c rows e =
    let d = ap (λ (p : Asked). p.deassign) c.read-asks.ensures in
    let w = whole c in
    λ i. deassign_orders (d i) (w.radios-whole i) (map pair_of (e i)) (w.groups-whole i)

pub invariant_of-stretches : goal.invariant_of-stretches
invariant_of-stretches c =
    let q = (goal.at.invariant_of-stretches c).In_ok-delete_fault in
    record { stretches = rw c.pair_rows.ensures (stretches (found (start q)) (sound q)) }

pub send_orders-sent-requires : goal.send_orders-sent-requires
send_orders-sent-requires c =
    let q = (goal.at.send_orders-sent-requires c).In_ok-delete_fault in
    rw (sent q c.pair_rows.result.now c.pair_rows.ensures) (passed q).1

pub bounds-head-0 : goal.bounds-head-0
bounds-head-0 c = let w = sound (goal.at.bounds-head-0 c).In_ok-delete_fault in omega (arith, w.head)

pub bounds-head-1 : goal.bounds-head-1
bounds-head-1 c = let w = sound (goal.at.bounds-head-1 c).In_ok-delete_fault in omega (arith, w.head)

pub delete_groups-requires : goal.delete_groups-requires
delete_groups-requires c =
    let w = sound (goal.at.delete_groups-requires c).In_ok-delete_fault in
    (omega (arith, w.groups, w.few_groups), w.group_rows)

pub bounds-head-0-2 : goal.bounds-head-0-2
bounds-head-0-2 c = let w = sound (goal.at.bounds-head-0-2 c).In_ok-delete_fault in omega (arith, w.head)

pub bounds-head-1-2 : goal.bounds-head-1-2
bounds-head-1-2 c =
    let w = sound (goal.at.bounds-head-1-2 c).In_ok-delete_fault in
    rw (length-set c.args.head.now 0 c.delete_groups.result) w.head

pub returns : goal.returns
returns c =
    let q = (goal.at.returns c).In_ok-delete_fault in
    let a = c.args in
    let x = found (start q) in
    let w = whole q in
    let k = taken q in
    let r = ap (λ (p : Asked). p.remove) c.read-asks.ensures in
    let fo = rw (sent q c.pair_rows.result.now c.pair_rows.ensures) at c.send_orders-sent.ensures in
    let fg = subst (λ (l : List (ℕ × Group)). Fills group_row l a.groups.now c.delete_groups.new.groups c.delete_groups.result)
    (λ i. groups_left (w.groups-whole i) (r i) (ledger_of x).groups) c.delete_groups.ensures in
    let fp = subst (λ (l : List (Pair × Mark)). Fills pair_row l a.pairs.now c.delete_pairs.new.pairs c.delete_pairs.result)
    (λ i. pairs_left (w.groups-whole i) (r i) (w.radios-whole i) a.acknowledgement (ledger_of x).pairs) c.delete_pairs.ensures in
    let sends = delete-sends x (sound q) a.asker a.named a.remove a.deassign a.radios a.acknowledgement (length a.out.now) in
    let t = sent-taken x (step (start q)) k.0 k.1 _ _ sends fo.counts in
    let l = deleted-laid x (sound q) a.asker a.named a.remove a.deassign a.radios a.acknowledgement (length a.out.now)
    (passed q).0 _ _ _ _ fg fp in
    record {
      replies = t.0;
      leaves = l ∙ sym (taken-after x (step (start q)) k.0 k.1).1;
      sends = fo.rows ∙ ap (λ (z : List Outgoing). onto (map order_row z) a.out.now) (sym t.1);
    }
