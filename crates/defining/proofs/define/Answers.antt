-- `defining::define` meets its contract.
use mathlib.Core.Path.{◌≡◌, refl, sym, ap, ◌∙◌}
use native.Mathlib.Omega.{arith}
use Prim.Native.Nat.{ℕ, ◌≤◌}
use mathlib.Core.Bool.{true}
use mathlib.Core.List.{List, map}
use mathlib.Core.Option.{none}
use lib.ListN.{length, length-take}
use Rattle.std.specs.Prelude.{Err}
use Rattle.rules.specs.Lists.{rising}
use Rattle.rules.specs.Named.{max_numbers}
use Rattle.rules.specs.Order.{define, define_groups, define_radios, define_owners}
use Rattle.rules.specs.Outgoing.{Outgoing}
use Rattle.rules.specs.Recorded.{define_of}
use Rattle.rules.specs.Effect.{effect}
use Rattle.rules.specs.Ledger.{Ledger, view}
use Rattle.rules.specs.Steps.{apply, refused}
use Rattle.rules.specs.Owners.{max_owners}
use Rattle.rules.proofs.ListLaws.{unique-once}
use Rattle.rules.proofs.Steps.{numbers-once}
use Rattle.order.specs.Numbers.{radio_number}
use Rattle.order.specs.Keys.{fitting, keys_held}
use Rattle.order.proofs.KeyLaws.{keys-held}
use Rattle.order.specs.Walks.{onto}
use Rattle.store.specs.Storage.{placing, contents, group_of, ledger_of, laid}
use Rattle.store.specs.Form.{is_written, Sound}
use Rattle.replies.specs.Sending.{order_row}
use Rattle.replies.proofs.Orders.{sent-refused, sent-taken, taken_step, taken-after}
use Rattle.defining.specs.declared.parts.Parts.{Parts}
use Rattle.defining.specs.Parts.{owners_named}
use Rattle.defining.specs.Carried.{carried}
use Rattle.defining.specs.Sent.{assign_orders}
use Rattle.defining.proofs.Making.{order-fine}
use Rattle.defining.proofs.Standing.{define-grows}
use Rattle.defining.proofs.Defining.{Passed, define-passed, parameters-said, state-said, carried-law}
use borrow.Author.Rules.{rules}
use Rattle.defining.proofs.define.Goals as goal
use Rattle.defining.proofs.define.Goals.{In_ok-define_fault, After-first_state}

-- a define that is not refused finds the contents in their form
sound : (c : In_ok-define_fault) → let a = c.args in Sound (contents a.head.now a.groups.now a.pairs.now)
sound c = c.define_fault.ensures.sound c.in_ok-define_fault.was

taken : (c : In_ok-define_fault) →
    let a = c.args in
    let x = contents a.head.now a.groups.now a.pairs.now in
    (is_written x ≡ true) × (refused placing (ledger_of x) (define (define_of (radio_number a.asker) a.values.place) (length a.out.now)) ≡ none)
taken c =
    let a = c.args in
    let x = contents a.head.now a.groups.now a.pairs.now in
    taken_step x (define (define_of (radio_number a.asker) a.values.place) (length a.out.now))
    (sym c.in_ok-define_fault.was ∙ c.define_fault.ensures.judges)

-- and room for what it makes and sends
passed : (c : In_ok-define_fault) →
    let a = c.args in
    let l = ledger_of (contents a.head.now a.groups.now a.pairs.now) in
    let o = define_of (radio_number a.asker) a.values.place in
    Passed a.values.place (apply placing l (effect (view l) (define o (length a.out.now)))) o (length a.out.now)
passed c =
    let a = c.args in
    define-passed (ledger_of (contents a.head.now a.groups.now a.pairs.now)) a.asker a.values.place (length a.out.now) (taken c).1

-- the groups, the radios and the owners are those of the order
these : (c : In_ok-define_fault) → keys_held c.parts_of-parts.result.named ≡ define_groups (define_of (radio_number c.args.asker) c.args.values.place)
these c =
    let o = define_of (radio_number c.args.asker) c.args.values.place in
    ap (λ (p : Parts). keys_held p.named) c.parts_of-parts.ensures ∙ keys-held max_numbers (fitting max_numbers (define_groups o)) ∙ (passed c).whole.groups

those : (c : In_ok-define_fault) → keys_held c.parts_of-parts.result.radios ≡ define_radios (define_of (radio_number c.args.asker) c.args.values.place)
those c =
    let o = define_of (radio_number c.args.asker) c.args.values.place in
    ap (λ (p : Parts). keys_held p.radios) c.parts_of-parts.ensures ∙ keys-held max_numbers (fitting max_numbers (define_radios o)) ∙ (passed c).whole.radios

owners : (c : In_ok-define_fault) →
    keys_held c.parts_of-parts.result.owners ≡ rising (define_owners (define_of (radio_number c.args.asker) c.args.values.place))
owners c =
    let o = define_of (radio_number c.args.asker) c.args.values.place in
    ap (λ (p : Parts). keys_held p.owners) c.parts_of-parts.ensures ∙ keys-held max_owners (rising (owners_named o)) ∙ (passed c).whole.owners

-- the owners fit a row
few : (c : In_ok-define_fault) → length (keys_held c.parts_of-parts.result.owners) ≤ max_owners
few c =
    let os = c.parts_of-parts.result.owners in
    let n : length os.key ≡ max_owners = search rules in
    omega (arith, length-take os.count os.key)

-- what is sent is what the law sends
sent : (c : In_ok-define_fault) →
    let p = c.parts_of-parts.result in
    let o = define_of (radio_number c.args.asker) c.args.values.place in
    assign_orders (keys_held p.radios) (keys_held p.named) ≡ assign_orders (define_radios o) (define_groups o)
sent c = let gs = these c in let rs = those c in λ i. assign_orders (rs i) (gs i)

-- what is carried out is what the law leaves
law : (c : After-first_state) →
    let a = c.args in
    let p = c.parts_of-parts.result in
    let x = contents a.head.now a.groups.now a.pairs.now in
    let l = ledger_of x in
    let o = define_of (radio_number a.asker) a.values.place in
    let left = apply placing l (effect (view l) (define o (length a.out.now))) in
    Sound x → Passed a.values.place left o (length a.out.now) → keys_held p.owners ≡ rising (define_owners o)
    → keys_held p.named ≡ define_groups o → keys_held p.radios ≡ define_radios o
    → carried (keys_held p.owners) (group_of c.order_row-row.result).1.parameters (keys_held p.named) (keys_held p.radios) c.first_state.result x ≡ left
law c w k os gs rs =
    let a = c.args in
    let x = contents a.head.now a.groups.now a.pairs.now in
    let l = ledger_of x in
    let o = define_of (radio_number a.asker) a.values.place in
    let said = parameters-said a.asker a.values.place l (length a.out.now) k.name in
    let new = ap (λ (z : List ℕ). (group_of z).1.parameters) c.order_row-row.ensures ∙ said in
    let state = c.first_state.ensures ∙ state-said a.asker a.values.place l (length a.out.now) in
    (λ i. carried (os i) (new i) (gs i) (rs i) (state i) x) ∙ carried-law x w o (length a.out.now)

pub returns-in_err-define_fault : goal.returns-in_err-define_fault
returns-in_err-define_fault c =
    let a = c.args in
    let x = contents a.head.now a.groups.now a.pairs.now in
    let o = define_of (radio_number a.asker) a.values.place in
    let r = c.in_err-define_fault.field-0.0 in
    let back : c.from_residual.result ≡ Err r = search rules in
    let t = sent-refused x (define o (length a.out.now)) r (sym c.in_err-define_fault.was ∙ c.define_fault.ensures.judges) in
    record { replies = back ∙ t.0; leaves = t.1; sends = rw t.2 }

pub assign_orders-sent-requires : goal.assign_orders-sent-requires
assign_orders-sent-requires c =
    let q = (goal.at.assign_orders-sent-requires c).In_ok-define_fault in
    rw (sent q) (passed q).sends

pub carry_out-requires : goal.carry_out-requires
carry_out-requires c =
    let d = goal.at.carry_out-requires c in
    let q = d.In_ok-define_fault in
    let a = c.args in
    let x = contents a.head.now a.groups.now a.pairs.now in
    let o = define_of (radio_number a.asker) a.values.place in
    let known = law d.After-first_state (sound q) (passed q) (owners q) (these q) (those q) in
    record {
      sound = sound q;
      grows = rw (these q, owners q) (define-grows x (sound q) o (length a.out.now) (passed q).few-owners (rw (← owners q) (few q)));
      row = rw c.order_row-row.ensures (order-fine a.values.place (passed q).name);
      groups_once = rw (these q) (unique-once (define_groups o) (numbers-once o.asker.extension o.groups));
      radios_once = rw (those q) (unique-once (define_radios o) (numbers-once o.asker.extension o.radios));
      few_groups = rw (ap (λ (l : Ledger). length l.groups) known) (passed q).few-groups;
      few_pairs = rw (ap (λ (l : Ledger). length l.pairs) known) (passed q).few-pairs;
    }

pub returns : goal.returns
returns c =
    let d = goal.at.returns c in
    let q = d.In_ok-define_fault in
    let a = c.args in
    let x = contents a.head.now a.groups.now a.pairs.now in
    let o = define_of (radio_number a.asker) a.values.place in
    let step = define o (length a.out.now) in
    let k = taken q in
    let os = rw (sent q) at c.assign_orders-sent.ensures in
    let known = law d.After-first_state (sound q) (passed q) (owners q) (these q) (those q) in
    let reply = sent-taken x step k.0 k.1 _ (assign_orders (define_radios o) (define_groups o)) refl os.counts in
    record {
      replies = reply.0;
      leaves = c.carry_out.ensures ∙ ap (λ (l : Ledger). laid l x) known ∙ sym (taken-after x step k.0 k.1).1;
      sends = os.rows ∙ ap (λ (z : List Outgoing). onto (map order_row z) a.out.now) (sym reply.1);
    }
