-- `defining::define_fault` meets its contract.
use mathlib.Core.Path.{◌≡◌, refl, sym, ap, ◌∙◌}
use native.Mathlib.Omega.{arith}
use mathlib.Core.List.{map}
use lib.ListN.{length}
use lib.Seq.{length-take-le}
use Rattle.std.specs.Prelude.{Err}
use Rattle.layout.specs.Frame.{places}
use Rattle.rules.specs.Lists.{rising}
use Rattle.rules.specs.Named.{max_numbers}
use Rattle.rules.specs.Owners.{max_owners}
use Rattle.rules.specs.Order.{define_groups, define_radios}
use Rattle.rules.specs.Recorded.{define_of}
use Rattle.rules.specs.Refusals.{first}
use Rattle.order.specs.Numbers.{radio_number}
use Rattle.order.specs.Keys.{fitting, keys_held}
use Rattle.order.proofs.KeyLaws.{keys-held}
use Rattle.store.specs.Lent.{contents_of}
use Rattle.store.specs.Storage.{group_of, pair_of, group_count, pair_count}
use Rattle.replies.specs.Orders.{reply_of}
use Rattle.replies.proofs.Orders.{not_done}
use Rattle.defining.specs.declared.parts.Parts.{Parts}
use Rattle.defining.specs.Parts.{owners_named}
use Rattle.defining.specs.Tests.{define_stand}
use Rattle.defining.proofs.Defining.{form-refused, stand-replies, form-whole}
use Rattle.store.proofs.FormLaws.{groups-rise, pairs-rise}
use borrow.Author.Rules.{rules}
use Rattle.defining.proofs.refusing.define_fault.Goals as goal

-- past the first test the contents are in the written form: here and below
pub returns-in_err-form_fault : goal.returns-in_err-form_fault
returns-in_err-form_fault c =
    let a = c.args in
    let x = contents_of a.lent in
    let w = c.written.ensures.1 (search rules) in
    let r = c.in_err-form_fault.field-0.0 in
    let back : c.from_residual.result ≡ Err r = search rules in
    let whole : length a.place ≡ places = search rules in
    let t = form-refused x w a.asker (record { 0 = Rattle.rules.specs.Number.key (radio_number a.asker) }) refl a.place a.room whole r
    (sym c.in_err-form_fault.was ∙ c.form_fault.ensures) in
    record { judges = back ∙ t; sound = λ e. not_done r (sym back ∙ e) }

pub invariant_of-ordered : goal.invariant_of-ordered
invariant_of-ordered c =
    let x = contents_of c.args.lent in
    let w = c.written.ensures.1 (search rules) in
    record {
      in_order = rw (c.group_rows.ensures, c.pair_rows.ensures) (record {
        few_groups = omega (arith, w.few_groups, length-take-le (group_count x) x.groups (omega (arith, w.groups, w.few_groups)));
        few_pairs = omega (arith, w.few_pairs, length-take-le (pair_count x) x.pairs (omega (arith, w.pairs, w.few_pairs)));
        groups_rise = groups-rise x w;
        pairs_rise = pairs-rise x w;
      });
    }

pub returns : goal.returns
returns c =
    let a = c.args in
    let x = contents_of a.lent in
    let w = c.written.ensures.1 (search rules) in
    let o = define_of (radio_number a.asker) a.place in
    let k = c.from in
    let whole : length a.place ≡ places = search rules in
    let q = sym c.in_ok-form_fault.was ∙ c.form_fault.ensures in
    let whole-lists = form-whole x w a.asker k.result k.ensures a.place a.room whole q in
    let named = ap (λ (p : Parts). keys_held p.named) c.requires ∙ keys-held max_numbers (fitting max_numbers (define_groups o)) ∙ whole-lists.groups in
    let radios = ap (λ (p : Parts). keys_held p.radios) c.requires ∙ keys-held max_numbers (fitting max_numbers (define_radios o)) ∙ whole-lists.radios in
    let come = ap (λ (p : Parts). keys_held p.owners) c.requires ∙ keys-held max_owners (rising (owners_named o)) ∙ whole-lists.owners in
    let told = c.stand_fault.ensures ∙ (λ i. reply_of (first (define_stand (map group_of (c.group_rows.ensures i)) (map pair_of (c.pair_rows.ensures i))
    k.result (named i) (come i) (radios i) a.room))) in
    record {
      judges = told ∙ stand-replies x w a.asker k.result k.ensures a.place a.room whole q;
      sound = λ e. w;
    }
