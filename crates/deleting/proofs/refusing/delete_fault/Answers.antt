-- `deleting::delete_fault` meets its contract.
use mathlib.Core.Path.{◌≡◌, sym, ◌∙◌}
use mathlib.Core.List.{map}
use Rattle.std.specs.Prelude.{Err}
use Rattle.rules.specs.Refusals.{first}
use Rattle.store.specs.Lent.{contents_of}
use Rattle.store.specs.Storage.{group_of, pair_of}
use Rattle.store.proofs.FormLaws.{groups-rise}
use Rattle.replies.specs.Orders.{reply_of}
use Rattle.replies.proofs.Orders.{not_done, reply-none}
use Rattle.deleting.specs.Deletes.{form_tests, stand_tests}
use Rattle.deleting.proofs.DeassignedLaws.{stretches}
use Rattle.deleting.proofs.Deletes.{form-refused, stand-replies, form-whole}
use borrow.Author.Rules.{rules}
use Rattle.deleting.proofs.refusing.delete_fault.Goals as goal

-- past the first test the contents are in the written form: here and below
pub returns-in_err-form_fault : goal.returns-in_err-form_fault
returns-in_err-form_fault c asks =
    let a = c.args in
    let x = contents_of a.lent in
    let w = c.written.ensures.1 (search rules) in
    let r = c.in_err-form_fault.field-0.0 in
    let back : c.from_residual.result ≡ Err r = search rules in
    let t = form-refused x w a.asker a.groups a.asks.now.remove a.asks.now.deassign a.radios asks a.room r (sym c.in_err-form_fault.was ∙ c.form_fault.ensures) in
    record { judges = back ∙ t; sound = λ e. not_done r (sym back ∙ e) }

pub invariant_of-pairs : goal.invariant_of-pairs
invariant_of-pairs c =
    let x = contents_of c.args.lent in
    let w = c.written.ensures.1 (search rules) in
    record { stretches = rw c.pair_rows.ensures (stretches x w) }

pub stand_fault-requires : goal.stand_fault-requires
stand_fault-requires c =
    let x = contents_of c.args.lent in
    let w = c.written.ensures.1 (search rules) in
    rw c.group_rows.ensures (groups-rise x w)

pub returns : goal.returns
returns c asks =
    let a = c.args in
    let x = contents_of a.lent in
    let w = c.written.ensures.1 (search rules) in
    let q = sym c.in_ok-form_fault.was ∙ c.form_fault.ensures in
    let read = form-whole x w a.asker a.groups a.asks.now.remove a.asks.now.deassign a.radios asks a.room
    (reply-none (first (form_tests a.asker a.groups a.asks.now.deassign a.radios)) q) a.asks.now c.requires in
    let t = c.stand_fault.ensures ∙ (λ i. reply_of (first (stand_tests (map group_of (c.group_rows.ensures i)) (map pair_of (c.pair_rows.ensures i))
    (c.from.ensures i) (read.groups-whole i) a.asks.now.remove a.asks.now.deassign (read.radios-whole i) a.room))) in
    let s = stand-replies x w a.asker a.groups a.asks.now.remove a.asks.now.deassign a.radios asks a.room _ q t in
    record { judges = s; sound = λ e. w }
