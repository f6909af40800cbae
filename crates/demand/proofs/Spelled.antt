-- An order with a range does, call for call, what the same order with the list of its numbers does.
use mathlib.Core.Path.{◌≡◌, sym, ap, ◌∙◌}
use mathlib.Core.Bool.{cond}
use mathlib.Core.List.{[], map}
use mathlib.Core.Option.{some}
use Prim.Native.Nat.{ℕ}
use lib.ListN.{length}
use Rattle.std.specs.Prelude.{Result}
use Rattle.refusal.specs.declared.Refusal.{Refusal}
use Rattle.refusal.specs.declared.Refusal.TheVariants.{NotWritten}
use Rattle.rules.specs.Order.{Step}
use Rattle.rules.specs.Refusals.{accepted}
use Rattle.rules.specs.Spelled as law
use Rattle.rules.proofs.Spelled.{as-listed}
use Rattle.order.specs.Steps.{handover_step, define_step}
use Rattle.order.specs.Walks.{onto}
use Rattle.store.specs.Storage.{Rows, Contents, placing, ledger_of, laid}
use Rattle.store.specs.Form.{is_written}
use Rattle.replies.specs.Orders.{answered, reply_of, verdict, contents_after}
use Rattle.replies.specs.Sending.{order_row, sent_on, Sends}
use Rattle.demand.specs.Arguments.{deletion_step}
use Rattle.demand.specs.Spelled.{SameOutcome, ReadAsListed}
use Rattle.demand.proofs.Calls.{handover-says, define-says, delete-says}

module _ (c : Contents) (s s' : Step) (a : law.AsListed s s') where
  abbrev one : law.AsOne placing (ledger_of c) s s'
  one = as-listed placing (ledger_of c) s s' a

  same-verdict : verdict c s ≡ verdict c s'
  same-verdict = λ i. cond (is_written c) (one.refuses i) (some NotWritten)

  same-contents : contents_after c s ≡ contents_after c s'
  same-contents = λ i. cond (accepted (same-verdict i)) (laid (one.leaves i) c) c

  same_sent : sent_on c s ≡ sent_on c s'
  same_sent = λ i. cond (accepted (same-verdict i)) (one.sends i) []

-- what two calls that send came to
module _ (c : Contents) (step step' : ℕ → Step) (room : Rows) (a : law.AsListed (step (length room)) (step' (length room))) where
  same-call : {sent sent' : Rows} {after after' : Contents} {reply reply' : Result ℕ Refusal} → Sends step room sent c after reply
      → Sends step' room sent' c after' reply' → SameOutcome reply reply' after after' sent sent'
  same-call k k' =
      let verdicts = same-verdict c (step (length room)) (step' (length room)) a in
      let orders = same_sent c (step (length room)) (step' (length room)) a in
      record {
        replies = k.replies ∙ (λ i. answered (verdicts i) (length (orders i))) ∙ sym k'.replies;
        leaves = k.leaves ∙ same-contents c (step (length room)) (step' (length room)) a ∙ sym k'.leaves;
        sends = k.sends ∙ (λ i. onto (map order_row (orders i)) room) ∙ sym k'.sends;
      }

pub range-as-listed : (c : Contents) (room : Rows) → ReadAsListed c room
range-as-listed c room = record {
  defines = λ {asker} {values} {values'} a k k'.
      same-call c (define_step asker values.place) (define_step asker values'.place) room a (define-says k) (define-says k');
  deletes = λ {d} {d'} a k k'. same-call c (deletion_step d) (deletion_step d') room a (delete-says k) (delete-says k');
  hands_over = λ {asker} {group} {owners} {owners'} a e e'.
      let k = handover-says e in
      let k' = handover-says e' in
      let one = handover_step asker group owners in
      let other = handover_step asker group owners' in
      (k.replies ∙ ap reply_of (same-verdict c one other a) ∙ sym k'.replies, k.leaves ∙ same-contents c one other a ∙ sym k'.leaves);
}
