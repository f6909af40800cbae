-- After any run of calls the new layout stands for what the old one does, and every call answers as on the old one.
use mathlib.Core.Path.{◌≡◌, sym, ap, subst, ◌∙◌}
use mathlib.Core.List.{List, map}
use lib.ListN.{length}
use Rattle.std.specs.Prelude.{ℕ, Result}
use Rattle.refusal.specs.declared.Refusal.{Refusal}
use Rattle.rules.specs.Order.{Step, tick}
use Rattle.rules.specs.Outgoing.{Outgoing}
use Rattle.rules.specs.Replies.{Listing}
use Rattle.rules.specs.Ledger.{Ledger, view}
use Rattle.rules.specs.Arrival.{by_arrival}
use Rattle.rules.specs.Stretches.{InStretches}
use Rattle.rules.specs.Steps.{refused, sent}
use Rattle.rules.specs.History.{History, refusal_in, sent_in}
use Rattle.rules.proofs.Arrival.{by-arrival}
use Rattle.rules.proofs.Agree.{refusal-agree, sent-agree, list-agree, show-agree}
use Rattle.rules.proofs.Alike.{as_before}
use Rattle.rules.proofs.Stretches.{run-in-stretches}
use Rattle.order.specs.Numbers.{radio_number, asked_number}
use Rattle.order.specs.Steps.{handover_step, define_step}
use Rattle.order.specs.Walks.{onto}
use Rattle.store.specs.Storage.{Rows, Contents}
use Rattle.replies.specs.Orders.{answered, reply_of}
use Rattle.replies.specs.Sending.{order_row}
use Rattle.replies.specs.Listing.{entry_row, members_of}
use Rattle.replies.specs.Showing.{shown_of}
use Rattle.demand.specs.Arguments.{deletion_step, answering_step}
use Rattle.demand.specs.Runs.{Kept}
use Rattle.demand.specs.Before.{old, AsBefore}
use Rattle.demand.proofs.Demand.{demand}

-- what goes out, and the reply that tells it, by the history and by the old layout
sent-before : (h : History) (s : Step) (room rows : Rows) (reply : Result ℕ Refusal)
    → (reply ≡ answered (refusal_in h s) (length (sent_in h s))) × (rows ≡ onto (map order_row (sent_in h s)) room)
    → (reply ≡ answered (refused by_arrival (old h) s) (length (sent by_arrival (old h) s))) × (rows ≡ onto (map order_row (sent by_arrival (old h) s)) room)
sent-before h s room rows reply p =
    let r = sym (refusal-agree by_arrival by-arrival h s) in
    let o = sym (sent-agree by_arrival by-arrival h s) in (
      p.0 ∙ (λ i. answered (r i) (length (o i))),
      p.1 ∙ ap (λ (l : List Outgoing). onto (map order_row l) room) o,
    )

reply-before : (h : History) (s : Step) → reply_of (refusal_in h s) ≡ reply_of (refused by_arrival (old h) s)
reply-before h s = ap reply_of (sym (refusal-agree by_arrival by-arrival h s))

pub before : {c : Contents} {h : History} → Kept c h → AsBefore c h
before {c} {h} k =
    let f = demand k in
    let a = as_before h in
    record {
      stand = ap view f.holds ∙ a.stand;
      groups = ap (λ (l : Ledger). length l.groups) f.holds ∙ a.groups;
      pairs = ap (λ (l : Ledger). length l.pairs) f.holds ∙ a.pairs;
      stretches = subst InStretches (sym f.holds) (run-in-stretches h);
      defines = λ {asker} {values} {room} {rows} {c'} {reply} e.
          sent-before h (define_step asker values.place (length room)) room rows reply (f.defines e);
      deletes = λ {d} {room} {rows} {c'} {reply} e. sent-before h (deletion_step d (length room)) room rows reply (f.deletes e);
      answers = λ {a} e. f.answers e ∙ reply-before h (answering_step a);
      hands_over = λ {asker} {group} {owners} e. f.hands_over e ∙ reply-before h (handover_step asker group owners);
      ticks = λ e. f.ticks e ∙ reply-before h tick;
      lists = λ {asker} {asked} {room} {listed} e.
          let l = sym (list-agree by_arrival by-arrival h (radio_number asker) (asked_number asker asked) (length room)) in (
            (f.lists e).0 ∙ ap members_of l,
            (f.lists e).1 ∙ ap (λ (z : Listing). onto (map entry_row z.entries) room) l,
          );
      shows = λ {asker} {asked} e. f.shows e ∙ ap shown_of (sym (show-agree by_arrival by-arrival h (radio_number asker) (asked_number asker asked)));
    }
