-- What each call's contract says of the contents before it and after it, whatever places they were lent in.
use mathlib.Core.Path.{◌≡◌, sym, ◌∙◌}
use mathlib.Core.List.{map}
use lib.ListN.{length}
use Rattle.std.specs.Prelude.{ℕ, Result, ⊤}
use Rattle.refusal.specs.declared.Refusal.{Refusal}
use Rattle.layout.specs.declared.Record.{Record}
use Rattle.rules.specs.Order.{Step, tick}
use Rattle.order.specs.Numbers.{asked_group}
use Rattle.order.specs.Steps.{handover_step, define_step}
use Rattle.order.specs.Walks.{onto}
use Rattle.store.specs.Storage.{Rows, Contents}
use Rattle.replies.specs.Orders.{answered, reply_of, verdict, contents_after, empty_verdict, emptied, Begins, Replies}
use Rattle.replies.specs.Sending.{order_row, sent_on, Sends}
use Rattle.replies.specs.Listing.{entry_row, list_on, members_of}
use Rattle.replies.specs.Showing.{show_on, shown_of}
use Rattle.order.specs.declared.Itsi.{Itsi}
use Rattle.order.specs.declared.Identity.{Identity}
use Rattle.order.specs.declared.GroupAsked.{GroupAsked}
use Rattle.order.specs.declared.Numbers.{Numbers}
use Rattle.replies.specs.declared.Shown.{Shown}
use Rattle.demand.specs.Arguments.{Deletion, Answering, deletion_step, answering_step}
use Rattle.demand.specs.Calls.{Empties, Ticks, Answers, HandsOver, Defines, Deletes, Lists, Shows}

module _ {c c' : Contents} where
  pub empty-says : {reply : Result ⊤ Refusal} → Empties c c' reply → Begins c c' reply
  empty-says e = record {
    replies = e.meets.replies ∙ (λ i. reply_of (empty_verdict (e.starts i)));
    leaves = sym e.ends ∙ e.meets.leaves ∙ (λ i. emptied (e.starts i));
  }

  pub tick-says : {reply : Result ⊤ Refusal} → Ticks c c' reply → Replies tick c c' reply
  tick-says e = record {
    replies = e.meets.replies ∙ (λ i. reply_of (verdict (e.starts i) tick));
    leaves = sym e.ends ∙ e.meets.leaves ∙ (λ i. contents_after (e.starts i) tick);
  }

  pub answer-says : {a : Answering} {reply : Result ⊤ Refusal} → Answers a c c' reply → Replies (answering_step a) c c' reply
  answer-says {a} e = record {
    replies = e.meets.replies ∙ (λ i. reply_of (verdict (e.starts i) (answering_step a)));
    leaves = sym e.ends ∙ e.meets.leaves ∙ (λ i. contents_after (e.starts i) (answering_step a));
  }

  pub handover-says : {asker : Itsi} {group : Identity} {owners : Numbers} {reply : Result ⊤ Refusal} → HandsOver asker group owners c c' reply
      → Replies (handover_step asker group owners) c c' reply
  handover-says {asker} {group} {owners} e = record {
    replies = e.meets.replies ∙ (λ i. reply_of (verdict (e.starts i) (handover_step asker group owners)));
    leaves = sym e.ends ∙ e.meets.leaves ∙ (λ i. contents_after (e.starts i) (handover_step asker group owners));
  }

  pub define-says : {asker : Itsi} {values : Record} {room sent : Rows} {reply : Result ℕ Refusal}
      → Defines asker values room sent c c' reply → Sends (define_step asker values.place) room sent c c' reply
  define-says {asker} {values} e =
      let s : Rows → Step = λ room. define_step asker values.place (length room) in
      record {
        replies = e.meets.replies ∙ (λ i. answered (verdict (e.starts i) (s (e.roomed i))) (length (sent_on (e.starts i) (s (e.roomed i)))));
        leaves = sym e.ends ∙ e.meets.leaves ∙ (λ i. contents_after (e.starts i) (s (e.roomed i)));
        sends = sym e.sends ∙ e.meets.sends ∙ (λ i. onto (map order_row (sent_on (e.starts i) (s (e.roomed i)))) (e.roomed i));
      }

  pub delete-says : {d : Deletion} {room sent : Rows} {reply : Result ℕ Refusal} → Deletes d room sent c c' reply → Sends (deletion_step d) room sent c c' reply
  delete-says {d} e =
      let s : Rows → Step = λ room. deletion_step d (length room) in
      record {
        replies = e.meets.replies ∙ (λ i. answered (verdict (e.starts i) (s (e.roomed i))) (length (sent_on (e.starts i) (s (e.roomed i)))));
        leaves = sym e.ends ∙ e.meets.leaves ∙ (λ i. contents_after (e.starts i) (s (e.roomed i)));
        sends = sym e.sends ∙ e.meets.sends ∙ (λ i. onto (map order_row (sent_on (e.starts i) (s (e.roomed i)))) (e.roomed i));
      }

module _ {c : Contents} {asker : Itsi} {asked : GroupAsked} where
  pub list-says : {room listed : Rows} {reply : Result ℕ Refusal} → Lists asker asked room listed c reply
      → let g = asked_group asker asked in
      (reply ≡ members_of (list_on c asker g (length room))) × (listed ≡ onto (map entry_row (list_on c asker g (length room)).entries) room)
  list-says e = let g = asked_group asker asked in (
    e.meets.replies ∙ (λ i. members_of (list_on (e.stands i) asker g (length (e.roomed i)))),
    sym e.lists ∙ e.meets.lists ∙ (λ i. onto (map entry_row (list_on (e.stands i) asker g (length (e.roomed i))).entries) (e.roomed i)),
  )

  pub show-says : {reply : Result Shown Refusal} → Shows asker asked c reply → reply ≡ shown_of (show_on c asker (asked_group asker asked))
  show-says e = e.meets ∙ (λ i. shown_of (show_on (e.stands i) asker (asked_group asker asked)))
