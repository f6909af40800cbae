-- Document 02, P10, over the contracts of the ledger's own functions: on the contents that any run has left, the groups and pairs that stand,
-- and the answer of every call, are those of the layout by arrival after the same run; and the pairs are laid as P10 says.
use Rattle.std.specs.Prelude.{ℕ, ◌≡◌, map, length, Result, ⊤}
use Rattle.refusal.specs.declared.Refusal.{Refusal}
use Rattle.layout.specs.declared.Record.{Record}
use Rattle.rules.specs.Order.{tick}
use Rattle.rules.specs.Ledger.{Ledger, view, list, show}
use Rattle.rules.specs.Arrival.{by_arrival}
use Rattle.rules.specs.Stretches.{InStretches}
use Rattle.rules.specs.Steps.{refused, sent}
use Rattle.rules.specs.History.{History}
use Rattle.rules.specs.Run.{run}
use Rattle.order.specs.Numbers.{radio_number, asked_number}
use Rattle.order.specs.Steps.{handover_step, define_step}
use Rattle.order.specs.Walks.{onto}
use Rattle.order.specs.declared.Itsi.{Itsi}
use Rattle.order.specs.declared.Identity.{Identity}
use Rattle.order.specs.declared.GroupAsked.{GroupAsked}
use Rattle.order.specs.declared.Numbers.{Numbers}
use Rattle.store.specs.Storage.{Rows, Contents, ledger_of}
use Rattle.replies.specs.Orders.{answered, reply_of}
use Rattle.replies.specs.Sending.{order_row}
use Rattle.replies.specs.Listing.{entry_row, members_of}
use Rattle.replies.specs.Showing.{shown_of}
use Rattle.replies.specs.declared.Shown.{Shown}
use Rattle.demand.specs.Arguments.{Deletion, Answering, deletion_step, answering_step}
use Rattle.demand.specs.Calls.{Ticks, Answers, HandsOver, Defines, Deletes, Lists, Shows}

-- the ledger in the old layout
abbrev pub old : History → Ledger
old h = run by_arrival h

pub record AsBefore (c : Contents) (h : History) : Type 0 where
  -- the same groups, with their owners and parameters, the same pairs, with their marks, and as many of each
  pub stand : view (ledger_of c) ≡ view (old h)
  pub groups : length (ledger_of c).groups ≡ length (old h).groups
  pub pairs : length (ledger_of c).pairs ≡ length (old h).pairs
  -- each group's pairs in one unbroken stretch, radios rising, stretches in the order of the group numbers
  pub stretches : InStretches (ledger_of c)
  -- every reply, every refusal and every outgoing order
  pub defines : {asker : Itsi} {values : Record} {room rows : Rows} {c' : Contents} {reply : Result ℕ Refusal}
      → Defines asker values room rows c c' reply
      → let s = define_step asker values.place (length room) in
      (reply ≡ answered (refused by_arrival (old h) s) (length (sent by_arrival (old h) s))) × (rows ≡ onto (map order_row (sent by_arrival (old h) s)) room)
  pub deletes : {d : Deletion} {room rows : Rows} {c' : Contents} {reply : Result ℕ Refusal} → Deletes d room rows c c' reply
      → let s = deletion_step d (length room) in
      (reply ≡ answered (refused by_arrival (old h) s) (length (sent by_arrival (old h) s))) × (rows ≡ onto (map order_row (sent by_arrival (old h) s)) room)
  pub answers : {a : Answering} {c' : Contents} {reply : Result ⊤ Refusal} → Answers a c c' reply
      → reply ≡ reply_of (refused by_arrival (old h) (answering_step a))
  pub hands_over : {asker : Itsi} {group : Identity} {owners : Numbers} {c' : Contents} {reply : Result ⊤ Refusal}
      → HandsOver asker group owners c c' reply → reply ≡ reply_of (refused by_arrival (old h) (handover_step asker group owners))
  pub ticks : {c' : Contents} {reply : Result ⊤ Refusal} → Ticks c c' reply → reply ≡ reply_of (refused by_arrival (old h) tick)
  pub lists : {asker : Itsi} {asked : GroupAsked} {room listed : Rows} {reply : Result ℕ Refusal}
      → Lists asker asked room listed c reply
      → let l = list (old h) (radio_number asker) (asked_number asker asked) (length room) in
      (reply ≡ members_of l) × (listed ≡ onto (map entry_row l.entries) room)
  pub shows : {asker : Itsi} {asked : GroupAsked} {reply : Result Shown Refusal}
      → Shows asker asked c reply → reply ≡ shown_of (show (old h) (radio_number asker) (asked_number asker asked))
