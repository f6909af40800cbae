-- A run of calls from an empty ledger, each on the contents that the one before it left; and the run's history: what the
-- calls asked for, refused ones among them. A list and a show change nothing of the ledger, so they may stand anywhere.
use Rattle.std.specs.Prelude.{ℕ, length, Result, Ok, ⊤}
use Rattle.refusal.specs.declared.Refusal.{Refusal}
use Rattle.layout.specs.declared.Record.{Record}
use Rattle.rules.specs.Order.{tick}
use Rattle.rules.specs.History.{History, start, ◌then◌}
use Rattle.order.specs.Steps.{handover_step, define_step}
use Rattle.store.specs.Storage.{Rows, Contents}
use Rattle.order.specs.declared.Itsi.{Itsi}
use Rattle.order.specs.declared.Identity.{Identity}
use Rattle.order.specs.declared.Numbers.{Numbers}
use Rattle.demand.specs.Arguments.{Deletion, Answering, deletion_step, answering_step}
use Rattle.demand.specs.Calls.{Empties, Ticks, Answers, HandsOver, Defines, Deletes}

-- the contents after a run, and its history. An order stands in the history whatever its reply was
pub data Kept : Contents → History → Type 0 where
  begun : {c c' : Contents} → Empties c c' (Ok tt) → Kept c' start
  defined : {c c' : Contents} {h : History} {asker : Itsi} {values : Record} {room sent : Rows} {reply : Result ℕ Refusal}
      → Kept c h → Defines asker values room sent c c' reply → Kept c' (h then define_step asker values.place (length room))
  deleted : {c c' : Contents} {h : History} {d : Deletion} {room sent : Rows} {reply : Result ℕ Refusal}
      → Kept c h → Deletes d room sent c c' reply → Kept c' (h then deletion_step d (length room))
  answered : {c c' : Contents} {h : History} {a : Answering} {reply : Result ⊤ Refusal}
      → Kept c h → Answers a c c' reply → Kept c' (h then answering_step a)
  handed_over : {c c' : Contents} {h : History} {asker : Itsi} {group : Identity} {owners : Numbers} {reply : Result ⊤ Refusal}
      → Kept c h → HandsOver asker group owners c c' reply → Kept c' (h then handover_step asker group owners)
  ticked : {c c' : Contents} {h : History} {reply : Result ⊤ Refusal}
      → Kept c h → Ticks c c' reply → Kept c' (h then tick)
