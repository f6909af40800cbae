-- Document 02, P5, over the contracts of the ledger's own functions: of two calls on one contents, whatever it holds, with one room, the one
-- with ranges and the other with lists of their numbers, both answer the same, leave the same and send the same; 18 is among the answers.
use Rattle.std.specs.Prelude.{ℕ, ◌≡◌, length, Result, ⊤}
use Rattle.refusal.specs.declared.Refusal.{Refusal}
use Rattle.layout.specs.declared.Record.{Record}
use Rattle.rules.specs.Spelled as law
use Rattle.order.specs.Steps.{handover_step, define_step}
use Rattle.store.specs.Storage.{Rows, Contents}
use Rattle.order.specs.declared.Itsi.{Itsi}
use Rattle.order.specs.declared.Identity.{Identity}
use Rattle.order.specs.declared.Numbers.{Numbers}
use Rattle.demand.specs.Arguments.{Deletion, deletion_step}
use Rattle.demand.specs.Calls.{HandsOver, Defines, Deletes}

-- what two calls that send came to is the same
pub record SameOutcome (reply reply' : Result ℕ Refusal) (after after' : Contents) (sent sent' : Rows) : Type 0 where
  pub replies : reply ≡ reply'
  pub leaves : after ≡ after'
  pub sends : sent ≡ sent'

pub record ReadAsListed (c : Contents) (room : Rows) : Type 0 where
  pub defines : {asker : Itsi} {values values' : Record} {sent sent' : Rows} {after after' : Contents} {reply reply' : Result ℕ Refusal}
      → law.AsListed (define_step asker values.place (length room)) (define_step asker values'.place (length room))
      → Defines asker values room sent c after reply → Defines asker values' room sent' c after' reply'
      → SameOutcome reply reply' after after' sent sent'
  pub deletes : {d d' : Deletion} {sent sent' : Rows} {after after' : Contents} {reply reply' : Result ℕ Refusal}
      → law.AsListed (deletion_step d (length room)) (deletion_step d' (length room))
      → Deletes d room sent c after reply → Deletes d' room sent' c after' reply'
      → SameOutcome reply reply' after after' sent sent'
  -- a handover sends nothing
  pub hands_over : {asker : Itsi} {group : Identity} {owners owners' : Numbers} {after after' : Contents} {reply reply' : Result ⊤ Refusal}
      → law.AsListed (handover_step asker group owners) (handover_step asker group owners')
      → HandsOver asker group owners c after reply → HandsOver asker group owners' c after' reply' → (reply ≡ reply') × (after ≡ after')
