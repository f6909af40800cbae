-- The orders that go out, in lent room: a row an order, its kind, then radio and group, each SSI and extension.
use Rattle.std.specs.Prelude.{ℕ, ◌≡◌, cond, List, [], ◌∷◌, map, length, Result}
use Rattle.refusal.specs.declared.Refusal.{Refusal}
use Rattle.rules.specs.Number.{ssi_of, extension_of}
use Rattle.rules.specs.Order.{Step}
use Rattle.rules.specs.Outgoing.{Outgoing}
use Rattle.rules.specs.Refusals.{accepted}
use Rattle.rules.specs.Steps.{sent}
use Rattle.order.specs.Walks.{onto}
use Rattle.store.specs.Storage.{Rows, Contents, placing, ledger_of}
use Rattle.replies.specs.Orders.{answered, verdict, contents_after}

abbrev pub order_row : Outgoing → List ℕ
order_row o = o.kind ∷ ssi_of o.radio ∷ extension_of o.radio ∷ ssi_of o.group ∷ extension_of o.group ∷ []

-- what goes out: nothing where the order is refused
abbrev pub sent_on : Contents → Step → List Outgoing
sent_on c s = cond (accepted (verdict c s)) (sent placing (ledger_of c) s) []

-- an order that sends: the step is given the room, the reply is how many orders go out, and the room after it begins with them
pub record Sends (step : ℕ → Step) (room sent : Rows) (before after : Contents) (reply : Result ℕ Refusal) : Type 0 where
  pub replies : reply ≡ answered (verdict before (step (length room))) (length (sent_on before (step (length room))))
  pub leaves : after ≡ contents_after before (step (length room))
  pub sends : sent ≡ onto (map order_row (sent_on before (step (length room)))) room
