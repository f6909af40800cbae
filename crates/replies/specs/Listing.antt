-- A group's list in lent room: a row an entry, the radio's SSI and extension, and its state.
use Rattle.std.specs.Prelude.{ℕ, ◌≡◌, cond, List, [], ◌∷◌, map, length, Result}
use Rattle.std.proofs.Math.Option.{some}
use Rattle.refusal.specs.declared.Refusal.{Refusal}
use Rattle.refusal.specs.declared.Refusal.TheVariants.{NotWritten}
use Rattle.rules.specs.Number.{ssi_of, extension_of}
use Rattle.rules.specs.Replies.{Entry, Listing}
use Rattle.rules.specs.Ledger.{list}
use Rattle.order.specs.declared.Gtsi.{Gtsi}
use Rattle.order.specs.declared.Itsi.{Itsi}
use Rattle.order.specs.Numbers.{radio_number, group_number}
use Rattle.order.specs.Walks.{onto}
use Rattle.store.specs.Storage.{Rows, Contents, ledger_of}
use Rattle.store.specs.Form.{is_written}
use Rattle.replies.specs.Orders.{answered}

abbrev pub entry_row : Entry → List ℕ
entry_row e = ssi_of e.0 ∷ extension_of e.0 ∷ e.1 ∷ []

-- the list on lent contents
abbrev pub list_on : Contents → Itsi → Gtsi → ℕ → Listing
list_on c asker group room = cond (is_written c) (list (ledger_of c) (radio_number asker) (group_number group) room)
    (record { refused = some NotWritten; entries = [] })

-- the reply: how many radios, or the refusal
abbrev pub members_of : Listing → Result ℕ Refusal
members_of l = answered l.refused (length l.entries)

-- a list: its reply, and the room that begins with its entries
pub record Enumerates (on : Contents) (asker : Itsi) (group : Gtsi) (room listed : Rows) (reply : Result ℕ Refusal) : Type 0 where
  pub replies : reply ≡ members_of (list_on on asker group (length room))
  pub lists : listed ≡ onto (map entry_row (list_on on asker group (length room)).entries) room
