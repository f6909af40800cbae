-- Demand 3 over the contracts of the ledger's own functions: what every call answers, on the contents that any run has left.
use Rattle.std.specs.Prelude.{◌≡◌, Bool, true, false, cond, List, [], ◌∷◌, map, ℕ, ◌+◌, ◌≤◌, length, get_or, take, Result, Ok, Err, ⊤}
use Rattle.std.proofs.Math.Option.{Option, none, some}
use Rattle.layout.specs.declared.Record.{Record}
use Rattle.refusal.specs.declared.Refusal.{Refusal}
use Rattle.refusal.specs.declared.Refusal.TheVariants.{NotWritten}
use Rattle.rules.specs.Lists.{any}
use Rattle.rules.specs.Number.{Number, key, plain, same_number, wide_number}
use Rattle.rules.specs.Parameters.{Parameters}
use Rattle.rules.specs.Replies as replies
use Rattle.rules.specs.History.{History, owner, mark, radios_in, refusal_in, sent_in, list_in, show_in}
use Rattle.rules.specs.Run.{run}
use Rattle.rules.specs.Demand.{Owns, told, Exactly, Tells}
use Rattle.rows.specs.Layout.{entry_radio, entry_state}
use Rattle.order.specs.Numbers.{radio_number, asked_number}
use Rattle.order.specs.Steps.{handover_step, define_step}
use Rattle.order.specs.Walks.{onto}
use Rattle.store.specs.Storage.{Rows, Contents, placing, ledger_of}
use Rattle.store.specs.Form.{is_written}
use Rattle.replies.specs.Orders.{answered, reply_of}
use Rattle.replies.specs.Sending.{order_row}
use Rattle.replies.specs.Listing.{entry_row, members_of}
use Rattle.replies.specs.Showing.{shown_as, shown_of}
use Rattle.order.specs.declared.Itsi.{Itsi}
use Rattle.order.specs.declared.Identity.{Identity}
use Rattle.order.specs.declared.GroupAsked.{GroupAsked}
use Rattle.order.specs.declared.Numbers.{Numbers}
use Rattle.replies.specs.declared.Shown.{Shown}
use Rattle.demand.specs.Arguments.{Deletion, Answering, deletion_step, answering_step}
use Rattle.demand.specs.Calls.{Empties, Ticks, Answers, HandsOver, Defines, Deletes, Lists, Shows}

-- the state in the first row that has both parts of a number
abbrev pub state_in : Rows → Number → Option ℕ
state_in [] n = none
state_in (row ∷ rows) n = cond (same_number n (plain (get_or row (entry_radio + 1) 0) (get_or row entry_radio 0))) (some (get_or row entry_state 0)) (state_in rows n)

-- the reply counts the entries, they are the first rows of the room, and the rows past them are as they were;
-- of a radio they say what the history says of the number with both its parts
pub record ListsExactly (h : History) (g : Number) (room listed : Rows) (reply : Result ℕ Refusal) : Type 0 where
  pub entries : List replies.Entry
  pub counts : reply ≡ Ok (length entries)
  pub rows : listed ≡ onto (map entry_row entries) room
  pub exact : Exactly h (key g) entries
  pub says : (n : Number) → wide_number n ≡ false → state_in (take (length entries) listed) n ≡ told (mark h (key g) (key n))

-- whether a number, with both its parts, is among those shown
abbrev pub shown_owner : Result Shown Refusal → Number → Bool
shown_owner (Ok shown) n = any (λ (o : Itsi). same_number n (radio_number o)) (take shown.count shown.owners)
shown_owner (Err refusal) n = false

-- the reply holds the owners and the parameters
pub record ShowsExactly (h : History) (g : Number) (reply : Result Shown Refusal) : Type 0 where
  pub owners : List ℕ
  pub parameters : Parameters
  pub holds : reply ≡ Ok (shown_as owners parameters)
  pub tells : Tells h (key g) owners parameters
  pub says : (n : Number) → wide_number n ≡ false → shown_owner reply n ≡ owner h (key g) (key n)

-- on the contents c every call answers as the history h says. Each call of a run is such a call: on what the calls before it left
pub record Faithful (c : Contents) (h : History) : Type 0 where
  -- the contents are in their written form, and hold the ledger of the history
  pub written : is_written c ≡ true
  pub holds : ledger_of c ≡ run placing h
  -- every order is accepted or refused as the history says, and sends what it says
  pub defines : {asker : Itsi} {values : Record} {room sent : Rows} {c' : Contents} {reply : Result ℕ Refusal}
      → Defines asker values room sent c c' reply
      → let s = define_step asker values.place (length room) in
      (reply ≡ answered (refusal_in h s) (length (sent_in h s))) × (sent ≡ onto (map order_row (sent_in h s)) room)
  pub deletes : {d : Deletion} {room sent : Rows} {c' : Contents} {reply : Result ℕ Refusal} → Deletes d room sent c c' reply
      → let s = deletion_step d (length room) in
      (reply ≡ answered (refusal_in h s) (length (sent_in h s))) × (sent ≡ onto (map order_row (sent_in h s)) room)
  pub answers : {a : Answering} {c' : Contents} {reply : Result ⊤ Refusal} → Answers a c c' reply → reply ≡ reply_of (refusal_in h (answering_step a))
  pub hands_over : {asker : Itsi} {group : Identity} {owners : Numbers} {c' : Contents} {reply : Result ⊤ Refusal}
      → HandsOver asker group owners c c' reply → reply ≡ reply_of (refusal_in h (handover_step asker group owners))
  pub ticks : {c' : Contents} {reply : Result ⊤ Refusal} → Ticks c c' reply → reply ≡ Ok tt
  -- every list and every show is the history's, refused ones too
  pub lists : {asker : Itsi} {asked : GroupAsked} {room listed : Rows} {reply : Result ℕ Refusal}
      → Lists asker asked room listed c reply
      → let l = list_in h (radio_number asker) (asked_number asker asked) (length room) in
      (reply ≡ members_of l) × (listed ≡ onto (map entry_row l.entries) room)
  pub shows : {asker : Itsi} {asked : GroupAsked} {reply : Result Shown Refusal}
      → Shows asker asked c reply → reply ≡ shown_of (show_in h (radio_number asker) (asked_number asker asked))
  -- an owner's list, with room for the group's radios: all of them, with their states, and no other
  pub owner-lists : {asker : Itsi} {asked : GroupAsked} {room listed : Rows} {reply : Result ℕ Refusal}
      → Lists asker asked room listed c reply
      → let g = asked_number asker asked in
      Owns h (radio_number asker) g → length (radios_in h (key g)) ≤ length room → ListsExactly h g room listed reply
  -- an owner's show
  pub owner_shows : {asker : Itsi} {asked : GroupAsked} {reply : Result Shown Refusal}
      → Shows asker asked c reply → let g = asked_number asker asked in Owns h (radio_number asker) g → ShowsExactly h g reply

-- "18 .. never after own operations from empty": no call on the contents is refused with it
pub record Never18 (c : Contents) : Type 0 where
  pub defines : {asker : Itsi} {values : Record} {room sent : Rows} {c' : Contents}
      → Defines asker values room sent c c' (Err NotWritten) → ⊥
  pub deletes : {d : Deletion} {room sent : Rows} {c' : Contents} → Deletes d room sent c c' (Err NotWritten) → ⊥
  pub answers : {a : Answering} {c' : Contents} → Answers a c c' (Err NotWritten) → ⊥
  pub hands_over : {asker : Itsi} {group : Identity} {owners : Numbers} {c' : Contents} → HandsOver asker group owners c c' (Err NotWritten) → ⊥
  pub ticks : {c' : Contents} → Ticks c c' (Err NotWritten) → ⊥
  pub lists : {asker : Itsi} {asked : GroupAsked} {room listed : Rows} → Lists asker asked room listed c (Err NotWritten) → ⊥
  pub shows : {asker : Itsi} {asked : GroupAsked} → Shows asker asked c (Err NotWritten) → ⊥
  -- and a new beginning is not either
  pub empties : {c' : Contents} → Empties c c' (Err NotWritten) → ⊥
