-- Calls of the ledger's public functions: what was lent and asked, the reply, and what was left, as the function's own contract
-- allows. `Post` is the contract's claim as the checker reads it; nothing of a function's body is used.
--     lent, out      where the contents and the room were lent          left    what the parameters held at the end
--     meets          the reply and what was left meet the contract      starts, roomed, ends, sends, lists    what these places held
use Rattle.std.specs.Prelude.{◌≡◌, List, ℕ, Result, ⊤}
use contract.Lifetimes.{Lfts}
use borrow.Fn.Kinds.{ended_of}
use denote.Triple.Clauses.{AtExit}
use Rattle.std.specs.Borrow.{Bor, MutBor}
use Rattle.refusal.specs.declared.Refusal.{Refusal}
use Rattle.layout.specs.declared.Record.{Record}
use Rattle.store.specs.Storage.{Rows, Contents, contents}
use Rattle.order.specs.declared.Itsi.{Itsi}
use Rattle.order.specs.declared.Identity.{Identity}
use Rattle.order.specs.declared.GroupAsked.{GroupAsked}
use Rattle.order.specs.declared.Numbers.{Numbers}
use Rattle.replies.specs.declared.Shown.{Shown}
use Rattle.demand.specs.Arguments.{Deletion, Answering}
use Rattle.answering.proofs.empty.Kinds as empty-kinds
use Rattle.answering.proofs.empty.Reads as empty
use Rattle.answering.proofs.tick.Kinds as tick-kinds
use Rattle.answering.proofs.tick.Reads as tick
use Rattle.answering.proofs.answer.Kinds as answer-kinds
use Rattle.answering.proofs.answer.Reads as answer
use Rattle.handing.proofs.handover.Kinds as handover-kinds
use Rattle.handing.proofs.handover.Reads as handover
use Rattle.defining.proofs.define.Kinds as define-kinds
use Rattle.defining.proofs.define.Reads as define
use Rattle.deleting.proofs.delete.Kinds as delete-kinds
use Rattle.deleting.proofs.delete.Reads as delete
use Rattle.asking.proofs.list.Kinds as list-kinds
use Rattle.asking.proofs.list.Reads as list
use Rattle.asking.proofs.show.Kinds as show-kinds
use Rattle.asking.proofs.show.Reads as show

-- the ledger's three lent places
pub record Storage : Type 0 where
  pub head : MutBor (List ℕ)
  pub groups : MutBor Rows
  pub pairs : MutBor Rows

-- a place, lent to be looked at alone
abbrev pub read_only : {X : Type 0} → MutBor X → Bor X
read_only x = record { ref_ptr = x.ref_ptr; now = x.now }

abbrev pub held : Storage → Contents
held s = contents s.head.now s.groups.now s.pairs.now

-- ---- the orders: the contents before and after; room: the rows lent for what goes out; sent: the same rows after the call ----

pub record Empties (before after : Contents) (reply : Result ⊤ Refusal) : Type 0 where
  pub lifetimes : Lfts 3
  pub lent : Storage
  pub left : AtExit (ended_of 3 empty-kinds.ps empty-kinds.r) lifetimes
  pub starts : held lent ≡ before
  pub meets : empty.Post lifetimes (lent.head, (read_only lent.groups, (read_only lent.pairs, tt))) reply left
  pub ends : contents left.0.now lent.groups.now lent.pairs.now ≡ after

pub record Ticks (before after : Contents) (reply : Result ⊤ Refusal) : Type 0 where
  pub lifetimes : Lfts 3
  pub lent : Storage
  pub left : AtExit (ended_of 3 tick-kinds.ps tick-kinds.r) lifetimes
  pub starts : held lent ≡ before
  pub meets : tick.Post lifetimes (read_only lent.head, (read_only lent.groups, (lent.pairs, tt))) reply left
  pub ends : contents lent.head.now lent.groups.now left.1.1.0.now ≡ after

pub record Answers (a : Answering) (before after : Contents) (reply : Result ⊤ Refusal) : Type 0 where
  pub lifetimes : Lfts 3
  pub lent : Storage
  pub left : AtExit (ended_of 3 answer-kinds.ps answer-kinds.r) lifetimes
  pub starts : held lent ≡ before
  pub meets : answer.Post lifetimes (lent.head, (read_only lent.groups, (lent.pairs, (a.radio, (a.group, (a.kind, (a.result, tt))))))) reply left
  pub ends : contents left.0.now lent.groups.now left.1.1.0.now ≡ after

pub record HandsOver (asker : Itsi) (group : Identity) (owners : Numbers) (before after : Contents) (reply : Result ⊤ Refusal) : Type 0 where
  pub lifetimes : Lfts 3
  pub lent : Storage
  pub left : AtExit (ended_of 3 handover-kinds.ps handover-kinds.r) lifetimes
  pub starts : held lent ≡ before
  pub meets : handover.Post lifetimes (read_only lent.head, (lent.groups, (read_only lent.pairs, (asker, (group, (owners, tt)))))) reply left
  pub ends : contents lent.head.now left.1.0.now lent.pairs.now ≡ after

pub record Defines (asker : Itsi) (values : Record) (room sent : Rows) (before after : Contents) (reply : Result ℕ Refusal) : Type 0 where
  pub lifetimes : Lfts 4
  pub lent : Storage
  pub out : MutBor Rows
  pub left : AtExit (ended_of 4 define-kinds.ps define-kinds.r) lifetimes
  pub starts : held lent ≡ before
  pub roomed : out.now ≡ room
  pub meets : define.Post lifetimes (lent.head, (lent.groups, (lent.pairs, (asker, (values, (out, tt)))))) reply left
  pub ends : contents left.0.now left.1.0.now left.1.1.0.now ≡ after
  pub sends : left.1.1.1.1.1.0.now ≡ sent

pub record Deletes (d : Deletion) (room sent : Rows) (before after : Contents) (reply : Result ℕ Refusal) : Type 0 where
  pub lifetimes : Lfts 4
  pub lent : Storage
  pub out : MutBor Rows
  pub left : AtExit (ended_of 4 delete-kinds.ps delete-kinds.r) lifetimes
  pub starts : held lent ≡ before
  pub roomed : out.now ≡ room
  pub meets : delete.Post lifetimes
      (lent.head, (lent.groups, (lent.pairs, (d.asker, (d.named, (d.remove, (d.deassign, (d.radios, (d.acknowledgement, (out, tt)))))))))) reply left
  pub ends : contents left.0.now left.1.0.now left.1.1.0.now ≡ after
  pub sends : left.1.1.1.1.1.1.1.1.1.0.now ≡ sent

-- ---- the questions, on contents that they do not change; listed: the rows of the room after the call ----

pub record Lists (asker : Itsi) (asked : GroupAsked) (room listed : Rows) (on : Contents) (reply : Result ℕ Refusal) : Type 0 where
  pub lifetimes : Lfts 4
  pub lent : Storage
  pub out : MutBor Rows
  pub left : AtExit (ended_of 4 list-kinds.ps list-kinds.r) lifetimes
  pub stands : held lent ≡ on
  pub roomed : out.now ≡ room
  pub meets : list.Post lifetimes (read_only lent.head, (read_only lent.groups, (read_only lent.pairs, (asker, (asked, (out, tt)))))) reply left
  pub lists : left.1.1.1.1.1.0.now ≡ listed

pub record Shows (asker : Itsi) (asked : GroupAsked) (on : Contents) (reply : Result Shown Refusal) : Type 0 where
  pub lifetimes : Lfts 3
  pub lent : Storage
  pub left : AtExit (ended_of 3 show-kinds.ps show-kinds.r) lifetimes
  pub stands : held lent ≡ on
  pub meets : show.Post lifetimes (read_only lent.head, (read_only lent.groups, (read_only lent.pairs, (asker, (asked, tt))))) reply left
