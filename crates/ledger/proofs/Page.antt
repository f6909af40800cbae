-- What a program is promised under the page's own names: each order what its definition says, and not another's. `Post` is a contract's claim
-- as the checker reads it; nothing of a function's body is used.
use mathlib.Core.Path.{◌≡◌}
use contract.Lifetimes.{Lfts}
use borrow.Fn.Kinds.{Dens, res_t, ended_of}
use denote.Triple.Clauses.{AtExit}
use Rattle.rules.specs.Order as law
use Rattle.order.specs.Numbers.{asked_group}
use Rattle.order.specs.Steps.{answer_step, handover_step, define_step, delete_step}
use Rattle.store.specs.Storage.{contents}
use Rattle.replies.specs.Orders.{Begins, Replies}
use Rattle.replies.specs.Sending.{Sends}
use Rattle.replies.specs.Listing.{Enumerates}
use Rattle.replies.specs.Showing.{show_on, shown_of}
use Rattle.ledger.proofs.empty.Kinds as empty-kinds
use Rattle.ledger.proofs.empty.Reads as empty
use Rattle.ledger.proofs.tick.Kinds as tick-kinds
use Rattle.ledger.proofs.tick.Reads as tick
use Rattle.ledger.proofs.answer.Kinds as answer-kinds
use Rattle.ledger.proofs.answer.Reads as answer
use Rattle.ledger.proofs.handover.Kinds as handover-kinds
use Rattle.ledger.proofs.handover.Reads as handover
use Rattle.ledger.proofs.define.Kinds as define-kinds
use Rattle.ledger.proofs.define.Reads as define
use Rattle.ledger.proofs.delete.Kinds as delete-kinds
use Rattle.ledger.proofs.delete.Reads as delete
use Rattle.ledger.proofs.list.Kinds as list-kinds
use Rattle.ledger.proofs.list.Reads as list
use Rattle.ledger.proofs.show.Kinds as show-kinds
use Rattle.ledger.proofs.show.Reads as show

module _ (κs : Lfts 3) (a : Dens κs empty-kinds.ps) (r : (res_t empty-kinds.r κs).Denot) (s : AtExit (ended_of 3 empty-kinds.ps empty-kinds.r) κs) where
  pub empty-page : empty.Post κs a r s
      → Begins (contents a.0.now a.1.0.now a.1.1.0.now) (contents s.0.now a.1.0.now a.1.1.0.now) r
  empty-page p = p

module _ (κs : Lfts 3) (a : Dens κs tick-kinds.ps) (r : (res_t tick-kinds.r κs).Denot) (s : AtExit (ended_of 3 tick-kinds.ps tick-kinds.r) κs) where
  pub tick-page : tick.Post κs a r s
      → Replies law.tick (contents a.0.now a.1.0.now a.1.1.0.now) (contents a.0.now a.1.0.now s.1.1.0.now) r
  tick-page p = p

module _ (κs : Lfts 3) (a : Dens κs answer-kinds.ps) (r : (res_t answer-kinds.r κs).Denot) (s : AtExit (ended_of 3 answer-kinds.ps answer-kinds.r) κs) where
  pub answer-page : answer.Post κs a r s
      → Replies (answer_step a.1.1.1.0 a.1.1.1.1.0 a.1.1.1.1.1.0 a.1.1.1.1.1.1.0)
      (contents a.0.now a.1.0.now a.1.1.0.now)
      (contents s.0.now a.1.0.now s.1.1.0.now) r
  answer-page p = p

module _ (κs : Lfts 3) (a : Dens κs handover-kinds.ps) (r : (res_t handover-kinds.r κs).Denot)
    (s : AtExit (ended_of 3 handover-kinds.ps handover-kinds.r) κs) where
  pub handover-page : handover.Post κs a r s
      → Replies (handover_step a.1.1.1.0 a.1.1.1.1.0 a.1.1.1.1.1.0) (contents a.0.now a.1.0.now a.1.1.0.now)
      (contents a.0.now s.1.0.now a.1.1.0.now) r
  handover-page p = p

module _ (κs : Lfts 4) (a : Dens κs define-kinds.ps) (r : (res_t define-kinds.r κs).Denot) (s : AtExit (ended_of 4 define-kinds.ps define-kinds.r) κs) where
  pub define-page : define.Post κs a r s
      → Sends (define_step a.1.1.1.0 a.1.1.1.1.0.place) a.1.1.1.1.1.0.now s.1.1.1.1.1.0.now
      (contents a.0.now a.1.0.now a.1.1.0.now) (contents s.0.now s.1.0.now s.1.1.0.now) r
  define-page p = p

module _ (κs : Lfts 4) (a : Dens κs delete-kinds.ps) (r : (res_t delete-kinds.r κs).Denot) (s : AtExit (ended_of 4 delete-kinds.ps delete-kinds.r) κs) where
  pub delete-page : delete.Post κs a r s
      → Sends (delete_step a.1.1.1.0 a.1.1.1.1.0 a.1.1.1.1.1.0 a.1.1.1.1.1.1.0 a.1.1.1.1.1.1.1.0
      a.1.1.1.1.1.1.1.1.0) a.1.1.1.1.1.1.1.1.1.0.now s.1.1.1.1.1.1.1.1.1.0.now
      (contents a.0.now a.1.0.now a.1.1.0.now) (contents s.0.now s.1.0.now s.1.1.0.now) r
  delete-page p = p

module _ (κs : Lfts 4) (a : Dens κs list-kinds.ps) (r : (res_t list-kinds.r κs).Denot) (s : AtExit (ended_of 4 list-kinds.ps list-kinds.r) κs) where
  pub list-page : list.Post κs a r s
      → Enumerates (contents a.0.now a.1.0.now a.1.1.0.now) a.1.1.1.0 (asked_group a.1.1.1.0 a.1.1.1.1.0)
      a.1.1.1.1.1.0.now s.1.1.1.1.1.0.now r
  list-page p = p

module _ (κs : Lfts 3) (a : Dens κs show-kinds.ps) (r : (res_t show-kinds.r κs).Denot) (s : AtExit (ended_of 3 show-kinds.ps show-kinds.r) κs) where
  pub show-page : show.Post κs a r s
      → r ≡ shown_of (show_on (contents a.0.now a.1.0.now a.1.1.0.now) a.1.1.1.0 (asked_group a.1.1.1.0 a.1.1.1.1.0))
  show-page p = p
