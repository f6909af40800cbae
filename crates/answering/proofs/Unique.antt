-- Each order's contract allows one outcome: the reply, and what is left of the contents.
use mathlib.Core.Path.{◌≡◌, sym, ap, ◌∙◌}
use contract.Lifetimes.{Lfts}
use borrow.Fn.Kinds.{Dens, res_t, ended_of}
use denote.Triple.Clauses.{AtExit}
use Rattle.store.specs.Storage.{Contents}
use Rattle.answering.proofs.empty.Kinds as empty-kinds
use Rattle.answering.proofs.empty.Reads as empty
use Rattle.answering.proofs.tick.Kinds as tick-kinds
use Rattle.answering.proofs.tick.Reads as tick
use Rattle.answering.proofs.answer.Kinds as answer-kinds
use Rattle.answering.proofs.answer.Reads as answer

module _ (κs : Lfts 3) (a : Dens κs empty-kinds.ps) (r r' : (res_t empty-kinds.r κs).Denot) (s s' : AtExit (ended_of 3 empty-kinds.ps empty-kinds.r) κs) where
  pub empty-unique : empty.Post κs a r s → empty.Post κs a r' s' → (r ≡ r') × (s.0.now ≡ s'.0.now)
  empty-unique p q = (p.replies ∙ sym q.replies, ap (λ (c : Contents). c.head) (p.leaves ∙ sym q.leaves))

module _ (κs : Lfts 3) (a : Dens κs tick-kinds.ps) (r r' : (res_t tick-kinds.r κs).Denot) (s s' : AtExit (ended_of 3 tick-kinds.ps tick-kinds.r) κs) where
  pub tick-unique : tick.Post κs a r s → tick.Post κs a r' s' → (r ≡ r') × (s.1.1.0.now ≡ s'.1.1.0.now)
  tick-unique p q = (p.replies ∙ sym q.replies, ap (λ (c : Contents). c.pairs) (p.leaves ∙ sym q.leaves))

module _ (κs : Lfts 3) (a : Dens κs answer-kinds.ps) (r r' : (res_t answer-kinds.r κs).Denot) (s s' : AtExit (ended_of 3 answer-kinds.ps answer-kinds.r) κs) where
  pub answer-unique : answer.Post κs a r s → answer.Post κs a r' s' → (r ≡ r') × (s.0.now ≡ s'.0.now) × (s.1.1.0.now ≡ s'.1.1.0.now)
  answer-unique p q =
      let c = p.leaves ∙ sym q.leaves in
      (p.replies ∙ sym q.replies, ap (λ (c : Contents). c.head) c, ap (λ (c : Contents). c.pairs) c)
