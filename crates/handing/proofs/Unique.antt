-- A handover's contract allows one outcome: the reply, and the groups that are left.
use mathlib.Core.Path.{◌≡◌, sym, ap, ◌∙◌}
use contract.Lifetimes.{Lfts}
use borrow.Fn.Kinds.{Dens, res_t, ended_of}
use denote.Triple.Clauses.{AtExit}
use Rattle.store.specs.Storage.{Contents}
use Rattle.handing.proofs.handover.Kinds as kinds
use Rattle.handing.proofs.handover.Reads as handover

module _ (κs : Lfts 3) (a : Dens κs kinds.ps) (r r' : (res_t kinds.r κs).Denot) (s s' : AtExit (ended_of 3 kinds.ps kinds.r) κs) where
  pub handover-unique : handover.Post κs a r s → handover.Post κs a r' s' → (r ≡ r') × (s.1.0.now ≡ s'.1.0.now)
  handover-unique p q = (p.replies ∙ sym q.replies, ap (λ (c : Contents). c.groups) (p.leaves ∙ sym q.leaves))
