-- What `delete` promises leaves one reply, one ledger and one room.
use mathlib.Core.Path.{◌≡◌, sym, ap, ◌∙◌}
use contract.Lifetimes.{Lfts}
use borrow.Fn.Kinds.{Dens, res_t, ended_of}
use denote.Triple.Clauses.{AtExit}
use Rattle.store.specs.Storage.{Contents}
use Rattle.deleting.proofs.delete.Kinds as kinds
use Rattle.deleting.proofs.delete.Reads as delete

-- the lent buffers: head, groups, pairs and, last, the room for the orders
module _ (κs : Lfts 4) (a : Dens κs kinds.ps) (r r' : (res_t kinds.r κs).Denot) (s s' : AtExit (ended_of 4 kinds.ps kinds.r) κs) where
  pub delete-unique : delete.Post κs a r s → delete.Post κs a r' s' → (r ≡ r')
      × (s.0.now ≡ s'.0.now) × (s.1.0.now ≡ s'.1.0.now) × (s.1.1.0.now ≡ s'.1.1.0.now)
      × (s.1.1.1.1.1.1.1.1.1.0.now ≡ s'.1.1.1.1.1.1.1.1.1.0.now)
  delete-unique p q =
      let after = p.leaves ∙ sym q.leaves in (
        p.replies ∙ sym q.replies,
        ap (λ (c : Contents). c.head) after,
        ap (λ (c : Contents). c.groups) after,
        ap (λ (c : Contents). c.pairs) after,
        p.sends ∙ sym q.sends,
      )
