-- The contract of a define allows one outcome: two replies that meet it are equal, and so is what each lent buffer holds then.
use mathlib.Core.Path.{◌≡◌, sym, ap, ◌∙◌}
use contract.Lifetimes.{Lfts}
use borrow.Fn.Kinds.{Dens, res_t, ended_of}
use denote.Triple.Clauses.{AtExit}
use Rattle.store.specs.Storage.{Contents}
use Rattle.defining.proofs.define.Kinds as define-kinds
use Rattle.defining.proofs.define.Reads as define

module _ (κs : Lfts 4) (a : Dens κs define-kinds.ps) (r r' : (res_t define-kinds.r κs).Denot)
    (s s' : AtExit (ended_of 4 define-kinds.ps define-kinds.r) κs) where
  pub define-unique : define.Post κs a r s → define.Post κs a r' s' → (r ≡ r') × (s.0.now ≡ s'.0.now) × (s.1.0.now ≡ s'.1.0.now)
      × (s.1.1.0.now ≡ s'.1.1.0.now) × (s.1.1.1.1.1.0.now ≡ s'.1.1.1.1.1.0.now)
  define-unique p q =
      let left = p.leaves ∙ sym q.leaves in (
        p.replies ∙ sym q.replies,
        ap (λ (c : Contents). c.head) left,
        ap (λ (c : Contents). c.groups) left,
        ap (λ (c : Contents). c.pairs) left,
        p.sends ∙ sym q.sends,
      )
