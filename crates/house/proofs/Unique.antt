-- What each public function promises leaves one answer, and one state of what it was lent.
use mathlib.Core.Path.{◌≡◌, sym, ◌∙◌}
use contract.Lifetimes.{Lfts}
use borrow.Fn.Kinds.{Dens, res_t, ended_of}
use denote.Triple.Clauses.{AtExit}
use Rattle.refusal.proofs.Unique.{Unique}
use Rattle.house.proofs.digit_of.Kinds as digit-of-kinds
use Rattle.house.proofs.digit_of.Reads as digit-of
use Rattle.house.proofs.heading.Kinds as heading-kinds
use Rattle.house.proofs.heading.Reads as heading
use Rattle.house.proofs.split.Kinds as split-kinds
use Rattle.house.proofs.split.Reads as split
use Rattle.house.proofs.refuse_at.Kinds as refuse-at-kinds
use Rattle.house.proofs.refuse_at.Reads as refuse-at
use Rattle.house.proofs.echo_line.Kinds as echo-line-kinds
use Rattle.house.proofs.echo_line.Reads as echo-line

pub digit-of-unique : Unique digit-of-kinds.ps digit-of-kinds.r digit-of.Post
digit-of-unique κs a r r' s s' p q = p ∙ sym q

pub heading-unique : Unique heading-kinds.ps heading-kinds.r heading.Post
heading-unique κs a r r' s s' p q = p ∙ sym q

module _ (κs : Lfts 1) (a : Dens κs split-kinds.ps) (r r' : (res_t split-kinds.r κs).Denot) (s s' : AtExit (ended_of 1 split-kinds.ps split-kinds.r) κs) where
  pub split-unique : split.Post κs a r s → split.Post κs a r' s' → r.now ≡ r'.now
  split-unique p q = p ∙ sym q

module _ (κs : Lfts 2) (a : Dens κs echo-line-kinds.ps) (r r' : (res_t echo-line-kinds.r κs).Denot) (s s' : AtExit (ended_of 2 echo-line-kinds.ps echo-line-kinds.r) κs) where
  pub echo-line-unique : echo-line.Post κs a r s → echo-line.Post κs a r' s' → (r ≡ r') × (s.1.0.now ≡ s'.1.0.now)
  echo-line-unique p q = (p.counted ∙ sym q.counted, p.stored ∙ sym q.stored)

module _ (κs : Lfts 1) (a : Dens κs refuse-at-kinds.ps) (r r' : (res_t refuse-at-kinds.r κs).Denot)
    (s s' : AtExit (ended_of 1 refuse-at-kinds.ps refuse-at-kinds.r) κs) where
  pub refuse-at-unique : refuse-at.Post κs a r s → refuse-at.Post κs a r' s' → (r ≡ r') × (s.1.1.0.now ≡ s'.1.1.0.now)
  refuse-at-unique p q = (p.counted ∙ sym q.counted, p.stored ∙ sym q.stored)
