-- Each public function's contract allows one outcome: two replies that meet it are equal, and so is what the lent room holds then.
use mathlib.Core.Path.{◌≡◌, sym, ◌∙◌}
use contract.Lifetimes.{Lfts}
use borrow.Fn.Kinds.{Dens, res_t, ended_of}
use denote.Triple.Clauses.{AtExit}
use Rattle.order.proofs.Unique.{Unique}
use Rattle.asking.proofs.list.Kinds as list-kinds
use Rattle.asking.proofs.list.Reads as list
use Rattle.asking.proofs.show.Kinds as show-kinds
use Rattle.asking.proofs.show.Reads as show

module _ (κs : Lfts 4) (a : Dens κs list-kinds.ps) (r r' : (res_t list-kinds.r κs).Denot) (s s' : AtExit (ended_of 4 list-kinds.ps list-kinds.r) κs) where
  pub list-unique : list.Post κs a r s → list.Post κs a r' s' → (r ≡ r') × (s.1.1.1.1.1.0.now ≡ s'.1.1.1.1.1.0.now)
  list-unique p q = (p.replies ∙ sym q.replies, p.lists ∙ sym q.lists)

pub show-unique : Unique show-kinds.ps show-kinds.r show.Post
show-unique κs a r r' s s' p q = p ∙ sym q
