-- What `lesser` promises leaves one answer.
use mathlib.Core.Path.{◌≡◌, sym, ◌∙◌}
use contract.Lifetimes.{Lfts}
use borrow.Fn.Kinds.{Dens, res_t, ended_of}
use denote.Triple.Clauses.{AtExit}
use Rattle.rows.proofs.lesser.Kinds as kinds
use Rattle.rows.proofs.lesser.Reads as lesser

module _ (κs : Lfts 0) (a : Dens κs kinds.ps) (r r' : (res_t kinds.r κs).Denot) (s s' : AtExit (ended_of 0 kinds.ps kinds.r) κs) where
  pub lesser-unique : lesser.Post κs a r s → lesser.Post κs a r' s' → r ≡ r'
  lesser-unique p q = p ∙ sym q
