-- What `turn_pairs` promises leaves one count and one order of pairs.
use mathlib.Core.Path.{◌≡◌, sym, ◌∙◌}
use contract.Lifetimes.{Lfts}
use borrow.Fn.Kinds.{Dens, res_t, ended_of}
use denote.Triple.Clauses.{AtExit}
use Rattle.turning.proofs.turn_pairs.Kinds as kinds
use Rattle.turning.proofs.turn_pairs.Reads as turn-pairs

module _ (κs : Lfts 3) (a : Dens κs kinds.ps) (r r' : (res_t kinds.r κs).Denot) (s s' : AtExit (ended_of 3 kinds.ps kinds.r) κs) where
  pub turn-pairs-unique : turn-pairs.Post κs a r s → turn-pairs.Post κs a r' s' → (r ≡ r') × (s.0.now ≡ s'.0.now)
  turn-pairs-unique p q = (p.counts ∙ sym q.counts, p.rows ∙ sym q.rows)
