-- Any two results that the reader's contract allows are equal. `Post` is the contract's claim as the checker reads it.
-- Assumes nothing.
use mathlib.Core.Path.{◌≡◌, sym, ◌∙◌}
use borrow.Fn.Kinds.{Dens, res_t, ended_of}
use contract.Lifetimes.{Lfts}
use denote.Triple.Clauses.{AtExit}
use Rattle.reading.proofs.read_frame.Kinds as kinds
use Rattle.reading.proofs.read_frame.Reads as read-frame

module _ (κs : Lfts 1) (a : Dens κs kinds.ps) (r r' : (res_t kinds.r κs).Denot) (s s' : AtExit (ended_of 1 kinds.ps kinds.r) κs) where
  pub read-frame-unique : read-frame.Post κs a r s → read-frame.Post κs a r' s' → r ≡ r'
  read-frame-unique p q = p ∙ sym q
