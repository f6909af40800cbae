-- Any two results that a public function's contract allows are equal, and so is what it leaves in a lent buffer.
-- `Post` is a contract's claim as the checker reads it.
-- Assumes nothing.
use mathlib.Core.Path.{◌≡◌, sym, ◌∙◌}
use borrow.Fn.Kinds.{Dens, res_t, ended_of}
use contract.Lifetimes.{Lfts}
use denote.Triple.Clauses.{AtExit}
use Rattle.frame.proofs.blank.Kinds as blank-kinds
use Rattle.frame.proofs.blank.Reads as blank
use Rattle.frame.proofs.read.Kinds as read-kinds
use Rattle.frame.proofs.read.Reads as read
use Rattle.frame.proofs.fault.Kinds as fault-kinds
use Rattle.frame.proofs.fault.Reads as fault
use Rattle.frame.proofs.length.Kinds as length-kinds
use Rattle.frame.proofs.length.Reads as length
use Rattle.frame.proofs.write.Kinds as write-kinds
use Rattle.frame.proofs.write.Reads as write

module _ (κs : Lfts 0) (a : Dens κs blank-kinds.ps) (r r' : (res_t blank-kinds.r κs).Denot) (s s' : AtExit (ended_of 0 blank-kinds.ps blank-kinds.r) κs) where
  pub blank-unique : blank.Post κs a r s → blank.Post κs a r' s' → r ≡ r'
  blank-unique p q = p ∙ sym q

module _ (κs : Lfts 1) (a : Dens κs read-kinds.ps) (r r' : (res_t read-kinds.r κs).Denot) (s s' : AtExit (ended_of 1 read-kinds.ps read-kinds.r) κs) where
  pub read-unique : read.Post κs a r s → read.Post κs a r' s' → r ≡ r'
  read-unique p q = p ∙ sym q

module _ (κs : Lfts 1) (a : Dens κs fault-kinds.ps) (r r' : (res_t fault-kinds.r κs).Denot) (s s' : AtExit (ended_of 1 fault-kinds.ps fault-kinds.r) κs) where
  pub fault-unique : fault.Post κs a r s → fault.Post κs a r' s' → r ≡ r'
  fault-unique p q = p ∙ sym q

module _ (κs : Lfts 1) (a : Dens κs length-kinds.ps) (r r' : (res_t length-kinds.r κs).Denot) (s s' : AtExit (ended_of 1 length-kinds.ps length-kinds.r) κs) where
  pub length-unique : length.Post κs a r s → length.Post κs a r' s' → r ≡ r'
  length-unique p q = p ∙ sym q

module _ (κs : Lfts 2) (a : Dens κs write-kinds.ps) (r r' : (res_t write-kinds.r κs).Denot) (s s' : AtExit (ended_of 2 write-kinds.ps write-kinds.r) κs) where
  pub write-unique : write.Post κs a r s → write.Post κs a r' s' → (r ≡ r') × (s.1.1.0.now ≡ s'.1.1.0.now)
  write-unique p q = (p.0 ∙ sym q.0, p.1 ∙ sym q.1)
