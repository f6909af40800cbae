-- Any two results that a public function's contract allows are equal, and so is what it leaves in a lent buffer.
-- `Post` is a contract's claim as the checker reads it.
-- Assumes nothing.
use Rattle.std.proofs.Common.{◌≡◌, sym, ◌∙◌}
use borrow.Fn.Kinds.{Dens, res_t, ended_of}
use contract.Lifetimes.{Lfts}
use denote.Triple.Clauses.{AtExit}
use Rattle.refusal.proofs.Unique.{Unique}
use Rattle.writing.proofs.judge_record.Kinds as judge-kinds
use Rattle.writing.proofs.judge_record.Reads as judge
use Rattle.writing.proofs.measure_record.Kinds as measure-kinds
use Rattle.writing.proofs.measure_record.Reads as measure
use Rattle.writing.proofs.write_record.Kinds as write-kinds
use Rattle.writing.proofs.write_record.Reads as write

pub judge-record-unique : Unique judge-kinds.ps judge-kinds.r judge.Post
judge-record-unique κs a r r' s s' p q = p ∙ sym q

pub measure-record-unique : Unique measure-kinds.ps measure-kinds.r measure.Post
measure-record-unique κs a r r' s s' p q = p ∙ sym q

module _ (κs : Lfts 2) (a : Dens κs write-kinds.ps) (r r' : (res_t write-kinds.r κs).Denot) (s s' : AtExit (ended_of 2 write-kinds.ps write-kinds.r) κs) where
  pub write-record-unique : write.Post κs a r s → write.Post κs a r' s' → (r ≡ r') × (s.1.1.0.now ≡ s'.1.1.0.now)
  write-record-unique p q = (p.0 ∙ sym q.0, p.1 ∙ sym q.1)
