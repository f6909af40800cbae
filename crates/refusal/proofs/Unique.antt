-- What the conversion of a refusal to its number promises leaves one answer, and what `put` promises leaves one answer and one buffer.
-- `Post` is a contract's claim as the checker reads it.
use mathlib.Core.Path.{◌≡◌, sym, ◌∙◌}
use contract.Lifetimes.{Lfts}
use Prim.Native.Nat.{ℕ}
use mathlib.Core.List.{List}
use borrow.Fn.Kinds.{ParamKind, ResultKind, Dens, res_t, ended_of}
use denote.Triple.Clauses.{AtExit}
use Rattle.refusal.proofs.U8FromRefusal.from.Kinds as kinds
use Rattle.refusal.proofs.U8FromRefusal.from.Reads as number
use Rattle.refusal.proofs.Refusal.put.Kinds as put-kinds
use Rattle.refusal.proofs.Refusal.put.Reads as put

-- of any arguments, at any exits, what the claim allows is one result
abbrev pub Unique : {n : ℕ} (ps : List (ParamKind n)) (res : ResultKind n)
    → ((κs : Lfts n) → Dens κs ps → (res_t res κs).Denot → AtExit (ended_of n ps res) κs → Type 0) → Type 0
Unique {n} ps res Post =
    (κs : Lfts n) (a : Dens κs ps) (r r' : (res_t res κs).Denot) (s s' : AtExit (ended_of n ps res) κs) → Post κs a r s → Post κs a r' s' → r ≡ r'

pub number-unique : Unique kinds.ps kinds.r number.Post
number-unique κs a r r' s s' p q = p ∙ sym q

module _ (κs : Lfts 1) (a : Dens κs put-kinds.ps) (r r' : (res_t put-kinds.r κs).Denot) (s s' : AtExit (ended_of 1 put-kinds.ps put-kinds.r) κs) where
  pub put-unique : put.Post κs a r s → put.Post κs a r' s' → (r ≡ r') × (s.1.0.now ≡ s'.1.0.now)
  put-unique p q = (p.counted ∙ sym q.counted, p.stored ∙ sym q.stored)
