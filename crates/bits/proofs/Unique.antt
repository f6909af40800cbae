-- For each public function, any two results that its contract allows are equal, and so are the bytes that it leaves.
-- `Post` is a contract's claim as the checker reads it.
-- Assumes nothing.
use mathlib.Core.Path.{◌≡◌, sym, ap, ◌∙◌}
use Prim.Native.Nat.{ℕ}
use mathlib.Core.List.{List}
use borrow.Fn.Kinds.{Dens, res_t, ended_of}
use contract.Lifetimes.{Lfts}
use denote.Ref.{Bor}
use denote.Triple.Clauses.{AtExit}
use Rattle.refusal.proofs.Unique.{Unique}
use Rattle.bits.specs.declared.Reader.{Reader}
use Rattle.bits.proofs.Reader.new.Kinds as new-kinds
use Rattle.bits.proofs.Reader.new.Reads as new
use Rattle.bits.proofs.Reader.moved.Kinds as moved-kinds
use Rattle.bits.proofs.Reader.moved.Reads as moved
use Rattle.bits.proofs.Reader.take.Kinds as take-kinds
use Rattle.bits.proofs.Reader.take.Reads as take
use Rattle.bits.proofs.field_from.Kinds as field-from-kinds
use Rattle.bits.proofs.field_from.Reads as field-from
use Rattle.bits.proofs.first_two.Kinds as first-two-kinds
use Rattle.bits.proofs.first_two.Reads as first_two
use Rattle.bits.proofs.put_field.Kinds as put-kinds
use Rattle.bits.proofs.put_field.Reads as put-field

-- readers with equal fields are equal
same-reader : (r r' : Reader) → r.frame ≡ r'.frame → r.bits ≡ r'.bits → r.at ≡ r'.at → r ≡ r'
same-reader r r' p q s =
    ap (λ (x : Bor (List ℕ)). record { frame = x; bits = r.bits; at = r.at }) p
    ∙ ap (λ (x : ℕ). record { frame = r'.frame; bits = x; at = r.at }) q
    ∙ ap (λ (x : ℕ). record { frame = r'.frame; bits = r'.bits; at = x }) s

pub new-unique : Unique new-kinds.ps new-kinds.r new.Post
new-unique κs a r r' s s' p q = same-reader r r' (p.0 ∙ sym q.0) (p.1 ∙ sym q.1) (p.2 ∙ sym q.2)

pub moved-unique : Unique moved-kinds.ps moved-kinds.r moved.Post
moved-unique κs a r r' s s' p q = same-reader r r' (p.0 ∙ sym q.0) (p.1 ∙ sym q.1) (p.2 ∙ sym q.2)

pub take-unique : Unique take-kinds.ps take-kinds.r take.Post
take-unique κs a r r' s s' p q = p ∙ sym q

pub field-from-unique : Unique field-from-kinds.ps field-from-kinds.r field-from.Post
field-from-unique κs a r r' s s' p q = p ∙ sym q

pub first-two-unique : Unique first-two-kinds.ps first-two-kinds.r first_two.Post
first-two-unique κs a r r' s s' p q = p ∙ sym q

-- the bytes
module _ (κs : Lfts 1) (a : Dens κs put-kinds.ps) (r r' : (res_t put-kinds.r κs).Denot) (s s' : AtExit (ended_of 1 put-kinds.ps put-kinds.r) κs) where
  pub put-field-unique : put-field.Post κs a r s → put-field.Post κs a r' s' → s.0.now ≡ s'.0.now
  put-field-unique p q = p ∙ sym q
