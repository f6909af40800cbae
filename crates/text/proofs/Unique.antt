-- What each public function promises leaves one answer, and one state of what it was lent.
use mathlib.Core.Path.{◌≡◌, sym, ◌∙◌}
use mathlib.Core.List.{List}
use Prim.Native.Nat.{ℕ}
use contract.Lifetimes.{Lfts}
use borrow.Fn.Kinds.{Dens, res_t, ended_of}
use denote.Triple.Clauses.{AtExit}
use denote.Param.Laws.{Laws}
use denote.RattleType.{RattleType}
use mir.Syntax.{Dict}
use Rattle.text.specs.declared.listed.Item as Item
use Rattle.text.specs.Put.{Replied}
use Rattle.text.proofs.refuse.Kinds as refuse-kinds
use Rattle.text.proofs.refuse.Reads as refuse
use Rattle.text.proofs.put_reply.Kinds as put-reply-kinds
use Rattle.text.proofs.put_reply.Reads as put-reply
use Rattle.text.proofs.put_listed.Kinds as put-listed-kinds
use Rattle.text.proofs.put_listed.Reads as put-listed
use Rattle.text.proofs.put_shown.Kinds as put-shown-kinds
use Rattle.text.proofs.put_shown.Reads as put-shown

one-reply : {text before after after' : List ℕ} {count count' : ℕ} → Replied text before after count → Replied text before after' count'
    → (count ≡ count') × (after ≡ after')
one-reply p q = (p.counted ∙ sym q.counted, p.laid ∙ sym q.laid)

module _ (κs : Lfts 1) (a : Dens κs refuse-kinds.ps) (r r' : (res_t refuse-kinds.r κs).Denot)
    (s s' : AtExit (ended_of 1 refuse-kinds.ps refuse-kinds.r) κs) where
  pub refuse-unique : refuse.Post κs a r s → refuse.Post κs a r' s' → (r ≡ r') × (s.1.0.now ≡ s'.1.0.now)
  refuse-unique = one-reply

module _ (κs : Lfts 1) (a : Dens κs put-reply-kinds.ps) (r r' : (res_t put-reply-kinds.r κs).Denot)
    (s s' : AtExit (ended_of 1 put-reply-kinds.ps put-reply-kinds.r) κs) where
  pub put-reply-unique : put-reply.Post κs a r s → put-reply.Post κs a r' s' → (r ≡ r') × (s.1.0.now ≡ s'.1.0.now)
  put-reply-unique = one-reply

module _ (κs : Lfts 1) (a : Dens κs put-shown-kinds.ps) (r r' : (res_t put-shown-kinds.r κs).Denot)
    (s s' : AtExit (ended_of 1 put-shown-kinds.ps put-shown-kinds.r) κs) where
  pub put-shown-unique : put-shown.Post κs a r s → put-shown.Post κs a r' s' → (r ≡ r') × (s.1.0.now ≡ s'.1.0.now)
  put-shown-unique = one-reply

-- whatever the rows are
module _ (T : RattleType) (laws : Laws T) (item : Item.Ghosts T.Denot) (item-dict : Dict) where
  module _ (κs : Lfts 3) (a : Dens κs (put-listed-kinds.ps T laws)) (r r' : (res_t (put-listed-kinds.r T laws) κs).Denot)
      (s s' : AtExit (ended_of 3 (put-listed-kinds.ps T laws) (put-listed-kinds.r T laws)) κs) where
    pub put-listed-unique : put-listed.Post T laws item item-dict κs a r s → put-listed.Post T laws item item-dict κs a r' s'
        → (r ≡ r') × (s.1.1.0.now ≡ s'.1.1.0.now)
    put-listed-unique = one-reply
