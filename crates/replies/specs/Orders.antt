-- What an order does to lent contents: the refusal, which is 18 before all others, and the contents after it.
use Rattle.std.specs.Prelude.{◌≡◌, cond, Result, Ok, Err, ⊤}
use Rattle.std.proofs.Math.Option.{Option, none, some}
use Rattle.refusal.specs.declared.Refusal.{Refusal}
use Rattle.refusal.specs.declared.Refusal.TheVariants.{NotWritten}
use Rattle.rules.specs.Order.{Step}
use Rattle.rules.specs.Refusals.{accepted, show_refusal}
use Rattle.rules.specs.Ledger.{empty, view}
use Rattle.rules.specs.Steps.{refused, step}
use Rattle.order.specs.Numbers.{radio_number, group_number}
use Rattle.order.specs.declared.Gtsi.{Gtsi}
use Rattle.order.specs.declared.Itsi.{Itsi}
use Rattle.store.specs.Storage.{Contents, placing, ledger_of, laid}
use Rattle.store.specs.Form.{roomy, is_written, Sound}

-- what is answered: the refusal, or this where there is none
abbrev pub answered : {A : Type 0} → Option Refusal → A → Result A Refusal
answered none answer = Ok answer
answered (some r) answer = Err r

abbrev pub reply_of : Option Refusal → Result ⊤ Refusal
reply_of refusal = answered refusal tt

-- contents that are not in the written form are refused with 18
abbrev pub judged : Contents → Option Refusal → Option Refusal
judged c refusal = cond (is_written c) refusal (some NotWritten)

abbrev pub verdict : Contents → Step → Option Refusal
verdict c s = judged c (refused placing (ledger_of c) s)

-- a refused order changes nothing
abbrev pub contents_after : Contents → Step → Contents
contents_after c s = cond (accepted (verdict c s)) (laid (step placing (ledger_of c) s) c) c

-- ---- what a call is held to ----

-- an order that only replies
pub record Replies (s : Step) (before after : Contents) (reply : Result ⊤ Refusal) : Type 0 where
  pub replies : reply ≡ reply_of (verdict before s)
  pub leaves : after ≡ contents_after before s

-- "An empty ledger is written over any contents; lent space too small for the room above is 18"
abbrev pub empty_verdict : Contents → Option Refusal
empty_verdict c = cond (roomy c) none (some NotWritten)

abbrev pub emptied : Contents → Contents
emptied c = cond (roomy c) (laid empty c) c

pub record Begins (before after : Contents) (reply : Result ⊤ Refusal) : Type 0 where
  pub replies : reply ≡ reply_of (empty_verdict before)
  pub leaves : after ≡ emptied before

-- an order's judgement before anything is changed; what is taken is in the written form
pub record Judges (on : Contents) (s : Step) (reply : Result ⊤ Refusal) : Type 0 where
  pub judges : reply ≡ reply_of (verdict on s)
  pub sound : reply ≡ Ok tt → Sound on

-- the judgement of a list or a show, room apart
pub record JudgesAsker (on : Contents) (asker : Itsi) (group : Gtsi) (reply : Result ⊤ Refusal) : Type 0 where
  pub judges : reply ≡ reply_of (judged on (show_refusal (view (ledger_of on)) (radio_number asker) (group_number group)))
  pub sound : reply ≡ Ok tt → Sound on
