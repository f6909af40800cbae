-- After any run of calls the contents are in the written form, and hold the ledger of the run's history.
use mathlib.Core.Path.{◌≡◌, refl, sym, ap, subst}
use mathlib.Core.Bool.{Bool, true, false, cond}
use mathlib.Core.Option.{none, some}
use Prim.Native.Nat.{ℕ}
use native.Mathlib.Omega.{arith}
use lib.ListN.{length}
use Rattle.std.specs.Prelude.{Result, Ok, ⊤}
use Rattle.refusal.specs.declared.Refusal.{Refusal}
use Rattle.refusal.specs.declared.Refusal.TheVariants.{NotWritten}
use Rattle.rules.specs.Order.{Step}
use Rattle.rules.specs.Refusals.{accepted}
use Rattle.rules.specs.Ledger.{Ledger, empty, view}
use Rattle.rules.specs.Steps.{apply, refused, step}
use Rattle.rules.specs.Effect.{effect}
use Rattle.rules.specs.History.{History, start, ◌then◌}
use Rattle.rules.specs.Run.{run}
use Rattle.rules.specs.Written.{written}
use Rattle.rules.proofs.ByNumber.{by_number_lem}
use Rattle.rules.proofs.Written.{step-written, empty-written}
use Rattle.store.specs.Storage.{Rows, Contents, placing, ledger_of, laid}
use Rattle.store.specs.Form.{roomy, Sound}
use Rattle.replies.specs.Orders.{reply_of, empty_verdict, emptied, contents_after, Replies}
use Rattle.replies.specs.Sending.{Sends}
use Rattle.demand.specs.Calls.{Empties}
use Rattle.demand.specs.Runs.{Kept, begun, defined, deleted, answered, handed_over, ticked}
use Rattle.demand.proofs.Calls.{empty-says, tick-says, answer-says, handover-says, define-says, delete-says}
use Rattle.demand.proofs.Back.{back, laid-sound, form-parts}

-- the contents are in the written form, and hold this ledger
record Holds (c : Contents) (l : Ledger) : Type 0 where
  sound : Sound c
  says : ledger_of c ≡ l

laid-holds : (l : Ledger) (c : Contents) → written placing l ≡ true → roomy c ≡ true → Holds (laid l c) l
laid-holds l c w r = record { sound = laid-sound l c w r; says = back l c w }

-- what an order leaves, by whether it is accepted
taken-holds : (taken : Bool) (l new : Ledger) (c : Contents) → written placing (cond taken new l) ≡ true → roomy c ≡ true → Holds c l
    → Holds (cond taken (laid (cond taken new l) c) c) (cond taken new l)
taken-holds true l new c w r k = laid-holds new c w r
taken-holds false l new c w r k = k

step-holds : (c : Contents) (l : Ledger) (s : Step) → Holds c l → Holds (contents_after c s) (step placing l s)
step-holds c l s k =
    let p = form-parts c k.sound.form in
    let judges : cond (accepted (refused placing (ledger_of c) s)) (laid (step placing (ledger_of c) s) c) c ≡ contents_after c s =
    ap (λ (b : Bool). cond (accepted (cond b (refused placing (ledger_of c) s) (some NotWritten))) (laid (step placing (ledger_of c) s) c) c)
    (sym k.sound.form) in
    subst (λ (x : Ledger). Holds (contents_after c s) (step placing x s)) k.says
    (subst (λ (x : Contents). Holds x (step placing (ledger_of c) s)) judges
    (taken-holds (accepted (refused placing (ledger_of c) s)) (ledger_of c) (apply placing (ledger_of c) (effect (view (ledger_of c)) s)) c
    (step-written placing by_number_lem (ledger_of c) s p.1) p.0 (record { sound = k.sound; says = refl })))

-- `empty` over contents with room
empty_holds : (c : Contents) → Ok tt ≡ reply_of (empty_verdict c) → Holds (emptied c) empty
empty_holds c d = go (roomy c) refl d
  where
    go : (b : Bool) → roomy c ≡ b → Ok tt ≡ reply_of (cond b none (some NotWritten)) → Holds (cond b (laid empty c) c) empty
    go true r d = laid-holds empty c (empty-written placing by_number_lem) r
    go false r d = let z : ◌≡◌ {A = ℕ} 0 1 = cc in absurd (omega arith)

-- ---- the run ----

-- the contents are in the written form, and hold the ledger of the history
pub record Stands (c : Contents) (h : History) : Type 0 where
  pub sound : Sound c
  pub says : ledger_of c ≡ run placing h

stands : {c : Contents} (h : History) → Holds c (run placing h) → Stands c h
stands h k = record { sound = k.sound; says = k.says }

begins : {c c' : Contents} → Empties c c' (Ok tt) → Stands c' start
begins {c} e = let s = empty-says e in stands start (subst (λ (x : Contents). Holds x empty) (sym s.leaves) (empty_holds c s.replies))

-- any order, by the contents that it leaves
follows : {c c' : Contents} {h : History} (s : Step) → c' ≡ contents_after c s → Stands c h → Stands c' (h then s)
follows {c} {c'} {h} s e k = stands (h then s)
    (subst (λ (x : Contents). Holds x (step placing (run placing h) s)) (sym e)
    (step-holds c (run placing h) s (record { sound = k.sound; says = k.says })))

replied : {s : Step} {c c' : Contents} {h : History} {reply : Result ⊤ Refusal} → Stands c h → Replies s c c' reply → Stands c' (h then s)
replied {s} k r = follows s r.leaves k

sent-out : {s : ℕ → Step} {room sent : Rows} {c c' : Contents} {h : History} {reply : Result ℕ Refusal}
    → Stands c h → Sends s room sent c c' reply → Stands c' (h then s (length room))
sent-out {s} {room} k r = follows (s (length room)) r.leaves k

pub run-stands : {c : Contents} {h : History} → Kept c h → Stands c h
run-stands (begun e) = begins e
run-stands (defined k e) = sent-out (run-stands k) (define-says e)
run-stands (deleted k e) = sent-out (run-stands k) (delete-says e)
run-stands (answered k e) = replied (run-stands k) (answer-says e)
run-stands (handed_over k e) = replied (run-stands k) (handover-says e)
run-stands (ticked k e) = replied (run-stands k) (tick-says e)
