-- No call of a run is refused with 18: it is none of the history's refusals.
use mathlib.Core.Path.{◌≡◌, refl, sym, ap, ◌∙◌}
use mathlib.Core.Bool.{Bool, true, false, cond}
use mathlib.Core.List.{List, [], ◌∷◌}
use mathlib.Core.Option.{Option, none, some}
use Prim.Native.Nat.{ℕ}
use native.Mathlib.Omega.{arith}
use lib.Dec.{eqb}
use lib.ListN.{length}
use Rattle.std.specs.Prelude.{Err}
use Rattle.refusal.specs.Number.{number_of}
use Rattle.refusal.specs.declared.Refusal.{Refusal}
use Rattle.refusal.specs.declared.Refusal.TheVariants.{NotWritten}
use Rattle.rules.specs.Lists.{any}
use Rattle.rules.specs.Number.{Number, key}
use Rattle.rules.specs.Order.{Step, define, delete, answer, handover, tick}
use Rattle.rules.specs.World.{World, Tally}
use Rattle.rules.specs.Refusals.{first, tests, refusal, show_refusal, ask_tests, list_refusal, list_tests}
use Rattle.rules.specs.Effect.{effect}
use Rattle.rules.specs.History.{History, ◌then◌, world, named_in, tally_in, radios_in, refusal_in, sent_in, list_in, show_in}
use Rattle.order.specs.Numbers.{radio_number, asked_number}
use Rattle.order.specs.Steps.{handover_step, define_step}
use Rattle.store.specs.Storage.{Contents}
use Rattle.store.specs.Form.{roomy}
use Rattle.replies.specs.Orders.{answered, empty_verdict}
use Rattle.replies.specs.Showing.{shown_as}
use Rattle.demand.specs.Arguments.{deletion_step, answering_step}
use Rattle.demand.specs.Runs.{Kept}
use Rattle.demand.specs.Demand.{Never18}
use Rattle.demand.proofs.Back.{form-parts}
use Rattle.demand.proofs.Calls.{empty-says}
use Rattle.demand.proofs.Demand.{demand}
use Rattle.rules.proofs.Tests.{clash, or_l, or_r}

-- the refusals of a list of tests, by their numbers
abbrev has18 : List (Refusal × Bool) → Bool
has18 l = any (λ (t : Refusal × Bool). eqb (number_of t.0) 18) l

first-not18 : (l : List (Refusal × Bool)) → has18 l ≡ false → first l ≡ some NotWritten → ⊥
first-not18 [] n e = let z : ◌≡◌ {A = ℕ} 0 1 = cc in absurd (omega arith)
first-not18 (t ∷ l) n e = go t.1 e (first-not18 l (or_r (eqb (number_of t.0) 18) (has18 l) n))
  where
    go : (b : Bool) → cond b (some t.0) (first l) ≡ some NotWritten → (first l ≡ some NotWritten → ⊥) → ⊥
    go true q f =
        let z : t.0 ≡ NotWritten = cc in
        clash (sym (ap (λ (r : Refusal). eqb (number_of r) 18) z) ∙ or_l (eqb (number_of t.0) 18) (has18 l) n)
    go false q f = f q

step-not18 : (w : World) (t : Tally) (s : Step) → refusal w t s ≡ some NotWritten → ⊥
step-not18 w t (define o room) = first-not18 (tests w t (define o room)) refl
step-not18 w t (delete o room) = first-not18 (tests w t (delete o room)) refl
step-not18 w t (answer a) = first-not18 (tests w t (answer a)) refl
step-not18 w t (handover o) = first-not18 (tests w t (handover o)) refl
step-not18 w t tick = first-not18 (tests w t tick) refl

list-not18 : (w : World) (asker g : Number) (radios : List ℕ) (room : ℕ) → list_refusal w asker g radios room ≡ some NotWritten → ⊥
list-not18 w asker g radios room = first-not18 (list_tests w asker g radios room) refl

show-not18 : (w : World) (asker g : Number) → show_refusal w asker g ≡ some NotWritten → ⊥
show-not18 w asker g = first-not18 (ask_tests w asker g) refl

-- ---- over a run ----

in-history : (h : History) (s : Step) → refusal_in h s ≡ some NotWritten → ⊥
in-history h s = step-not18 (world h) (tally_in (world h) (named_in (h then s)) (effect (world h) s)) s

answered-some : {A : Type 0} (o : Option Refusal) (a : A) (r : Refusal) → Err r ≡ answered o a → o ≡ some r
answered-some none a r e = let z : ◌≡◌ {A = ℕ} 0 1 = cc in absurd (omega arith)
answered-some (some x) a r e = let q : x ≡ r = cc in ap some q

roomy-begins : (c : Contents) → roomy c ≡ true → empty_verdict c ≡ some NotWritten → ⊥
roomy-begins c r e = let z : ◌≡◌ {A = ℕ} 0 1 = cc in absurd (omega arith)

pub never18 : {c : Contents} {h : History} → Kept c h → Never18 c
never18 {c} {h} k =
    let f = demand k in
    record {
      defines = λ {asker} {values} {room} e. let s = define_step asker values.place (length room) in
          in-history h s (answered-some (refusal_in h s) (length (sent_in h s)) NotWritten (f.defines e).0);
      deletes = λ {d} {room} e. let s = deletion_step d (length room) in
          in-history h s (answered-some (refusal_in h s) (length (sent_in h s)) NotWritten (f.deletes e).0);
      answers = λ {a} e. let s = answering_step a in
          in-history h s (answered-some (refusal_in h s) tt NotWritten (f.answers e));
      hands_over = λ {asker} {group} {owners} e. let s = handover_step asker group owners in
          in-history h s (answered-some (refusal_in h s) tt NotWritten (f.hands_over e));
      ticks = λ e. in-history h tick (answered-some (refusal_in h tick) tt NotWritten (f.ticks e));
      lists = λ {asker} {asked} {room} e. let g = asked_number asker asked in let l = list_in h (radio_number asker) g (length room) in
          list-not18 (world h) (radio_number asker) g (radios_in h (key g)) (length room)
          (answered-some l.refused (length l.entries) NotWritten (f.lists e).0);
      shows = λ {asker} {asked} e. let g = asked_number asker asked in let shown = show_in h (radio_number asker) g in
          show-not18 (world h) (radio_number asker) g (answered-some shown.refused (shown_as shown.owners shown.parameters) NotWritten (f.shows e));
      empties = λ e. roomy-begins c (form-parts c f.written).0 (answered-some (empty_verdict c) tt NotWritten (empty-says e).replies);
    }
