-- After any history the abstract ledger says what the history means, under any lawful placing: one path, from which every reply follows.
use Prim.Native.Nat.{ℕ}
use mathlib.Core.Path.{◌≡◌, refl, sym, ◌∙◌, ap, subst}
use mathlib.Core.Bool.{cond}
use mathlib.Core.List.{List, []}
use lib.ListN.{length}
use Rattle.rules.specs.Number.{Number, key}
use Rattle.rules.specs.Order.{Step}
use Rattle.rules.specs.World.{World, members_in, owners_in, group_total, pair_total, Tally}
use Rattle.rules.specs.Effect.{Effect, effect}
use Rattle.rules.specs.Change.{after}
use Rattle.rules.specs.Outgoing.{outgoing}
use Rattle.rules.specs.Refusals.{accepted, refusal}
use Rattle.rules.specs.Replies.{listing, showing}
use Rattle.rules.specs.Ledger.{Ledger, view, members, owners, list, show}
use Rattle.rules.specs.Placing.{Placing, Lawful}
use Rattle.rules.specs.Steps.{apply, tally, refused, step, sent}
use Rattle.rules.specs.History.{History, start, ◌then◌, Named, named, named_in, tally_in, judge, taken, Past, onward, past}
use Rattle.rules.specs.History.{world, refusal_in, sent_in, list_in, show_in}
use Rattle.rules.specs.Run.{run}
use Rattle.rules.proofs.Tests.{split}
use Rattle.rules.proofs.Effects.{Standing, standing-empty, groups-single, pairs-single, standing-apply, view-after}
use Rattle.rules.proofs.Totals.{Within, within_more, within-after, within-history, members-agree, owners-agree, groups-total, pairs-total}

module _ (p : Placing) (laws : Lawful p) where
  -- ---- one step, on a ledger in the placing's form that holds numbers named alone ----

  module _ (l : Ledger) (s : Standing p l) (n : Named) (w : Within (view l) n) where
    -- what is counted and listed is what the history says
    tally-agree : (e : Effect) → tally p l e ≡ tally_in (view l) (named e n) e
    tally-agree e = λ i. record { members = λ g. ms g i; owners = λ g. os g i; groups = ng i; pairs = np i }
      where
        l' : Ledger
        l' = apply p l e

        n' : Named
        n' = named e n

        says : view l' ≡ after (view l) e
        says = view-after p laws l s e

        s' : Standing p l'
        s' = standing-apply p laws l s e

        w' : Within (view l') n'
        w' = subst (λ (x : World). Within x n') (sym says) (within-after (view l) e n w)

        ms : (g : ℕ) → members l g ≡ members_in (view l) n'.radios g
        ms = members-agree l n' (within_more (view l) e n w)

        os : (g : ℕ) → length (owners l' g) ≡ length (owners_in (after (view l) e) n'.owners g)
        os g = ap length (owners-agree l' n' w' g) ∙ ap (λ (x : World). length (owners_in x n'.owners g)) says

        ng : length l'.groups ≡ group_total (after (view l) e) n'.groups
        ng = groups-total l' n' w' (groups-single p laws l' s') ∙ ap (λ (x : World). group_total x n'.groups) says

        np : length l'.pairs ≡ pair_total (after (view l) e) n'.groups n'.radios
        np = pairs-total l' n' w' (pairs-single p laws l' s') ∙ ap (λ (x : World). pair_total x n'.groups n'.radios) says

    -- a step's refusal is what the history says
    judge-agree : (o : Step) → refused p l o ≡ judge (view l) (named (effect (view l) o) n) o
    judge-agree o = ap (λ (t : Tally). refusal (view l) t o) (tally-agree (effect (view l) o))

    -- what the step makes of it is what the history says
    taken-agree : (o : Step) → view (step p l o) ≡ taken (view l) (named (effect (view l) o) n) o
    taken-agree o = split (accepted (refused p l o))
        (λ e. rw (← judge-agree o, e) (view-after p laws l s (effect (view l) o)))
        (λ e. rw (← judge-agree o, e))

    standing-step : (o : Step) → Standing p (step p l o)
    standing-step o = split (accepted (refused p l o))
        (λ e. rw e (standing-apply p laws l s (effect (view l) o)))
        (λ e. rw e s)

  -- ---- any run ----

  -- a ledger in the placing's form that says what stands
  record Agrees (l : Ledger) (q : Past) : Type 0 where
    says : view l ≡ q.world
    standing : Standing p l

  step-agrees : (l : Ledger) (q : Past) (o : Step) → Within q.world q.named → Agrees l q → Agrees (step p l o) (onward q o)
  step-agrees l q o w a =
      subst (λ (x : World). Within x q.named → Agrees (step p l o) (onward (record { world = x; named = q.named }) o)) a.says
      (λ w. record { says = taken-agree l a.standing q.named w o; standing = standing-step l a.standing q.named w o }) w

  run-agrees : (h : History) → Agrees (run p h) (past h)
  run-agrees start = record { says = refl; standing = standing-empty p laws }
  run-agrees (h then s) = step-agrees (run p h) (past h) s (within-history h) (run-agrees h)

  -- after any history the ledger says what the history means
  pub run_agree : (h : History) → view (run p h) ≡ world h
  run_agree h = (run-agrees h).says

  run-standing : (h : History) → Standing p (run p h)
  run-standing h = (run-agrees h).standing

  run-within : (h : History) → Within (view (run p h)) (named_in h)
  run-within h = subst (λ (w : World). Within w (named_in h)) (sym (run_agree h)) (within-history h)

  -- there are as many groups and pairs as the history says
  pub groups-agree : (h : History) → length (run p h).groups ≡ group_total (world h) (named_in h).groups
  groups-agree h =
      groups-total (run p h) (named_in h) (run-within h) (groups-single p laws (run p h) (run-standing h))
      ∙ ap (λ (w : World). group_total w (named_in h).groups) (run_agree h)

  pub pairs-agree : (h : History) → length (run p h).pairs ≡ pair_total (world h) (named_in h).groups (named_in h).radios
  pairs-agree h =
      pairs-total (run p h) (named_in h) (run-within h) (pairs-single p laws (run p h) (run-standing h))
      ∙ ap (λ (w : World). pair_total w (named_in h).groups (named_in h).radios) (run_agree h)

  -- every step's refusal is the history's
  pub refusal-agree : (h : History) (s : Step) → refused p (run p h) s ≡ refusal_in h s
  refusal-agree h s =
      judge-agree (run p h) (run-standing h) (named_in h) (run-within h) s
      ∙ ap (λ (w : World). judge w (named (effect w s) (named_in h)) s) (run_agree h)

  -- what goes out is the history's
  pub sent-agree : (h : History) (s : Step) → sent p (run p h) s ≡ sent_in h s
  sent-agree h s =
      let counted = tally-agree (run p h) (run-standing h) (named_in h) (run-within h) (effect (view (run p h)) s) in
      (λ i. cond (accepted (refusal-agree h s i)) (outgoing (view (run p h)) (counted i) s) [])
      ∙ ap (λ (w : World). cond (accepted (refusal_in h s)) (outgoing w (tally_in w (named (effect w s) (named_in h)) (effect w s)) s) []) (run_agree h)

  -- the reply to a list is the history's
  pub list-agree : (h : History) (asker g : Number) (room : ℕ) → list (run p h) asker g room ≡ list_in h asker g room
  list-agree h asker g room =
      ap (λ (radios : List ℕ). listing (view (run p h)) asker g radios room) (members-agree (run p h) (named_in h) (run-within h) (key g))
      ∙ ap (λ (w : World). listing w asker g (members_in w (named_in h).radios (key g)) room) (run_agree h)

  -- and so is the reply to a show
  pub show-agree : (h : History) (asker g : Number) → show (run p h) asker g ≡ show_in h asker g
  show-agree h asker g =
      ap (λ (owners : List ℕ). showing (view (run p h)) asker g owners) (owners-agree (run p h) (named_in h) (run-within h) (key g))
      ∙ ap (λ (w : World). showing w asker g (owners_in w (named_in h).owners (key g))) (run_agree h)
