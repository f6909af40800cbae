-- What an order and a question say for any contents, by document 01's numbers.
use mathlib.Core.Path.{◌≡◌, refl}
use mathlib.Core.List.{List, [], ◌∷◌}
use mathlib.Core.Option.{Option, none, some}
use Prim.Native.Nat.{ℕ}
use lib.ListN.{length}
use Rattle.std.specs.Prelude.{Result, ⊤}
use Rattle.refusal.specs.declared.Refusal.{Refusal}
use Rattle.refusal.specs.Says.{Says, accepted, refused_with}
use Rattle.rules.specs.Order.{Step}
use Rattle.rules.specs.Replies.{Showing}
use Rattle.order.specs.declared.Gtsi.{Gtsi}
use Rattle.order.specs.declared.Itsi.{Itsi}
use Rattle.store.specs.Storage.{Contents, Rows}
use Rattle.replies.specs.Orders.{answered, verdict, Replies}
use Rattle.replies.specs.Sending.{sent_on, Sends}
use Rattle.replies.specs.Listing.{list_on, Enumerates}
use Rattle.replies.specs.Showing.{shown_of}
use Rattle.replies.specs.Says.{answer_says, reply_says, count_says, show_says}

-- the refusal's number alone, or 0 and these values
abbrev pub told : Option Refusal → List ℕ → Says
told none values = accepted values
told (some r) values = refused_with r

answer-told : {A : Type 0} (values : A → List ℕ) (o : Option Refusal) (answer : A) → answer_says values (answered o answer) ≡ told o (values answer)
answer-told values none answer = refl
answer-told values (some r) answer = refl

module _ {before after : Contents} where
  pub replies-say : {s : Step} {reply : Result ⊤ Refusal} → Replies s before after reply → reply_says reply ≡ told (verdict before s) []
  replies-say {s} p = rw p.replies (answer-told _ (verdict before s) tt)

  pub sends-say : {step : ℕ → Step} {room sent : Rows} {reply : Result ℕ Refusal} → Sends step room sent before after reply
      → count_says reply ≡ told (verdict before (step (length room))) (length (sent_on before (step (length room))) ∷ [])
  sends-say {step} {room} p = rw p.replies (answer-told _ (verdict before (step (length room))) _)

pub lists-say : {on : Contents} {asker : Itsi} {group : Gtsi} {room listed : Rows} {reply : Result ℕ Refusal} → Enumerates on asker group room listed reply
    → let l = list_on on asker group (length room) in count_says reply ≡ told l.refused (length l.entries ∷ [])
lists-say {on} {asker} {group} {room} p = let l = list_on on asker group (length room) in rw p.replies (answer-told _ l.refused (length l.entries))

pub shows-say : (s : Showing) → show_says (shown_of s) ≡ told s.refused []
shows-say s = answer-told _ s.refused _
