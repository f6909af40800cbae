-- Laws of what a question is refused with, by whose the group is.
use mathlib.Core.Path.{◌≡◌, sym, ◌∙◌}
use mathlib.Core.Bool.{false}
use mathlib.Core.Option.{none}
use Prim.Native.Nat.{ℕ}
use lib.Dec.{eqb, ltb}
use lib.ListN.{take}
use mathlib.Core.List.{map}
use Rattle.std.specs.Prelude.{Result, Ok, ⊤}
use Rattle.refusal.specs.declared.Refusal.{Refusal}
use Rattle.rules.specs.Number.{key, wide_number}
use Rattle.rules.specs.Refusals.{show_refusal}
use Rattle.rules.specs.Ledger.{view}
use Rattle.order.specs.Numbers.{radio_number, group_number}
use Rattle.order.specs.declared.Gtsi.{Gtsi}
use Rattle.order.specs.declared.Itsi.{Itsi}
use Rattle.store.specs.Storage.{Rows, Contents, group_of, group_count, ledger_of}
use Rattle.store.specs.Form.{Sound}
use Rattle.store.specs.Places.{looked_up}
use Rattle.store.specs.Named.{owned_as}
use Rattle.replies.specs.Orders.{JudgesAsker}
use Rattle.replies.proofs.Orders.{reply-none}
use Rattle.replies.proofs.Owned.{owned-replies}

-- in its ranges, on contents in their form, a question is judged by whose the group is
pub asked-owned : (c : Contents) (asker : Itsi) (group : Gtsi) → Sound c → wide_number (radio_number asker) ≡ false → wide_number (group_number group) ≡ false
    → (rows : Rows) (g a : ℕ) → rows ≡ take (group_count c) c.groups → g ≡ key (group_number group) → a ≡ key (radio_number asker)
    → (reply : Result ⊤ Refusal) → reply ≡ owned_as (looked_up ltb eqb (map group_of rows) g) a → JudgesAsker c asker group reply
asked-owned c asker group w m n rows g a l p q reply e = record {
  judges = rw (w.form, m, n, ← p, ← q) (rw l at e ∙ owned-replies c w g a);
  sound = λ k. w;
}

-- a question that is not refused passes its tests
pub asked-none : (c : Contents) (asker : Itsi) (group : Gtsi) {reply : Result ⊤ Refusal} → JudgesAsker c asker group reply → reply ≡ Ok tt
    → show_refusal (view (ledger_of c)) (radio_number asker) (group_number group) ≡ none
asked-none c asker group j done =
    reply-none (show_refusal (view (ledger_of c)) (radio_number asker) (group_number group)) (rw (j.sound done).form at (sym done ∙ j.judges))
