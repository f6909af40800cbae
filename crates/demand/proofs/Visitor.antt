-- Two radios with one SSI and two extensions, over the calls: what is ordered of the one leaves the other's pair in the lent contents as it was.
use mathlib.Core.Path.{◌≡◌, sym, ap, ◌∙◌}
use Prim.Native.Nat.{ℕ}
use lib.ListN.{length, take}
use Rattle.std.specs.Prelude.{Result}
use Rattle.refusal.specs.declared.Refusal.{Refusal}
use Rattle.rules.specs.Number.{Number, key}
use Rattle.rules.specs.Order.{Step}
use Rattle.rules.specs.World.{World}
use Rattle.rules.specs.Ledger.{view}
use Rattle.rules.specs.History.{History, ◌then◌, mark}
use Rattle.rules.specs.Visitor.{Visitor, About}
use Rattle.rules.specs.Demand.{told}
use Rattle.rules.proofs.ByNumber.{by_number_lem}
use Rattle.rules.proofs.Agree.{run_agree}
use Rattle.rules.proofs.Visitor.{kept-apart}
use Rattle.store.specs.Storage.{Rows, Contents, placing, ledger_of}
use Rattle.demand.specs.Demand.{state_in, ListsExactly}
use Rattle.demand.specs.Runs.{Kept}
use Rattle.demand.proofs.Runs.{run-stands}

-- the contents' pairs are the history's
marked : {c : Contents} {h : History} → Kept c h → (g r : ℕ) → (view (ledger_of c)).mark g r ≡ mark h g r
marked {h = h} k g r = ap (λ (w : World). w.mark g r) (ap view (run-stands k).says ∙ run_agree placing by_number_lem h)

-- c was left by a run, and c' by the same run and one call more, which is about `theirs`
pub visitor-apart : {c c' : Contents} {h : History} {s : Step} → Kept c h → Kept c' (h then s)
    → {ours theirs : Number} → Visitor ours theirs → About theirs s
    → (g : ℕ) → (view (ledger_of c')).mark g (key ours) ≡ (view (ledger_of c)).mark g (key ours)
visitor-apart {h = h} {s = s} k k' {ours} {theirs} v a g =
    marked k' g (key ours) ∙ (kept-apart ours theirs v).leaves h s a g ∙ sym (marked k g (key ours))

-- so an owner who lists his group before that call and after it is told the same of `ours`
pub visitor-listed : {h : History} {s : Step} {g : Number} {room listed room' listed' : Rows} {reply reply' : Result ℕ Refusal}
    → {ours theirs : Number} → Visitor ours theirs → About theirs s
    → (l : ListsExactly h g room listed reply) (l' : ListsExactly (h then s) g room' listed' reply')
    → state_in (take (length l'.entries) listed') ours ≡ state_in (take (length l.entries) listed) ours
visitor-listed {h = h} {s = s} {g = g} {ours = ours} {theirs = theirs} v a l l' =
    l'.says ours v.narrow_ours ∙ ap told ((kept-apart ours theirs v).leaves h s a (key g)) ∙ sym (l.says ours v.narrow_ours)
