-- A place means nothing: the history alone says what a list holds. A group deleted and made again starts empty.
use mathlib.Core.Path.{◌≡◌, refl, sym, ap, ◌∙◌}
use mathlib.Core.Bool.{true, false}
use mathlib.Core.List.{List, [], map}
use mathlib.Core.Option.{Option, none, some}
use Prim.Native.Nat.{ℕ}
use native.Mathlib.Omega.{arith}
use lib.ListN.{length}
use Rattle.std.specs.Prelude.{Result, Ok}
use Rattle.refusal.specs.declared.Refusal.{Refusal}
use Rattle.layout.specs.declared.Record.{Record}
use Rattle.rules.specs.Lists.{mem}
use Rattle.rules.specs.Number.{Number, key, wide_number}
use Rattle.rules.specs.Named.{numbers}
use Rattle.rules.specs.Order.{define, define_groups}
use Rattle.rules.specs.Recorded.{define_of}
use Rattle.rules.specs.Ledger.{list}
use Rattle.rules.specs.History.{History, ◌then◌, refusal_in, sent_in, list_in}
use Rattle.rules.specs.Run.{run}
use Rattle.rules.proofs.ByNumber.{by_number_lem}
use Rattle.rules.proofs.Agree.{list-agree}
use Rattle.rules.proofs.Anew as rules
use Rattle.order.specs.Numbers.{radio_number, asked_number}
use Rattle.order.specs.Walks.{onto}
use Rattle.store.specs.Storage.{Rows, Contents, placing}
use Rattle.order.specs.Lists.{numbers_of}
use Rattle.replies.specs.Listing.{entry_row, members_of}
use Rattle.order.specs.declared.GroupAsked.{GroupAsked}
use Rattle.order.specs.declared.Itsi.{Itsi}
use Rattle.replies.specs.declared.Shown.{Shown}
use Rattle.replies.specs.Orders.{answered}
use Rattle.demand.specs.Arguments.{Deletion, deletion_order, deletion_step}
use Rattle.demand.specs.Calls.{Defines, Deletes, Lists, Shows}
use Rattle.demand.specs.Runs.{Kept, defined, deleted}
use Rattle.demand.proofs.Demand.{demand}

-- two runs with one history, whatever lay in the lent places before them and wherever their rows lie
module _ {c c' : Contents} {h : History} (k : Kept c h) (k' : Kept c' h) {asker : Itsi} {asked : GroupAsked} where
  pub same_lists : {room listed listed' : Rows} {reply reply' : Result ℕ Refusal} → Lists asker asked room listed c reply → Lists asker asked room listed' c' reply'
      → (reply ≡ reply') × (listed ≡ listed')
  same_lists e e' =
      let a = (demand k).lists e in
      let b = (demand k').lists e' in
      (a.0 ∙ sym b.0, a.1 ∙ sym b.1)

  pub same-shows : {reply reply' : Result Shown Refusal} → Shows asker asked c reply → Shows asker asked c' reply' → reply ≡ reply'
  same-shows e e' = (demand k).shows e ∙ sym ((demand k').shows e')

-- ---- a group deleted and made again ----

defined-by : (asker : Number) (places : List ℕ) → (define_of asker places).asker ≡ asker
unfolding define_of
defined-by asker places = refl

pub sent-none : (o : Option Refusal) (n k : ℕ) → Ok n ≡ answered o k → o ≡ none
sent-none none n k e = refl
sent-none (some r) n k e = let z : ◌≡◌ {A = ℕ} 0 1 = cc in absurd (omega arith)

-- an accepted delete takes the group away, an accepted define without radios makes it again: the list of the define's asker
-- is empty, and leaves its room as it was, whatever radios the group had
pub again-empty : {c₀ c₁ c₂ : Contents} {h : History} → Kept c₀ h
    → {d : Deletion} {space sent : Rows} {n : ℕ} → Deletes d space sent c₀ c₁ (Ok n) → d.remove ≡ true
    → {maker : Itsi} {values : Record} {space' sent' : Rows} {n' : ℕ} → Defines maker values space' sent' c₁ c₂ (Ok n')
    → {asked : GroupAsked} {room listed : Rows} {reply : Result ℕ Refusal} → Lists maker asked room listed c₂ reply
    → let g = asked_number maker asked in
    let o = define_of (radio_number maker) values.place in
    wide_number g ≡ false → mem (key g) (numbers d.asker.1 (numbers_of d.named)) ≡ true → mem (key g) (define_groups o) ≡ true → o.radios ≡ none
    → (reply ≡ Ok 0) × (listed ≡ room)
again-empty {h = h} k {d} {space} {n = n} a removes {maker} {values} {space'} {n' = n'} b {asked} {room} e narrow gone made empty =
    let o = define_of (radio_number maker) values.place in
    let g = asked_number maker asked in
    let s = deletion_step d (length space) in
    let s' = define o (length space') in
    let k₁ = deleted k a in
    let taken = sent-none (refusal_in h s) n (length (sent_in h s)) ((demand k).deletes a).0 in
    let taken' = sent-none (refusal_in (h then s) s') n' (length (sent_in (h then s) s')) ((demand k₁).defines b).0 in
    let l : list_in (h then s then s') (radio_number maker) g (length room) ≡ record { refused = none; entries = [] } =
    sym (list-agree placing by_number_lem (h then s then s') (radio_number maker) g (length room))
    ∙ ap (λ (x : Number). list (run placing (h then s then s')) x g (length room)) (sym (defined-by (radio_number maker) values.place))
    ∙ rules.again-empty placing by_number_lem h (deletion_order d) o g (length space) (length space') (length room) narrow taken removes gone taken' made empty in
    let f = (demand (defined k₁ b)).lists e in
    (f.0 ∙ ap members_of l, f.1 ∙ (λ i. onto (map entry_row (l i).entries) room))
