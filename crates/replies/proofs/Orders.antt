-- Laws of orders on lent contents: what is replied, sent and left where an order is refused or taken.
use mathlib.Core.Path.{◌≡◌, refl, sym, ap, ◌∙◌}
use mathlib.Core.Bool.{Bool, true, false, cond}
use mathlib.Core.List.{List, [], ◌∷◌, ◌++◌, map}
use mathlib.Core.Option.{Option, none, some}
use Prim.Native.Nat.{ℕ, suc, ◌≤◌}
use native.Mathlib.Omega.{arith}
use lib.ListN.{length, get_or, set}
use Rattle.std.specs.Prelude.{Result, Ok, Err}
use Rattle.refusal.specs.declared.Refusal.{Refusal}
use Rattle.refusal.specs.declared.Refusal.TheVariants.{NotWritten}
use Rattle.rules.specs.Entries.{alter}
use Rattle.rules.specs.Order.{Step}
use Rattle.rules.specs.Effect.{effect}
use Rattle.rules.specs.Outgoing.{Outgoing, outgoing}
use Rattle.rules.specs.Refusals.{first, accepted, tests}
use Rattle.rules.specs.Ledger.{view}
use Rattle.rules.specs.Steps.{tally, apply, refused, step, sent}
use Rattle.rules.proofs.LawOrder.{first-none}
use Rattle.order.specs.Walks.{onto}
use Rattle.store.specs.Storage.{Contents, group_of, group_row, pair_of, pair_row, group_count, pair_count, placing, ledger_of, laid}
use Rattle.store.specs.Form.{is_written, Sound}
use Rattle.store.proofs.Rows.{length-items, lay-plain}
use Rattle.replies.specs.Orders.{answered, reply_of, verdict, contents_after}
use Rattle.replies.specs.Sending.{sent_on}

-- ---- the reply, and what is left ----

module _ (c : Contents) (s : Step) where
  pub not_written : is_written c ≡ false → (Err NotWritten ≡ reply_of (verdict c s)) × (c ≡ contents_after c s)
  not_written e = rw e (refl, refl)

  pub refused-stays : (r : Refusal) → Err r ≡ reply_of (verdict c s) → c ≡ contents_after c s
  refused-stays r = go (verdict c s)
    where
      go : (o : Option Refusal) → Err r ≡ reply_of o → c ≡ cond (accepted o) (laid (step placing (ledger_of c) s) c) c
      go none e = let z : ◌≡◌ {A = ℕ} 0 1 = cc in absurd (omega arith)
      go (some x) e = refl

  -- the order is in the form and not refused
  pub taken_step : Ok tt ≡ reply_of (verdict c s) → (is_written c ≡ true) × (refused placing (ledger_of c) s ≡ none)
  taken_step = go (is_written c) refl (refused placing (ledger_of c) s)
    where
      go : (b : Bool) → is_written c ≡ b → (o : Option Refusal) → Ok tt ≡ reply_of (cond b o (some NotWritten)) → (b ≡ true) × (o ≡ none)
      go true q none e = (refl, refl)
      go true q (some r) e = let z : ◌≡◌ {A = ℕ} 0 1 = cc in absurd (omega arith)
      go false q o e = let z : ◌≡◌ {A = ℕ} 0 1 = cc in absurd (omega arith)

  pub taken-after : is_written c ≡ true → refused placing (ledger_of c) s ≡ none → (Ok tt ≡ reply_of (verdict c s))
      × (contents_after c s ≡ laid (apply placing (ledger_of c) (effect (view (ledger_of c)) s)) c)
  taken-after w e = rw (w, e) (refl, refl)

-- ---- the tests, and the reply that tells them ----

-- tests and further tests
pub first_some : (a b : List (Refusal × Bool)) (r : Refusal) → first a ≡ some r → first (a ++ b) ≡ some r
first_some [] b r e = let z : ◌≡◌ {A = ℕ} 0 1 = cc in absurd (omega arith)
first_some (t ∷ a) b r e = go t.1 (first_some a b r) e
  where
    go : (x : Bool) → (first a ≡ some r → first (a ++ b) ≡ some r) → cond x (some t.0) (first a) ≡ some r → cond x (some t.0) (first (a ++ b)) ≡ some r
    go true h e = e
    go false h e = h e

-- a reply tells the refusal
pub reply-none : (o : Option Refusal) → Ok tt ≡ reply_of o → o ≡ none
reply-none none e = refl
reply-none (some r) e = let z : ◌≡◌ {A = ℕ} 0 1 = cc in absurd (omega arith)

pub reply-some : (o : Option Refusal) (r : Refusal) → Err r ≡ reply_of o → o ≡ some r
reply-some none r e = let z : ◌≡◌ {A = ℕ} 0 1 = cc in absurd (omega arith)
reply-some (some x) r e = let q : x ≡ r = cc in ap some q

-- a refusal is no acceptance
pub not_done : {P A : Type 0} {answer : A} (r : Refusal) → ◌≡◌ {A = Result A Refusal} (Err r) (Ok answer) → P
not_done r e = let z : ◌≡◌ {A = ℕ} 0 1 = cc in absurd (omega arith)

-- an order whose tests are those of its form, then others: the form's tell, and where none of them holds the others do
module _ (c : Contents) (w : Sound c) (s : Step) (forms stands : List (Refusal × Bool))
    (t : tests (view (ledger_of c)) (tally placing (ledger_of c) (effect (view (ledger_of c)) s)) s ≡ forms ++ stands) where
  pub form-refuses : (r : Refusal) → Err r ≡ reply_of (first forms) → Err r ≡ reply_of (verdict c s)
  form-refuses r e = rw w.form (ap reply_of (sym (ap first t ∙ first_some forms stands r (reply-some (first forms) r e))))

  pub stand-tells : Ok tt ≡ reply_of (first forms) → reply_of (first stands) ≡ reply_of (verdict c s)
  stand-tells e = rw w.form (ap reply_of (sym (ap first t ∙ first-none forms stands (reply-none (first forms) e))))

-- ---- the contents ----

pub alter-same : {K X : Type 0} (f g : K → X → Option X) → ((k : K) (x : X) → f k x ≡ g k x) → (l : List (K × X)) → alter f l ≡ alter g l
alter-same f g h [] = refl
alter-same f g h (e ∷ l) = rw (h e.0 e.1, alter-same f g h l)

pub alter-length : {K X : Type 0} (f : K → X → X) (l : List (K × X)) → length (alter (λ k x. some (f k x)) l) ≡ length l
alter-length f [] = refl
alter-length f (e ∷ l) = ap suc (alter-length f l)

-- the two counts at the head
pub head-counts : (head : List ℕ) (n m : ℕ) → 2 ≤ length head → n ≡ get_or head 0 0 → set head 1 m ≡ onto (n ∷ m ∷ []) head
head-counts [] n m h e = absurd (omega arith)
head-counts (a ∷ []) n m h e = absurd (omega arith)
head-counts (a ∷ b ∷ l) n m h e = rw e

pub set_both : (head : List ℕ) (n m : ℕ) → 2 ≤ length head → set (set head 0 n) 1 m ≡ onto (n ∷ m ∷ []) head
set_both [] n m h = absurd (omega arith)
set_both (a ∷ []) n m h = absurd (omega arith)
set_both (a ∷ b ∷ l) n m h = refl

module _ (c : Contents) (w : Sound c) where
  pub count-groups : length (ledger_of c).groups ≡ group_count c
  count-groups = length-items group_of group_row c.groups (group_count c) (omega (arith, w.groups, w.few_groups))

  pub count-pairs : length (ledger_of c).pairs ≡ pair_count c
  count-pairs = length-items pair_of pair_row c.pairs (pair_count c) (omega (arith, w.pairs, w.few_pairs))

  pub groups-stay : onto (map group_row (ledger_of c).groups) c.groups ≡ c.groups
  groups-stay = lay-plain group_of group_row c.groups (group_count c) (omega (arith, w.groups, w.few_groups)) w.group_rows

  pub pairs-stay : onto (map pair_row (ledger_of c).pairs) c.pairs ≡ c.pairs
  pairs-stay = lay-plain pair_of pair_row c.pairs (pair_count c) (omega (arith, w.pairs, w.few_pairs)) w.pair_rows

-- ---- an order that sends ----

module _ (c : Contents) (s : Step) where
  pub sent-refused : (r : Refusal) → Err r ≡ reply_of (verdict c s) → (Err r ≡ answered (verdict c s) (length (sent_on c s)))
      × (c ≡ contents_after c s) × (sent_on c s ≡ [])
  sent-refused r = go (verdict c s)
    where
      go : (o : Option Refusal) → Err r ≡ reply_of o → (Err r ≡ answered o (length (cond (accepted o) (sent placing (ledger_of c) s) [])))
          × (c ≡ cond (accepted o) (laid (step placing (ledger_of c) s) c) c) × (cond (accepted o) (sent placing (ledger_of c) s) [] ≡ [])
      go none e = let z : ◌≡◌ {A = ℕ} 0 1 = cc in absurd (omega arith)
      go (some x) e = let q : r ≡ x = cc in (ap Err q, refl, refl)

  pub sent-taken : is_written c ≡ true → refused placing (ledger_of c) s ≡ none → (n : ℕ) (os : List Outgoing)
      → outgoing (view (ledger_of c)) (tally placing (ledger_of c) (effect (view (ledger_of c)) s)) s ≡ os → n ≡ length os
      → (Ok n ≡ answered (verdict c s) (length (sent_on c s))) × (sent_on c s ≡ os)
  sent-taken w e n os q m = rw (w, e) (ap Ok (m ∙ ap length (sym q)), q)
