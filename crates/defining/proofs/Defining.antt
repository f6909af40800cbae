-- Laws of a define: its tests are the law's, and its walks leave and send what the law says.
use mathlib.Core.Path.{◌≡◌, refl, sym, ap, ◌∙◌, fun_ext}
use mathlib.Core.Bool.{Bool, true, false, cond, ◌||◌}
use mathlib.Core.List.{List, [], ◌∷◌, ◌++◌}
use mathlib.Core.Option.{Option, none, some}
use Prim.Native.Nat.{ℕ, ◌≤◌}
use lib.Dec.{eqb, ltb}
use lib.ListN.{length}
use borrow.Author.Tests.{ltb-false}
use Rattle.refusal.specs.declared.Refusal.{Refusal}
use Rattle.refusal.specs.declared.Refusal.TheVariants.{BadOrder, FormNotTaken, BadRange, TooManyNumbers, NotOwner, TooManyOwners}
use Rattle.refusal.specs.declared.Refusal.TheVariants.{Full, NoRoom}
use Rattle.layout.specs.Frame.{places}
use Rattle.rules.specs.Lists.{any, mem, rising}
use Rattle.rules.specs.Entries.{find}
use Rattle.rules.specs.Number.{key, wide_number, bad_list}
use Rattle.rules.specs.Named.{numbers_in, too_many, max_numbers, max_listed_owners}
use Rattle.rules.specs.Mark.{begun}
use Rattle.rules.specs.Owners.{added, max_owners}
use Rattle.rules.specs.Parameters.{replaced, bad_name, bad_parameters}
use Rattle.rules.specs.Placing.{puts}
use Rattle.rules.specs.ByNumber.{by_key}
use Rattle.rules.specs.Order.{Define, define, define_groups, define_radios, define_owners}
use Rattle.rules.specs.Effect.{Effect, effect}
use Rattle.rules.specs.Outgoing.{assign}
use Rattle.rules.specs.Recorded.{optional, optional_name, parameters_in, acknowledgement_requested, define_of}
use Rattle.rules.specs.Refusals.{first, tests, refuses, max_groups, max_pairs}
use Rattle.rules.specs.Ledger.{Group, Ledger, owners_of, parameters_of, group, view, owners}
use Rattle.rules.specs.Steps.{group_made, tally, apply, refused}
use Rattle.rules.proofs.Tests.{or_l, or_r}
use Rattle.rules.proofs.ListLaws.{Once, rising-once, rising-same, rising-rising, once-rising, any-agree}
use Rattle.rules.proofs.JoinLaws.{rising-late, length-joined}
use Rattle.rules.proofs.Rises.{rises-rising}
use Rattle.rules.proofs.Walks.{length-orders}
use Rattle.rules.proofs.Ranges.{in-range}
use Rattle.rules.proofs.ByNumber.{by_number_lem}
use Rattle.rules.proofs.Effects.{group-after}
use Rattle.rules.proofs.Written.{GoodOwners, good-owners}
use Rattle.rules.proofs.Sound.{bad-order}
use Rattle.rules.proofs.Steps.{numbers-once, step-lists, groups-total, pairs-total}
use Rattle.rules.proofs.LawOrder.{tests-pass}
use Rattle.order.specs.Keys.{fitting}
use Rattle.order.specs.Row.{order_row_of}
use Rattle.order.specs.Steps.{define_step}
use Rattle.order.specs.Numbers.{radio_number}
use Rattle.order.proofs.RangeLaws.{passed-whole}
use Rattle.order.specs.declared.Itsi.{Itsi}
use Rattle.order.specs.declared.RadioKey.{RadioKey}
use Rattle.store.specs.Storage.{Contents, placing, group_of, ledger_of}
use Rattle.store.specs.Form.{Sound}
use Rattle.store.specs.Named.{group_fault}
use Rattle.store.specs.declared.Standing.TheVariants.{Taken}
use Rattle.replies.specs.Orders.{reply_of, verdict}
use Rattle.std.specs.Prelude.{Ok, Err}
use Rattle.replies.proofs.Orders.{reply-none, form-refuses, stand-tells}
use Rattle.making.specs.Owners.{owner_total}
use Rattle.making.proofs.Standing.{formed}
use Rattle.making.proofs.OrderRows.{order-group}
use Rattle.defining.specs.Parts.{any_untaken, any_crossed, any_many, owners_named}
use Rattle.defining.specs.Carried.{carried}
use Rattle.defining.specs.Pairs.{set_pairs}
use Rattle.defining.specs.Sent.{assign_orders}
use Rattle.defining.specs.Tests.{define_form, define_stand}

-- ---- a define that names no more than may be is handed on whole ----

pub record Whole (o : Define) : Type 0 where
  pub groups : fitting max_numbers (define_groups o) ≡ define_groups o
  pub radios : fitting max_numbers (define_radios o) ≡ define_radios o
  pub owners : rising (owners_named o) ≡ rising (define_owners o)

few-whole : (o : Define) → any_many o.asker.extension o.groups o.owners o.radios ≡ false → Whole o
few-whole o e =
    let home = o.asker.extension in
    let many_groups = too_many max_numbers home o.groups in
    let many_owners = too_many max_listed_owners home o.owners in
    let many_radios = too_many max_numbers home o.radios in
    let others = or_r many_groups (many_owners || many_radios) e in
    let owners = passed-whole max_listed_owners home o.owners (or_l many_owners many_radios others) in
    record {
      groups = passed-whole max_numbers home o.groups (or_l many_groups (many_owners || many_radios) e);
      radios = passed-whole max_numbers home o.radios (or_r many_owners many_radios others);
      owners = ap (λ (l : List ℕ). rising (key o.asker ∷ l)) owners ∙ sym (rising-once (key o.asker ∷ numbers_in home o.owners));
    }

-- ---- its tests are those of form, then those of what stands ----

module _ (c : Contents) (w : Sound c) (asker : Itsi) (k : RadioKey) (same : k.0 ≡ key (radio_number asker)) (values : List ℕ) (room : ℕ)
    (whole : length values ≡ places) where
  abbrev o : Define
  o = define_of (radio_number asker) values

  abbrev form : List (Refusal × Bool)
  form = define_form o

  abbrev stand : List (Refusal × Bool)
  stand = define_stand (ledger_of c).groups (ledger_of c).pairs k (define_groups o) (rising (define_owners o)) (define_radios o) room

  -- how many owners a named group has then
  owners-counted : (g : ℕ) → mem g (define_groups o) ≡ true
      → length (owners (apply placing (ledger_of c) (effect (view (ledger_of c)) (define o room))) g)
      ≡ owner_total (group (ledger_of c) g) (rising (define_owners o))
  owners-counted g m =
      let l = ledger_of c in
      let f = formed c w in
      let old = owners_of (group l g) in
      let come = define_owners o in
      let e = effect (view l) (define o room) in
      let made = group-after placing by_number_lem l f.standing e g ∙ ap (λ (b : Bool). cond b (some (group_made placing l e g)) (group l g)) m in
      ap (λ (x : Option Group). length (rising (owners_of x))) made
      ∙ ap length (rising-same (rising (old ++ come)) (rising-rising (old ++ come)) ∙ sym (rising-late old come))
      ∙ length-joined old (rising come) (once-owners (group l g) (good-owners placing l f g)) (once-rising (rising come) (rising-rising come))
    where
      once-owners : (x : Option Group) → ((y : Group) → x ≡ some y → GoodOwners placing y.owners) → Once (owners_of x)
      once-owners none h = tt
      once-owners (some x) h = once-rising x.owners (rises-rising x.owners (h x refl).form)

  owners-tested : any (λ g. ltb max_owners ((tally placing (ledger_of c) (effect (view (ledger_of c)) (define o room))).owners g)) (define_groups o)
      ≡ any (λ g. ltb max_owners (owner_total (group (ledger_of c) g) (rising (define_owners o)))) (define_groups o)
  owners-tested = any-agree _ _ (define_groups o) (λ g m. ap (ltb max_owners) (owners-counted g m))

  define-tests : tests (view (ledger_of c)) (tally placing (ledger_of c) (effect (view (ledger_of c)) (define o room))) (define o room) ≡ form ++ stand
  unfolding define_of
  define-tests =
      let l = ledger_of c in
      let gs = define_groups o in
      let rs = define_radios o in
      let once = numbers-once o.asker.extension o.groups in
      let st = (formed c w).standing in
      let n = groups-total placing by_number_lem l st gs (added (define_owners o)) o.parameters rs (begun o.acknowledgement) once in
      let m = pairs-total placing by_number_lem l st gs (added (define_owners o)) o.parameters rs (begun o.acknowledgement) once
      (numbers-once o.asker.extension o.radios) in
      λ i.
      (BadOrder, bad-order (radio_number asker) values whole i)
      ∷ (FormNotTaken, o.call || any_untaken o.groups o.owners o.radios)
      ∷ (BadRange, any_crossed o.asker.extension o.groups o.owners o.radios)
      ∷ (TooManyNumbers, any_many o.asker.extension o.groups o.owners o.radios)
      ∷ (NotOwner, any (λ g. group_fault Taken (find eqb l.groups g) (sym same i)) (define_groups o))
      ∷ (TooManyOwners, owners-tested i)
      ∷ (Full, ltb max_groups (n i) || ltb max_pairs (m i))
      ∷ (NoRoom, ltb room (length-orders assign (define_groups o) (define_radios o) i))
      ∷ []

  pub form-refused : (r : Refusal) → Err r ≡ reply_of (first form) → Err r ≡ reply_of (verdict c (define_step asker values room))
  form-refused r e = form-refuses c w (define_step asker values room) form stand define-tests r e

  pub stand-replies : Ok tt ≡ reply_of (first form) → reply_of (first stand) ≡ reply_of (verdict c (define_step asker values room))
  stand-replies e = stand-tells c w (define_step asker values room) form stand define-tests e

  pub form-whole : Ok tt ≡ reply_of (first form) → Whole o
  form-whole e = few-whole o (tests-pass form (reply-none (first form) e) 3)

-- ---- the row that is read says the parameters that the order gives, and the state is the law's ----

module _ (asker : Itsi) (values : List ℕ) (l : Ledger) (room : ℕ) where
  pub parameters-said : bad_name (optional_name values) ≡ false
      → (group_of (order_row_of values)).1.parameters ≡ (effect (view l) (define_step asker values room)).parameters
  unfolding define_of
  parameters-said good = ap (λ (x : ℕ × Group). x.1.parameters) (order-group values good)

  pub state-said : (begun (optional values acknowledgement_requested)).state ≡ (effect (view l) (define_step asker values room)).begins.state
  unfolding define_of
  state-said = refl

-- ---- what is left ----

module _ (c : Contents) (w : Sound c) (o : Define) (room : ℕ) where
  abbrev pub does : Effect
  does = effect (view (ledger_of c)) (define o room)

  -- what is carried out is what the law leaves: it makes no difference that those who come rise
  pub carried-law : carried (rising (define_owners o)) o.parameters (define_groups o) (define_radios o) does.begins.state c
      ≡ apply placing (ledger_of c) does
  carried-law =
      ap (λ (f : ℕ → Group). record {
        groups = puts (by_key ltb) (ledger_of c).groups (define_groups o) f;
        pairs = set_pairs does.begins.state (define_radios o) (define_groups o) (ledger_of c).pairs;
      }) (fun_ext (λ g. ap (λ (os : List ℕ). record { owners = os; parameters = replaced o.parameters (parameters_of (group (ledger_of c) g)) })
      (rising-late (owners_of (group (ledger_of c) g)) (define_owners o))))
      ∙ sym (step-lists placing by_number_lem (ledger_of c) (formed c w).standing (define_groups o) (added (define_owners o)) o.parameters (define_radios o)
      (begun o.acknowledgement))

-- a define that is taken has lists that are handed on whole, room for what it makes and sends, and a name that fits
pub record Passed (values : List ℕ) (left : Ledger) (o : Define) (room : ℕ) : Type 0 where
  pub whole : Whole o
  pub few-owners : any (λ g. ltb max_owners (length (owners left g))) (define_groups o) ≡ false
  pub few-groups : length left.groups ≤ max_groups
  pub few-pairs : length left.pairs ≤ max_pairs
  pub sends : length (assign_orders (define_radios o) (define_groups o)) ≤ room
  pub name : bad_name (optional_name values) ≡ false

pub define-passed : (l : Ledger) (asker : Itsi) (values : List ℕ) (room : ℕ) → refused placing l (define_step asker values room) ≡ none
    → let o = define_of (radio_number asker) values in
    Passed values (apply placing l (effect (view l) (define_step asker values room))) o room
unfolding define_of parameters_in
define-passed l asker values room e =
    let o = define_of (radio_number asker) values in
    let s = define_step asker values room in
    let t = tests (view l) (tally placing l (effect (view l) s)) s in
    let a = apply placing l (effect (view l) s) in
    let many_groups = ltb max_groups (length a.groups) in
    let many_pairs = ltb max_pairs (length a.pairs) in
    let full = tests-pass t e 6 in
    let lists = bad_list o.groups || (bad_list o.owners || (bad_list o.radios || bad_parameters o.parameters)) in
    let b₁ = or_r (refuses o.judged) lists (or_r (wide_number (radio_number asker)) (refuses o.judged || lists) (tests-pass t e 0)) in
    let b₂ = or_r (bad_list o.groups) (bad_list o.owners || (bad_list o.radios || bad_parameters o.parameters)) b₁ in
    let b₃ = or_r (bad_list o.owners) (bad_list o.radios || bad_parameters o.parameters) b₂ in
    record {
      whole = few-whole o (tests-pass t e 3);
      few-owners = tests-pass t e 5;
      few-groups = ltb-false max_groups (length a.groups) (or_l many_groups many_pairs full);
      few-pairs = ltb-false max_pairs (length a.pairs) (or_r many_groups many_pairs full);
      sends = ltb-false room (length (assign_orders (define_radios o) (define_groups o))) (tests-pass t e 7);
      name = (in-range (parameters_in values) (or_r (bad_list o.radios) (bad_parameters o.parameters) b₃)).name;
    }
