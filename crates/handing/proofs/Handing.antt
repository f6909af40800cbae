-- Laws of a handover: its tests are the law's, and the row that it sets leaves what the law leaves.
use mathlib.Core.Path.{◌≡◌, refl, sym, ap, ◌∙◌}
use mathlib.Core.Bool.{Bool, false}
use mathlib.Core.List.{List, [], ◌∷◌, ◌++◌, map}
use mathlib.Core.Option.{Option, none, some}
use Prim.Native.Nat.{ℕ, ◌+◌, ◌≤◌}
use native.Mathlib.Omega.{arith}
use borrow.Author.Tests.{ltb-false}
use lib.Dec.{eqb, ltb}
use lib.ListN.{length, get_or, take, drop, set, replicate}
use lib.Seq.{set-get_or}
use Rattle.std.specs.Prelude.{Result, Ok, Err, ⊤}
use Rattle.refusal.specs.declared.Refusal.{Refusal}
use Rattle.rules.specs.Lists.{rising, once}
use Rattle.rules.specs.Entries.{find}
use Rattle.rules.specs.Number.{key, identity_key}
use Rattle.rules.specs.Named.{numbers_in, too_many, max_listed_owners}
use Rattle.rules.specs.Parameters.{no_parameters}
use Rattle.rules.specs.Mark.{Mark, none_wanted, fresh}
use Rattle.rules.specs.Owners as owner
use Rattle.rules.specs.Order.{Step, asker_and}
use Rattle.rules.specs.Effect.{effect}
use Rattle.rules.specs.Refusals.{first, tests}
use Rattle.rules.specs.Ledger.{Group, Ledger, Pair, view}
use Rattle.rules.specs.Placing.{puts}
use Rattle.rules.specs.ByNumber.{by_key}
use Rattle.rules.specs.Steps.{group_after, tally, apply, refused}
use Rattle.rules.specs.Written.{max_owners}
use Rattle.rules.proofs.Tests.{clash}
use Rattle.rules.proofs.ListLaws.{length-once, length-order, rising-once}
use Rattle.rules.proofs.ByNumber.{numbers-linear, by_number_lem}
use Rattle.rules.proofs.PutsByKey.{puts-last}
use Rattle.rules.proofs.Steps.{step-lists}
use Rattle.rules.proofs.LawOrder.{tests-pass}
use Rattle.rows.specs.Layout.{group_words}
use Rattle.order.specs.Numbers.{radio_number}
use Rattle.order.specs.Keys.{fitting, keys_as, keys_held}
use Rattle.order.specs.Lists.{identity_of, numbers_of}
use Rattle.order.specs.Steps.{handover_step}
use Rattle.order.specs.Walks.{onto}
use Rattle.order.specs.declared.Identity.{Identity}
use Rattle.order.specs.declared.Itsi.{Itsi}
use Rattle.order.specs.declared.Numbers.{Numbers}
use Rattle.order.specs.declared.RadioKey.{RadioKey}
use Rattle.order.specs.declared.keys.Keys.{Keys}
use Rattle.order.proofs.KeyLaws.{keys-held}
use Rattle.order.proofs.RangeLaws.{passed-whole}
use Rattle.store.specs.Places.{looked_up, place_of}
use Rattle.store.specs.Named.{owned_as}
use Rattle.store.specs.Storage.{Rows, Contents, contents, group_of, group_row, pair_row, group_count, pair_count, placing, ledger_of, laid}
use Rattle.store.specs.Form.{Sound}
use Rattle.store.proofs.FormLaws.{groups-rise, pairs-rise}
use Rattle.store.proofs.PlaceLaws.{InRows, in_rows}
use Rattle.store.proofs.Parting.{Parted, parted}
use Rattle.store.proofs.OneRow.{row-replaced}
use Rattle.replies.specs.Orders.{reply_of, Judges}
use Rattle.replies.proofs.Orders.{not_done, form-refuses, stand-tells, head-counts, count-pairs, pairs-stay}
use Rattle.replies.proofs.Owned.{owned_tests, owned-replies}
use Rattle.making.specs.Row.{made_row}
use Rattle.making.proofs.Making.{blank-row, made-is}
use Rattle.making.proofs.Standing.{fine-found}
use Rattle.handing.specs.Tests.{form_tests}

-- the group that it names
abbrev pub group_named : Itsi → Identity → ℕ
group_named asker group = identity_key asker.1 (identity_of group)

-- ---- the tests ----

module _ (c : Contents) (w : Sound c) (asker : Itsi) (group : Identity) (owners : Numbers) where
  abbrev pub step : Step
  step = handover_step asker group owners

  abbrev pub forms : List (Refusal × Bool)
  forms = form_tests asker group owners

  abbrev pub stands : List (Refusal × Bool)
  stands = owned_tests c (group_named asker group) (key (radio_number asker))

  -- they are those of form, then 12 and 13
  handover-tests : tests (view (ledger_of c)) (tally placing (ledger_of c) (effect (view (ledger_of c)) step)) step ≡ forms ++ stands
  handover-tests = refl

  pub form-refused : (r : Refusal) → Err r ≡ reply_of (first forms) → Judges c step (Err r)
  form-refused r e = record { judges = form-refuses c w step forms stands handover-tests r e; sound = not_done r }

  -- past them the order is judged by whose the group is
  pub owned-judged : Ok tt ≡ reply_of (first forms) → (rows : Rows) (g a : ℕ) → rows ≡ take (group_count c) c.groups → g ≡ group_named asker group
      → a ≡ key (radio_number asker) → (reply : Result ⊤ Refusal) → reply ≡ owned_as (looked_up ltb eqb (map group_of rows) g) a → Judges c step reply
  owned-judged f rows g a l p q reply e = record {
    judges = rw (p, q) at (rw l at e ∙ owned-replies c w g a) ∙ stand-tells c w step forms stands handover-tests f;
    sound = λ k. w;
  }

-- ---- what is left ----

module _ (c : Contents) (w : Sound c) where
  -- what the place of a group says of the rows
  pub group-in-rows : (p : Result ℕ ℕ) (g : ℕ) → p ≡ place_of ltb eqb (ledger_of c).groups g
      → InRows numbers-linear group_of c.groups (group_count c) (omega (arith, w.groups, w.few_groups)) (groups-rise c w) p g
  group-in-rows = in_rows numbers-linear group_of c.groups (group_count c) (omega (arith, w.groups, w.few_groups)) (groups-rise c w)

  -- a handover of a group that is not there is refused
  pub no-group-refused : {P : Type 0} (asker : Itsi) (group : Identity) (owners : Numbers) (i : ℕ)
      → Err i ≡ place_of ltb eqb (ledger_of c).groups (group_named asker group)
      → refused placing (ledger_of c) (handover_step asker group owners) ≡ none → P
  no-group-refused asker group owners i e t =
      let s = handover_step asker group owners in
      let v = view (ledger_of c) in
      let q = tests-pass (tests v (tally placing (ledger_of c) (effect v s)) s) t 4 in
      let f = (group-in-rows (Err i) (group_named asker group) e).found in
      clash (rw f at q)

  module _ (asker : Itsi) (group : Identity) (owners : Numbers) (taken : refused placing (ledger_of c) (handover_step asker group owners) ≡ none) where
    abbrev named : ℕ
    named = group_named asker group

    -- the numbers that it lists, and the owners that it sets
    abbrev listed : List ℕ
    listed = numbers_in asker.1 (some (numbers_of owners))

    abbrev pub owners_named : List ℕ
    owners_named = asker_and (radio_number asker) (some (numbers_of owners))

    -- 20 was passed
    few-listed : too_many max_listed_owners asker.1 (some (numbers_of owners)) ≡ false
    few-listed =
        let s = handover_step asker group owners in
        let v = view (ledger_of c) in
        tests-pass (tests v (tally placing (ledger_of c) (effect v s)) s) taken 3

    -- so the owners that are made of the order are all of them, and have room in a row
    pub owners-set : (o : Keys RadioKey max_owners)
        → o ≡ keys_as (rising (key (radio_number asker) ∷ fitting max_listed_owners (numbers_in asker.1 (some (numbers_of owners)))))
        → keys_held o ≡ rising owners_named
    owners-set o e =
        let a = key (radio_number asker) in
        ap keys_held e
        ∙ keys-held max_owners (rising (a ∷ fitting max_listed_owners listed))
        ∙ ap (λ (l : List ℕ). rising (a ∷ l)) (passed-whole max_listed_owners asker.1 (some (numbers_of owners)) few-listed)
        ∙ sym (rising-once (a ∷ listed))

    few-named : length (rising owners_named) ≤ max_owners
    few-named =
        let few = ltb-false max_listed_owners (length listed) few-listed in
        omega (arith, length-order (once owners_named), length-once owners_named, length-once (key (radio_number asker) ∷ listed))

    -- a group after it, of the group that was there
    abbrev then : Option Group → Group
    then = group_after placing (owner.set owners_named) no_parameters

    module _ (i : ℕ) (at : Ok i ≡ place_of ltb eqb (ledger_of c).groups (group_named asker group)) where
      abbrev after : ℕ × Group
      after = (named, then (find eqb (ledger_of c).groups named))

      -- the row that is made of the one at its place is the row of the group after it
      row-handed : made_row named (replicate group_words 0) (get_or c.groups i []) (rising owners_named) ≡ group_row after
      row-handed =
          let old = group_of (get_or c.groups i []) in
          let r = group-in-rows (Ok i) named at in
          (λ j. made_row named (blank-row j) (sym (w.group_rows i r.inside) j) (rising owners_named))
          ∙ made-is named old.0 no_parameters old.1 (rising owners_named) refl (fine-found c w named old.1 r.found) few-named
          ∙ ap (λ (x : Option Group). group_row (named, then x)) (sym r.found)

      -- put among the others it comes to its own place
      groups-handed : let l = (ledger_of c).groups in take i l ++ (after ∷ drop (i + 1) l) ≡ puts (by_key ltb) l (named ∷ []) (λ g. then (find eqb l g))
      groups-handed =
          let l = (ledger_of c).groups in
          let then_found : ℕ → Group = λ g. then (find eqb l g) in
          let p : Parted numbers-linear named l (Ok i) = rw at (parted numbers-linear named l (groups-rise c w)) in
          sym (ap (λ (z : List (ℕ × Group)). puts (by_key ltb) z (named ∷ []) then_found) p.parts
          ∙ puts-last numbers-linear then_found [] named (find eqb l named) (take i l) (drop (i + 1) l) tt p.low p.high)

      pub handed-laid : (row : List ℕ) → row ≡ made_row (group_named asker group) (replicate group_words 0) (get_or c.groups i []) (rising owners_named)
          → contents c.head (set c.groups i row) c.pairs
          ≡ laid (apply placing (ledger_of c) (effect (view (ledger_of c)) (handover_step asker group owners))) c
      handed-laid row e =
          let l = ledger_of c in
          let lists = step-lists placing by_number_lem l (record { groups = groups-rise c w; pairs = pairs-rise c w }) (named ∷ []) (owner.set owners_named)
          no_parameters [] (fresh none_wanted) in
          let f = row-replaced group_of group_row c.groups (group_count c) i (group-in-rows (Ok i) named at).inside
          (omega (arith, w.groups, w.few_groups)) w.group_rows after in
          let g = groups-handed ∙ ap (λ (x : Ledger). x.groups) (sym lists) in
          let p = ap (λ (x : Ledger). x.pairs) (sym lists) in
          let hd = sym (set-get_or c.head 1 0) ∙ head-counts c.head (group_count c) (pair_count c) w.head refl
          ∙ (λ j. onto ((f.counts ∙ ap length g) j ∷ (sym (count-pairs c w) ∙ ap length p) j ∷ []) c.head) in
          let gl = ap (set c.groups i) (e ∙ row-handed) ∙ f.rows ∙ ap (λ (z : List (ℕ × Group)). onto (map group_row z) c.groups) g in
          let pl = sym (pairs-stay c w) ∙ ap (λ (z : List (Pair × Mark)). onto (map pair_row z) c.pairs) p in
          λ j. contents (hd j) (gl j) (pl j)
