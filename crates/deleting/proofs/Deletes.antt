-- Laws of a delete: its tests and its orders are the law's, and its walks leave what the law leaves.
use mathlib.Core.Path.{◌≡◌, refl, sym, ap, ◌∙◌}
use mathlib.Core.Bool.{Bool, true, false, cond, not, ◌&&◌, ◌||◌, true≢false}
use mathlib.Core.List.{List, [], ◌∷◌, ◌++◌, map}
use mathlib.Core.Option.{none, some}
use Prim.Native.Nat.{ℕ, ◌≤◌}
use borrow.Author.Tests.{ltb-false}
use lib.ListN.{length, set}
use Rattle.std.specs.Prelude.{Option, Some, None, Result, Ok, Err, ⊤, is_some, option_map}
use Rattle.refusal.specs.declared.Refusal.{Refusal}
use Rattle.rules.specs.Lists.{present, mem, join}
use Rattle.rules.specs.Entries.{alter}
use Rattle.rules.specs.Mark.{Mark, leaving, fresh}
use Rattle.rules.specs.Number.{key}
use Rattle.rules.specs.Named.{numbers, numbers_in, too_many, max_numbers}
use Rattle.rules.specs.Order.{Step}
use Rattle.rules.specs.Effect.{effect}
use Rattle.rules.specs.Outgoing.{deassign, orders, outgoing}
use Rattle.rules.specs.Refusals.{first, tests}
use Rattle.rules.specs.Ledger.{Group, Pair, view}
use Rattle.rules.specs.Steps.{tally, apply, refused}
use Rattle.rules.proofs.Walks.{alter-all}
use Rattle.rules.proofs.Listing.{stretch-members}
use Rattle.rules.proofs.Tests.{or_l, or_r}
use Rattle.rules.proofs.LawOrder.{tests-pass}
use Rattle.order.specs.Numbers.{radio_number}
use Rattle.order.specs.Keys.{fitting}
use Rattle.order.proofs.KeyLaws.{keys-held}
use Rattle.order.proofs.RangeLaws.{passed-whole}
use Rattle.order.specs.Lists.{numbers_of, list_of}
use Rattle.order.specs.Steps.{delete_step}
use Rattle.order.specs.declared.Itsi.{Itsi}
use Rattle.order.specs.declared.Numbers.{Numbers}
use Rattle.order.specs.Walks.{onto}
use Rattle.store.specs.Lists.{Fills}
use Rattle.store.specs.Storage.{Rows, Contents, contents, group_row, pair_row, placing, ledger_of, laid}
use Rattle.store.specs.Form.{Sound}
use Rattle.store.proofs.FormLaws.{pairs-rise}
use Rattle.replies.specs.Orders.{reply_of, verdict}
use Rattle.replies.proofs.Orders.{set_both, form-refuses, stand-tells, alter-same}
use Rattle.turning.specs.Turns.{turned, turn_of}
use Rattle.turning.specs.Turns as turning
use Rattle.turning.specs.declared.Turn.TheVariants.{Remove, Leave}
use Rattle.deleting.specs.Deassigned.{deassign_orders}
use Rattle.deleting.specs.Deletes.{asked, named, listed, form_tests, stand_tests, parting, groups_left, pairs_left}
use Rattle.deleting.specs.declared.asked.Asked.{Asked}

-- the radios that are listed
abbrev pub radios_in : Itsi → Option Numbers → Option (List ℕ)
radios_in asker = option_map (λ r. numbers asker.1 (numbers_of r))

given : (radios : Option Numbers) → present (list_of radios) ≡ is_some radios
given None = refl
given (Some r) = refl

join-same : {A : Type 0} (f g : ℕ → List A) → ((x : ℕ) → f x ≡ g x) → (l : List ℕ) → join f l ≡ join g l
join-same f g h [] = refl
join-same f g h (x ∷ l) = rw (h x, join-same f g h l)

-- ---- the tests and the orders ----

module _ (c : Contents) (w : Sound c) where
  -- all members are the radios of the group's stretch
  pub delete-sends : (asker : Itsi) (groups : Numbers) (remove leave : Bool) (radios : Option Numbers) (acknowledgement : Bool) (room : ℕ) →
      let s = delete_step asker groups remove leave radios acknowledgement room in
      outgoing (view (ledger_of c)) (tally placing (ledger_of c) (effect (view (ledger_of c)) s)) s
      ≡ deassign_orders leave (radios_in asker radios) (ledger_of c).pairs (numbers asker.1 (numbers_of groups))
  delete-sends asker groups remove leave None acknowledgement room =
      join-same _ _ (λ g. ap (λ (z : List ℕ). orders deassign g (cond leave z [])) (sym (stretch-members (ledger_of c) g (pairs-rise c w))))
      (numbers asker.1 (numbers_of groups))
  delete-sends asker groups remove leave (Some r) acknowledgement room = refl

  module _ (asker : Itsi) (groups : Numbers) (remove deassign : Bool) (radios : Option Numbers) (acknowledgement : Bool) (room : ℕ) where
    -- the groups and the radios that it names
    abbrev gs : List ℕ
    gs = numbers asker.1 (numbers_of groups)

    abbrev rs : Option (List ℕ)
    rs = radios_in asker radios

    abbrev pub step : Step
    step = delete_step asker groups remove deassign radios acknowledgement room

    abbrev pub forms : List (Refusal × Bool)
    forms = form_tests asker groups deassign radios

    abbrev pub stands : List (Refusal × Bool)
    stands = stand_tests (ledger_of c).groups (ledger_of c).pairs (key (radio_number asker)) gs remove deassign rs room

    -- its tests are those of form, then those of what stands
    delete-tests : tests (view (ledger_of c)) (tally placing (ledger_of c) (effect (view (ledger_of c)) step)) step ≡ forms ++ stands
    delete-tests = rw (delete-sends asker groups remove deassign radios acknowledgement room, given radios)

    pub form-refused : (r : Refusal) → Err r ≡ reply_of (first forms) → Err r ≡ reply_of (verdict c step)
    form-refused = form-refuses c w step forms stands delete-tests

    pub stand-replies : (r : Result ⊤ Refusal) → Ok tt ≡ reply_of (first forms) → r ≡ reply_of (first stands) → r ≡ reply_of (verdict c step)
    stand-replies r e q = q ∙ stand-tells c w step forms stands delete-tests e

    -- whether a list names too many
    abbrev many_groups : Bool
    many_groups = too_many max_numbers asker.1 (list_of (Some groups))

    abbrev many_radios : Bool
    many_radios = too_many max_numbers asker.1 (list_of radios)

    -- lists that name no more than may be are read whole
    pub record Whole (a : Asked) : Type 0 where
      pub groups-whole : named a ≡ gs
      pub radios-whole : listed a ≡ rs

    whole : (many_groups || many_radios) ≡ false → (a : Asked) → a ≡ asked asker groups remove deassign radios → Whole a
    whole few a e =
        let g = passed-whole max_numbers asker.1 (list_of (Some groups)) (or_l many_groups many_radios few) in
        record {
          groups-whole = ap named e ∙ keys-held max_numbers (fitting max_numbers gs) ∙ g;
          radios-whole = ap listed e ∙ read radios (or_r many_groups many_radios few);
        }
      where
        read : (radios : Option Numbers) → too_many max_numbers asker.1 (list_of radios) ≡ false
            → listed (asked asker groups remove deassign radios) ≡ radios_in asker radios
        read None h = refl
        read (Some r) h =
            ap Some (keys-held max_numbers (fitting max_numbers (numbers asker.1 (numbers_of r))) ∙ passed-whole max_numbers asker.1 (list_of (Some r)) h)

    -- so are those of a delete whose form is taken, and of one that is taken
    pub form-whole : first forms ≡ none → (a : Asked) → a ≡ asked asker groups remove deassign radios → Whole a
    form-whole e = whole (tests-pass forms e 3)

    pub taken-whole : refused placing (ledger_of c) step ≡ none → (a : Asked) → a ≡ asked asker groups remove deassign radios → Whole a
    taken-whole e = whole (tests-pass (tests (view (ledger_of c)) (tally placing (ledger_of c) (effect (view (ledger_of c)) step)) step) e 3)

    -- a delete that is taken has something to do, and room for its orders
    pub delete-passed : refused placing (ledger_of c) step ≡ none
        → ((not remove && not deassign) ≡ false)
        × (length (deassign_orders deassign rs (ledger_of c).pairs gs) ≤ room)
    delete-passed e =
        let l = tests (view (ledger_of c)) (tally placing (ledger_of c) (effect (view (ledger_of c)) step)) step in
        (tests-pass l e 6, rw (← delete-sends asker groups remove deassign radios acknowledgement room) (ltb-false room _ (tests-pass l e 7)))

-- ---- what is left ----

-- the pairs: those of the groups, or of the groups and the radios, are leaving or go
module _ (m : Mark) where
  turns : (leave x : Bool) → turned (cond leave Leave Remove) x m ≡ cond x (cond leave (some (fresh leaving)) none) (some m)
  turns true true = refl
  turns true false = refl
  turns false true = refl
  turns false false = refl

  deleted-turn : (remove deassign : Bool) → (not remove && not deassign) ≡ false → (gs : List ℕ) (rs : Option (List ℕ)) (ack : Bool) (k : Pair)
      → turn_of (parting remove ack) gs (cond remove None rs) k m
      ≡ cond (mem k.0 gs && (remove || (deassign && turning.listed rs k.1))) (cond (not remove && ack) (some (fresh leaving)) none) (some m)
  deleted-turn true _ e groups _ ack k = turns false (mem k.0 groups && true)
  deleted-turn false true e groups radios ack k = turns ack (mem k.0 groups && turning.listed radios k.1)
  deleted-turn false false e _ _ ack k = absurd (true≢false e)

-- the radios that a delete takes from its groups: those listed, or all
leave-listed : (asker : Itsi) (radios : Option Numbers) (r : ℕ)
    → turning.listed (radios_in asker radios) r ≡ cond (present (list_of radios)) (mem r (numbers_in asker.1 (list_of radios))) true
leave-listed asker None r = refl
leave-listed asker (Some l) r = refl

-- the groups: those named go where the delete says so
deleted-groups : (remove : Bool) (named : List ℕ) (l : List (ℕ × Group))
    → groups_left named remove l ≡ alter (λ g x. cond (remove && mem g named) none (some x)) l
deleted-groups true named l = refl
deleted-groups false named l = sym (alter-all l)

module _ (c : Contents) (w : Sound c) (asker : Itsi) (named : Numbers) (remove deassign : Bool) (radios : Option Numbers) (acknowledgement : Bool)
    (room : ℕ) (some-work : (not remove && not deassign) ≡ false) where
  pub deleted-laid : (n m : ℕ) (groups pairs : Rows)
      → let gs = numbers asker.1 (numbers_of named) in
      Fills group_row (groups_left gs remove (ledger_of c).groups) c.groups groups n
      → Fills pair_row (pairs_left gs remove (radios_in asker radios) acknowledgement (ledger_of c).pairs) c.pairs pairs m
      → contents (set (set c.head 0 n) 1 m) groups pairs
      ≡ laid (apply placing (ledger_of c) (effect (view (ledger_of c)) (delete_step asker named remove deassign radios acknowledgement room))) c
  deleted-laid n m groups pairs fg fp =
      let after = apply placing (ledger_of c) (effect (view (ledger_of c)) (delete_step asker named remove deassign radios acknowledgement room)) in
      let gs = numbers asker.1 (numbers_of named) in
      let rs = radios_in asker radios in
      let g : groups_left gs remove (ledger_of c).groups ≡ after.groups = deleted-groups remove gs (ledger_of c).groups in
      let p : pairs_left gs remove rs acknowledgement (ledger_of c).pairs ≡ after.pairs =
      alter-same _ _ (λ k x. deleted-turn x remove deassign some-work gs rs acknowledgement k
      ∙ ap (λ (b : Bool). cond (mem k.0 gs && (remove || (deassign && b))) (cond (not remove && acknowledgement) (some (fresh leaving)) none) (some x))
      (leave-listed asker radios k.1)) (ledger_of c).pairs in
      let hd = set_both c.head n m w.head ∙ (λ i. onto ((fg.counts ∙ ap length g) i ∷ (fp.counts ∙ ap length p) i ∷ []) c.head) in
      let gl = fg.rows ∙ ap (λ (z : List (ℕ × Group)). onto (map group_row z) c.groups) g in
      let pl = fp.rows ∙ ap (λ (z : List (Pair × Mark)). onto (map pair_row z) c.pairs) p in
      λ i. contents (hd i) (gl i) (pl i)
