-- Laws of a group's list on lent contents: its stretch, copied.
use mathlib.Core.Path.{◌≡◌, refl, sym, ap, ◌∙◌}
use mathlib.Core.List.{List, [], ◌∷◌, map, map-map}
use mathlib.Core.Bool.{Bool, true, false, cond}
use mathlib.Core.Option.{none, some}
use Prim.Native.Nat.{ℕ, ◌+◌, ◌-◌, ◌≤◌, ◌<◌}
use native.Mathlib.Omega.{arith}
use lib.Dec.{ltb}
use lib.ListN.{length, take, drop, length-map, get_or, length-take, get_or-map}
use lib.Seq.{get_or-take, get_or-drop}
use Rattle.std.proofs.lemmas.List.{drop-take}
use borrow.Author.Tests.{lt-ltb, le-ltb}
use Rattle.std.specs.Prelude.{Result, Ok, Err, ⊤}
use Rattle.refusal.specs.declared.Refusal.{Refusal}
use Rattle.refusal.specs.declared.Refusal.TheVariants.{NotWritten, NoRoom}
use Rattle.rules.specs.Number.{key}
use Rattle.rules.specs.Refusals.{ask_tests, show_refusal, list_refusal}
use Rattle.rules.specs.Replies.{Entry, entries}
use Rattle.rules.specs.Mark.{Mark}
use Rattle.rules.specs.Ledger.{Pair, view, members, list}
use Rattle.rules.specs.Listing.{gathered}
use Rattle.rules.proofs.Listing.{listed-members}
use Rattle.rules.proofs.LawOrder.{first-none}
use Rattle.order.specs.Numbers.{radio_number, group_number}
use Rattle.order.specs.declared.Gtsi.{Gtsi}
use Rattle.order.specs.declared.Itsi.{Itsi}
use Rattle.order.specs.Walks.{left, onto}
use Rattle.store.specs.Storage.{Rows, Contents, pair_of, pair_count, ledger_of}
use Rattle.store.specs.Places.{stretch_of}
use Rattle.store.specs.Form.{is_written, Sound}
use Rattle.store.specs.declared.Stretch.{Stretch}
use Rattle.store.proofs.FormLaws.{pairs-rise, radios-narrow}
use Rattle.store.proofs.Stretches.{Stretched, stretched}
use Rattle.replies.specs.Orders.{JudgesAsker}
use Rattle.replies.specs.Listing.{entry_row, members_of, Enumerates}
use Rattle.replies.proofs.Orders.{first_some, reply-some}
use Rattle.asking.specs.Listed.{listed, OfGroup}
use Rattle.asking.proofs.Asking.{asked-none}
use Rattle.order.proofs.Walks.{map-left}

module _ (c : Contents) (asker : Itsi) (group : Gtsi) (room : Rows) where
  abbrev last : List (Refusal × Bool)
  last = (NoRoom, ltb (length room) (length (members (ledger_of c) (key (group_number group))))) ∷ []

  pub list-refused : {reply : Result ⊤ Refusal} → JudgesAsker c asker group reply → (r : Refusal) → reply ≡ Err r
      → Enumerates c asker group room room (Err r)
  list-refused j r d = let t = go (is_written c) (reply-some _ r (sym d ∙ j.judges)) in record { replies = t.0; lists = rw t.1 }
    where
      go : (b : Bool) → cond b (show_refusal (view (ledger_of c)) (radio_number asker) (group_number group)) (some NotWritten) ≡ some r
          → let l = cond b (list (ledger_of c) (radio_number asker) (group_number group) (length room)) (record { refused = some NotWritten; entries = [] }) in
          (Err r ≡ members_of l) × (l.entries ≡ [])
      go true q = rw (first_some (ask_tests (view (ledger_of c)) (radio_number asker) (group_number group)) last r q) (refl, refl)
      go false q = let z : NotWritten ≡ r = cc in (ap Err (sym z), refl)

  -- the rows of a stretch, and each as a row of the room
  abbrev pub stretch_rows : Rows → Stretch → Rows
  stretch_rows rows s = take (s.to - s.from) (drop s.from rows)

  abbrev pub shown : Rows → Stretch → Rows
  shown rows s = map (λ (row : List ℕ). entry_row (listed (pair_of row))) (stretch_rows rows s)

  -- a stretch holds the list: what the room then holds where it fits, and where not; as many of its rows are told as there are
  pub record Holds (g : ℕ) (rows : Rows) (s : Stretch) : Type 0 where
    pub mine : (n : ℕ) → n ≡ s.to - s.from → OfGroup g (take n (drop s.from rows))
    pub ordered : s.from ≤ s.to
    pub inside : s.to ≤ length rows
    pub full : (n : ℕ) → n ≡ s.to - s.from → length room < length (take n (drop s.from rows)) → Enumerates c asker group room room (Err NoRoom)
    pub fits : (n : ℕ) → n ≡ s.to - s.from → length (take n (drop s.from rows)) ≤ length room
        → (room' : Rows) → room' ≡ onto (map (λ (row : List ℕ). entry_row (listed (pair_of row))) (take n (drop s.from rows))) room
        → Enumerates c asker group room room' (Ok (length (take n (drop s.from rows))))

  -- the asker may see the list, and the stretch is the group's among the rows in use
  module _ {reply : Result ⊤ Refusal} (j : JudgesAsker c asker group reply) (done : reply ≡ Ok tt) (rows : Rows) (r : rows ≡ take (pair_count c) c.pairs)
      (g : ℕ) (d : g ≡ key (group_number group)) (s : Stretch) (e : s ≡ stretch_of (map pair_of rows) g) where
    abbrev w : Sound c
    w = j.sound done

    stretch : Stretched (ledger_of c).pairs g s
    stretch = rw (e, r) (stretched (ledger_of c).pairs g (pairs-rise c w) (radios-narrow c w))

    within : s.to ≤ length rows
    within = rw r (omega (arith, stretch.inside, length-map (take (pair_count c) c.pairs) pair_of))

    abbrev listing : List Entry
    listing = entries (view (ledger_of c)) (members (ledger_of c) (key (group_number group))) (key (group_number group))

    -- the stretch among the rows is that among the pairs
    pairs-there : map pair_of (stretch_rows rows s) ≡ left s.from s.to (ledger_of c).pairs
    pairs-there =
        let m : s.from + (s.to - s.from) ≡ s.to = omega (arith, stretch.ordered) in
        ap (map pair_of) (sym (drop-take s.from (s.to - s.from) rows) ∙ ap (λ (k : ℕ). left s.from k rows) m) ∙ sym (map-left pair_of s.from s.to rows)
        ∙ ap (λ (z : Rows). left s.from s.to (map pair_of z)) r

    laid : shown rows s ≡ map entry_row listing
    laid =
        let k = stretch_rows rows s in
        let law : gathered g (ledger_of c).pairs ≡ listing = rw d (listed-members (ledger_of c) (key (group_number group)) (pairs-rise c w)) in
        sym (map-map _ pair_of k) ∙ sym (map-map entry_row listed (map pair_of k))
        ∙ ap (λ (z : List (Pair × Mark)). map entry_row (map listed z)) pairs-there ∙ ap (map entry_row) (sym stretch.listed ∙ law)

    counted : length (stretch_rows rows s) ≡ length listing
    counted = sym (length-map (stretch_rows rows s) _) ∙ ap length laid ∙ length-map listing entry_row

    refusal : list_refusal (view (ledger_of c)) (radio_number asker) (group_number group) (members (ledger_of c) (key (group_number group))) (length room)
        ≡ cond (ltb (length room) (length (stretch_rows rows s))) (some NoRoom) none
    refusal =
        first-none (ask_tests (view (ledger_of c)) (radio_number asker) (group_number group)) last (asked-none c asker group j done)
        ∙ ap (λ (z : ℕ). cond (ltb (length room) z) (some NoRoom) none) (sym (counted ∙ length-map (members (ledger_of c) (key (group_number group))) _))

    of-group : OfGroup g (stretch_rows rows s)
    of-group i h =
        let k = stretch_rows rows s in
        let n : s.from + i < s.to = omega (arith, stretch.ordered, length-take (s.to - s.from) (drop s.from rows), h) in
        let at : pair_of (get_or k i []) ≡ get_or (ledger_of c).pairs (s.from + i) (pair_of []) =
        sym (get_or-map pair_of k i []) ∙ ap (λ (z : List (Pair × Mark)). get_or z i (pair_of [])) pairs-there
        ∙ get_or-drop s.from (take s.to (ledger_of c).pairs) i (pair_of []) ∙ get_or-take s.to (ledger_of c).pairs (s.from + i) (pair_of []) n in
        ap (λ (e : Pair × Mark). e.0.0) at ∙ stretch.group (s.from + i) (pair_of []) (omega arith) n

    pub holds : Holds g rows s
    holds = record {
      mine = λ n e. rw e of-group;
      ordered = stretch.ordered;
      inside = within;
      full = λ n e m.
          let h : length room < length (stretch_rows rows s) = rw e at m in
          let t = lt-ltb (length room) (length (stretch_rows rows s)) h in
          record { replies = rw (w.form, refusal, t); lists = rw (w.form, refusal, t) };
      fits = λ n e m room' f.
          let h : length (stretch_rows rows s) ≤ length room = rw e at m in
          let t = le-ltb (length room) (length (stretch_rows rows s)) h in
          record { replies = rw (e, w.form, refusal, t) (ap Ok counted); lists = (rw e at f) ∙ rw (w.form, refusal, t) (ap (λ (z : Rows). onto z room) laid) };
    }
