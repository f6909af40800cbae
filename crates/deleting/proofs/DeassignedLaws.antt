-- Laws of who leaves by a delete: listed radios kept in lent room, the radios of a group's stretch, and their orders laid group by group.
use mathlib.Core.Path.{◌≡◌, sym, ap, ◌∙◌}
use mathlib.Core.Bool.{Bool, true, false, cond}
use mathlib.Core.List.{List, [], ◌∷◌, ◌++◌, map, map-map, append-nil}
use Prim.Native.Nat.{ℕ, ◌+◌, ◌-◌, ◌≤◌, ◌<◌}
use native.Mathlib.Numerals.{add-one}
use native.Mathlib.Omega.{arith}
use lib.ListN.{length, get_or, set, take, drop, length-append, length-map, length-drop, take-append-drop}
use lib.Seq.{paste, take-suc, length-take-le, get_or_at}
use Rattle.std.specs.Prelude.{Option}
use Rattle.std.proofs.lemmas.List.{drop-take}
use Rattle.rules.specs.Lists.{keep}
use Rattle.rules.specs.Mark.{Mark}
use Rattle.rules.specs.Ledger.{Pair, radios_of}
use Rattle.rules.specs.Outgoing.{Outgoing, deassign, orders}
use Rattle.rules.proofs.Walks.{keep_append}
use Rattle.order.specs.Walks.{left, onto}
use Rattle.order.proofs.Walks.{rest-cons, map-left}
use Rattle.store.specs.Storage.{Rows, Contents, pair_of, pair_count}
use Rattle.store.specs.Form.{Sound}
use Rattle.store.specs.Places.{stretch_of}
use Rattle.store.specs.declared.Stretch.{Stretch}
use Rattle.store.proofs.FormLaws.{pairs-rise, radios-narrow}
use Rattle.store.proofs.Stretches.{Stretched, stretched}
use Rattle.replies.specs.Sending.{order_row}
use Rattle.sending.proofs.Pushing.{push-turn, join-turn, join_front, send-turn}
use Rattle.deleting.specs.Deassigned.{deassigned, deassign_orders, Stretches, deassign_rows, radio_in, stretch_radios}

-- ---- listed radios ----

-- a walk that lays an order to each radio that passes
module _ (p : ℕ → Bool) (xs : List ℕ) (g at : ℕ) (out out₀ : Rows) (i k : ℕ) (h : i < length xs)
    (n : k ≡ length (keep p (take i xs))) (e : out ≡ paste out₀ at (deassign_rows g (keep p xs)) k) where
  kept-turn : (b : Bool) → p (get_or xs i 0) ≡ b → keep p (take (i + 1) xs) ≡ keep p (take i xs) ++ cond b (get_or xs i 0 ∷ []) []
  kept-turn b q = rw (add-one, take-suc xs i 0 h, keep_append p (take i xs) (get_or xs i 0 ∷ []), q)

  -- those kept of the first, this one, and those of the others
  kept-whole : p (get_or xs i 0) ≡ true → keep p xs ≡ keep p (take i xs) ++ (get_or xs i 0 ∷ keep p (drop (i + 1) xs))
  kept-whole q =
      ap (keep p) (sym (take-append-drop i xs)) ∙ keep_append p (take i xs) (drop i xs)
      ∙ ap (λ (l : List ℕ). keep p (take i xs) ++ l) (ap (keep p) (rest-cons xs i 0 h)
      ∙ ap (λ (b : Bool). cond b (get_or xs i 0 ∷ keep p (drop (i + 1) xs)) (keep p (drop (i + 1) xs))) q)

  pub kept-more : p (get_or xs i 0) ≡ true → k < length (keep p xs)
  kept-more q = omega (
    arith,
    ap length (kept-whole q),
    length-append (keep p (take i xs)) (get_or xs i 0 ∷ keep p (drop (i + 1) xs)),
    n,
  )

  pub laid_in : at + length (keep p xs) ≤ length out₀ → p (get_or xs i 0) ≡ true → (row : List ℕ)
      → row ≡ order_row (record { kind = deassign; radio = get_or xs i 0; group = g })
      → (k + 1 ≡ length (keep p (take (i + 1) xs))) × (set out (at + k) row ≡ paste out₀ at (deassign_rows g (keep p xs)) (k + 1))
  laid_in r q row d =
      let here : get_or (keep p xs) k 0 ≡ get_or xs i 0 =
      ap (λ (l : List ℕ). get_or l k 0) (kept-whole q) ∙ get_or_at (keep p (take i xs)) (get_or xs i 0) (keep p (drop (i + 1) xs)) 0 k (sym n) in
      let t = ap length (kept-turn true q) ∙ length-append (keep p (take i xs)) (get_or xs i 0 ∷ []) in (
        omega (arith, t, n),
        push-turn (keep p xs) out out₀ at deassign g k (kept-more q) r e row
            (d ∙ ap (λ (x : ℕ). order_row (record { kind = deassign; radio = x; group = g })) (sym here)),
      )

  pub laid_out : p (get_or xs i 0) ≡ false → k ≡ length (keep p (take (i + 1) xs))
  laid_out q = rw (kept-turn false q, append-nil) n

-- ---- the radios of a group's stretch ----

-- contents in their form have the pairs in stretches
pub stretches : (c : Contents) → Sound c → Stretches (take (pair_count c) c.pairs)
stretches c w = record {
  few = omega (arith, w.few_pairs, length-take-le (pair_count c) c.pairs (omega (arith, w.pairs, w.few_pairs)));
  rise = pairs-rise c w;
  narrow = radios-narrow c w;
}

module _ (from to : ℕ) (rows : Rows) where
  -- the rows of a stretch, cut from all
  part : from ≤ to → take (to - from) (drop from rows) ≡ left from to rows
  part h = let e : from + (to - from) ≡ to = omega arith in sym (drop-take from (to - from) rows) ∙ ap (λ (n : ℕ). drop from (take n rows)) e

  radios-of : map (λ (e : Pair × Mark). e.0.1) (left from to (map pair_of rows)) ≡ stretch_radios from to rows
  radios-of =
      let radio : Pair × Mark → ℕ = λ e. e.0.1 in
      ap (map radio) (map-left pair_of from to rows) ∙ map-map radio pair_of (left from to rows)

-- the stretch lies in the rows, and its radios are the group's
pub record Spans (rows : Rows) (g : ℕ) (s : Stretch) : Type 0 where
  pub ordered : s.from ≤ s.to
  pub inside : s.to ≤ length rows
  pub radios : map radio_in (take (s.to - s.from) (drop s.from rows)) ≡ radios_of g (map pair_of rows)
  pub counts : length (radios_of g (map pair_of rows)) ≡ s.to - s.from

pub spans : (rows : Rows) → Stretches rows → (g : ℕ) (s : Stretch) → s ≡ stretch_of (map pair_of rows) g → Spans rows g s
spans rows w g s e =
    let t : Stretched (map pair_of rows) g s = rw e (stretched (map pair_of rows) g w.rise w.narrow) in
    let h : s.to ≤ length rows = omega (arith, t.inside, length-map rows pair_of) in
    let r = ap (map radio_in) (part s.from s.to rows t.ordered) ∙ sym (t.radios ∙ radios-of s.from s.to rows) in
    let n : length (take (s.to - s.from) (drop s.from rows)) ≡ s.to - s.from =
    length-take-le (s.to - s.from) (drop s.from rows) (omega (arith, length-drop s.from rows, h)) in
    record {
      ordered = t.ordered;
      inside = h;
      radios = r;
      counts = sym (ap length r) ∙ length-map (take (s.to - s.from) (drop s.from rows)) radio_in ∙ n;
    }

-- ---- orders, group by group ----

-- the group at place i of those named, and how many leave it
module _ (leave : Bool) (radios : Option (List ℕ)) (pairs : List (Pair × Mark)) (named : List ℕ) (i g n at : ℕ) (h : i < length named)
    (e : g ≡ get_or named i 0) (m : n ≡ length (deassigned leave radios pairs g))
    (a : at ≡ length (deassign_orders leave radios pairs (take i named))) where
  abbrev sent : ℕ → List Outgoing
  sent x = orders deassign x (deassigned leave radios pairs x)

  count_at : n ≡ length (sent (get_or named i 0))
  count_at = m ∙ ap (λ (x : ℕ). length (deassigned leave radios pairs x)) e ∙ sym (length-map (deassigned leave radios pairs (get_or named i 0)) _)

  pub counted : at + n ≡ length (deassign_orders leave radios pairs (take (i + 1) named))
  counted =
      rw (join-turn sent named i h, length-append (deassign_orders leave radios pairs (take i named)) (sent (get_or named i 0)))
      (omega (arith, a, count_at))

  pub within : at + n ≤ length (deassign_orders leave radios pairs named)
  within = omega (arith, counted, join_front sent named (i + 1))

  -- a turn that lays the group's orders
  pub sent-more : (out out' out₀ : Rows) → out ≡ onto (map order_row (deassign_orders leave radios pairs (take i named))) out₀
      → out' ≡ paste out at (deassign_rows g (deassigned leave radios pairs g)) n
      → out' ≡ onto (map order_row (deassign_orders leave radios pairs (take (i + 1) named))) out₀
  sent-more out out' out₀ o q =
      (send-turn sent named out out' out₀ i at n h a count_at o (q ∙ ap (λ (x : ℕ). paste out at (map order_row (sent x)) n) e)).1
