-- Laws of an answer and a tick: what they make of lent contents.
use mathlib.Core.Path.{◌≡◌, refl, sym, ap, ◌∙◌}
use mathlib.Core.Bool.{false, cond}
use mathlib.Core.List.{List, [], map}
use mathlib.Core.Option.{Option, none, some}
use Prim.Native.Nat.{ℕ, ◌<◌}
use native.Mathlib.Numerals.{add-one}
use native.Mathlib.Omega.{arith}
use lib.ListN.{length, get_or, set}
use lib.Seq.{set-get_or}
use Rattle.rules.specs.Entries.{alter}
use Rattle.rules.specs.Mark.{Mark, ticked, answered, open?}
use Rattle.rules.specs.Number.{key}
use Rattle.rules.specs.declared.AnswerKind.{AnswerKind}
use Rattle.rules.specs.Order.{tick}
use Rattle.rules.specs.Effect.{effect, only}
use Rattle.rules.specs.Ledger.{Pair, same_pair, view}
use Rattle.rules.specs.ByNumber.{below_pair}
use Rattle.rules.specs.Refusals.{tests}
use Rattle.rules.specs.Steps.{tally, apply, refused}
use Rattle.rules.proofs.LawOrder.{tests-pass}
use Rattle.rules.proofs.Tests.{clash}
use Rattle.rules.proofs.ByKey.{apart, apart-back}
use Rattle.rules.proofs.ByNumber.{pairs-linear}
use Rattle.rules.proofs.Walks.{alter-all}
use Rattle.order.specs.Numbers.{radio_number, group_number}
use Rattle.order.specs.Steps.{answer_step}
use Rattle.order.specs.declared.Gtsi.{Gtsi}
use Rattle.order.specs.declared.Itsi.{Itsi}
use Rattle.order.specs.Walks.{onto}
use Rattle.store.specs.Places.{found_of, place_of}
use Rattle.store.specs.Lists.{Fills}
use Rattle.std.specs.Prelude.{Result, Ok, Err}
use Rattle.store.specs.Storage.{Contents, contents, groups_of, pair_of, pair_row, pairs_of, group_count, pair_count, placing, ledger_of, laid}
use Rattle.store.specs.Form.{Sound}
use Rattle.store.proofs.FormLaws.{pairs-rise}
use Rattle.store.proofs.HalvingLaws.{item-at}
use Rattle.store.proofs.PlaceLaws.{InRows, in_rows}
use Rattle.replies.proofs.Orders.{alter-length, head-counts, count-groups, count-pairs, groups-stay}
use Rattle.answering.specs.Answers.{as_mark, settled}
use Rattle.answering.proofs.OneEntry.{alter-one-entry}

-- what is found open is open
pub found-open : (kind : AnswerKind) (o : Option Mark) → open? kind (as_mark (found_of o)) ≡ open? kind o
found-open kind none = refl
found-open kind (some m) = refl

-- ---- an order that changes pairs alone ----

module _ (c : Contents) (w : Sound c) where
  pub turned-laid : (turns : ℕ → ℕ → Mark → Option Mark) (n : ℕ) (rows : List (List ℕ))
      → n ≡ length (alter (λ (k : Pair). turns k.0 k.1) (pairs_of (pair_count c) c.pairs))
      → rows ≡ onto (map pair_row (alter (λ (k : Pair). turns k.0 k.1) (pairs_of (pair_count c) c.pairs))) c.pairs
      → contents (set c.head 1 n) c.groups rows ≡ laid (apply placing (ledger_of c) (only (λ g. false) turns)) c
  turned-laid turns n rows e d =
      rw (alter-all (groups_of (group_count c) c.groups), groups-stay c w, ← d, ← e, count-groups c w, ← head-counts c.head (group_count c) n w.head refl)

  pub ticked-laid : (rows : List (List ℕ)) → rows ≡ onto (map pair_row (alter (λ (k : Pair) m. some (ticked m)) (pairs_of (pair_count c) c.pairs)))
      c.pairs → contents c.head c.groups rows ≡ laid (apply placing (ledger_of c) (effect (view (ledger_of c)) tick)) c
  ticked-laid rows d =
      let n = pair_count c in
      let e : n ≡ length (alter (λ (k : Pair) m. some (ticked m)) (pairs_of n c.pairs)) = sym
      (alter-length (λ (k : Pair) m. ticked m) (pairs_of n c.pairs) ∙ count-pairs c w) in
      ap (λ (z : List ℕ). contents z c.groups rows) (sym (set-get_or c.head 1 0)) ∙ turned-laid (λ g r m. some (ticked m)) n rows e d

-- ---- an answer ----

-- the pair that it names
abbrev pub pair_named : Itsi → Gtsi → Pair
pair_named radio group = (key (group_number group), key (radio_number radio))

module _ (c : Contents) (w : Sound c) where
  -- what the place of a pair says of the rows
  pub pair-in-rows : (p : Result ℕ ℕ) (k : Pair) → p ≡ place_of below_pair same_pair (pairs_of (pair_count c) c.pairs) k
      → InRows pairs-linear pair_of c.pairs (pair_count c) (omega (arith, w.pairs, w.few_pairs)) (pairs-rise c w) p k
  pair-in-rows = in_rows pairs-linear pair_of c.pairs (pair_count c) (omega (arith, w.pairs, w.few_pairs)) (pairs-rise c w)

  -- the pair at its place is the one that an answer turns
  answered-one : (k : Pair) (left : Option Mark) (i : ℕ) → Ok i ≡ place_of below_pair same_pair (pairs_of (pair_count c) c.pairs) k
      → alter (λ (j : Pair) m. cond (same_pair j k) left (some m)) (pairs_of (pair_count c) c.pairs)
      ≡ settled (pair_of (get_or c.pairs i [])).0 left i (pairs_of (pair_count c) c.pairs)
  answered-one k left i e =
      let l = pairs_of (pair_count c) c.pairs in
      let s = pair-in-rows (Ok i) k e in
      let n = count-pairs c w in
      let x : (j : ℕ) → j < pair_count c → (get_or l j (pair_of [])).0 ≡ (pair_of (get_or c.pairs j [])).0 =
      λ j h. ap (λ (z : Pair × Mark). z.0) (item-at pair_of c.pairs (pair_count c) j h) in
      alter-one-entry (λ j. same_pair j k) left (pair_of []) l i (omega (arith, s.inside))
      (λ j h. rw (x j (omega (arith, s.inside))) (apart pairs-linear (pair_of (get_or c.pairs j [])).0 k (s.before j h)))
      (ap (λ (z : Pair). same_pair z k) (x i s.inside ∙ s.is) ∙ pairs-linear.itself k)
      (λ j h m. let q : j < pair_count c = omega arith in
      rw (x j q) (apart-back pairs-linear k (pair_of (get_or c.pairs j [])).0 (s.behind j h q)))
      ∙ rw (x i s.inside, add-one)

  pub answered-laid : (radio : Itsi) (group : Gtsi) (kind : AnswerKind) (result i n : ℕ) (rows : List (List ℕ))
      → Ok i ≡ place_of below_pair same_pair (pairs_of (pair_count c) c.pairs) (pair_named radio group)
      → Fills pair_row (settled (pair_of (get_or c.pairs i [])).0 (answered kind result) i (pairs_of (pair_count c) c.pairs)) c.pairs rows n
      → contents (set c.head 1 n) c.groups rows ≡ laid (apply placing (ledger_of c) (effect (view (ledger_of c)) (answer_step radio group kind result))) c
  answered-laid radio group kind result i n rows e f =
      let q = sym (answered-one (pair_named radio group) (answered kind result) i e) in
      turned-laid c w (λ g r m. cond (same_pair (g, r) (pair_named radio group)) (answered kind result) (some m)) n rows (f.counts ∙ ap length q)
      (f.rows ∙ ap (λ (z : List (Pair × Mark)). onto (map pair_row z) c.pairs) q)

  -- an answer of a pair that is not there is refused
  pub no-pair-refused : {P : Type 0} (radio : Itsi) (group : Gtsi) (kind : AnswerKind) (result i : ℕ)
      → Err i ≡ place_of below_pair same_pair (pairs_of (pair_count c) c.pairs) (pair_named radio group)
      → refused placing (ledger_of c) (answer_step radio group kind result) ≡ none → P
  no-pair-refused radio group kind result i e t =
      let s = answer_step radio group kind result in
      let v = view (ledger_of c) in
      let q = tests-pass (tests v (tally placing (ledger_of c) (effect v s)) s) t 2 in
      let f = (pair-in-rows (Err i) (pair_named radio group) e).found in
      clash (rw f at q)
