-- On a chain a test of the record as it is handed over and a test of the cleaned places so far agree: whoever tests chains needs no cleaned copy.
-- Assumes nothing.
use Prim.Native.Nat.{ℕ, zero, suc, ◌+◌, ◌<◌}
use mathlib.Core.Path.{◌≡◌, refl, ap, sym, subst, ◌∙◌}
use mathlib.Core.Bool.{Bool, true, false, not, ◌&&◌}
use mathlib.Core.List.{List, [], ◌∷◌, ◌++◌, append_assoc, append-nil}
use native.Mathlib.Omega.{arith}
use borrow.Author.Tests.{eqb-true}
use lib.Dec.{T, eqb, ltb, ltb→lt}
use lib.ListN.{length, take, get_or}
use lib.Seq.{get_or-take}
use Rattle.layout.specs.declared.Kind.{Kind}
use Rattle.layout.specs.declared.Element.{Element}
use Rattle.layout.specs.declared.Shape.TheVariants.{Missing}
use Rattle.layout.specs.Row.{Condition, is, at_least, nothing_since, Row, holds, all, present, nothing, there}
use Rattle.layout.specs.Shape.{No, rows_of, repeated, span, spans, conditions_of, unrolled}
use Rattle.layout.specs.Kinds.{table_of}
use Rattle.layout.specs.Write.{idle, held, lay, vals}
use Rattle.layout.specs.Frame.{rows, clean}
use Rattle.layout.specs.Chain.{same, among, earlier, under, chained, own, looks, chained_from, begins, bounded}
use Rattle.layout.proofs.EachKind.{every-test}
use Rattle.layout.proofs.Tests.{left, right, both, and-true, told, either, all_append, both_true}

-- ---- every element of every table looks along a chain, and what comes since an O-bit begins with an element
pub tables-chained : (kind : Kind) → T (chained_from (rows kind) (table_of kind) 0)
unfolding chained_from rows unrolled rows_of repeated span spans table_of
tables-chained = every-test (λ kind. chained_from (rows kind) (table_of kind) 0) tt

pub tables-bounded : (kind : Kind) → T (bounded (table_of kind) (table_of kind))
unfolding bounded begins span spans table_of
tables-bounded = every-test (λ kind. bounded (table_of kind) (table_of kind)) tt

-- of the first element, and of those behind it
pub chain_first : (rows : List Row) (e : Element) (es : List Element) (p : ℕ) → T (chained_from rows (e ∷ es) p)
    → T (chained rows [] (looks e)) × T (all (earlier p) (looks e)) × T (chained_from rows es (p + span e.1))
unfolding chained_from
chain_first rows e es p t =
    let chain = chained rows [] (looks e) in
    let early = all (earlier p) (looks e) in
    let more = chained_from rows es (p + span e.1) in
    let here = left (chain && early) more t in
    (left chain early here, right chain early here, right (chain && early) more t)

-- ---- what a place of the cleaned record holds
clean_at : (left : List Row) (done s : List ℕ) (i : ℕ) → i < length left
    → get_or (vals (lay left done s)) i 0 ≡ held (there (done ++ take i (vals (lay left done s))) (get_or left i nothing)) (get_or s i 0)
unfolding lay vals
clean_at [] done s i h = absurd (omega arith)
clean_at (r ∷ left) done s zero h = rw (append-nil done)
clean_at (r ∷ left) done [] (suc i) h =
    let v = held (there done r) 0 in
    clean_at left (done ++ (v ∷ [])) [] i (omega arith) ∙ rw (append_assoc done (v ∷ []) (take i (vals (lay left (done ++ (v ∷ [])) []))))
clean_at (r ∷ left) done (x ∷ s) (suc i) h =
    let v = held (there done r) x in
    clean_at left (done ++ (v ∷ [])) s i (omega arith) ∙ rw (append_assoc done (v ∷ []) (take i (vals (lay left (done ++ (v ∷ [])) s))))

-- ---- conditions that are among others, which hold
same-holds : (vs : List ℕ) (c d : Condition) → T (same c d) → holds vs d ≡ true → holds vs c ≡ true
same-holds vs (is p v) (is q w) t h =
    let p≡q = eqb-true p q (told (eqb p q) (left (eqb p q) (eqb v w) t)) in
    let v≡w = eqb-true v w (told (eqb v w) (right (eqb p q) (eqb v w) t)) in
    rw (p≡q, v≡w) h
same-holds vs (is p v) (at_least q w) t h = absurd t
same-holds vs (is p v) (nothing_since q) t h = absurd t
same-holds vs (at_least p v) d t h = absurd t
same-holds vs (nothing_since p) d t h = absurd t

among-holds : (vs : List ℕ) (before : List Condition) (c : Condition) → T (among before c) → all (holds vs) before ≡ true → holds vs c ≡ true
among-holds vs [] c t e = absurd t
among-holds vs (d ∷ ds) c t e =
    let b = both_true (holds vs d) (all (holds vs) ds) e in
    either (same c d) (among ds c) t (λ u. same-holds vs c d u b.0) (λ u. among-holds vs ds c u b.1)

earlier-holds : (vs : List ℕ) (q : ℕ) (c : Condition) → T (earlier q c) → holds (take q vs) c ≡ holds vs c
earlier-holds vs q (is p v) t = rw (get_or-take q vs p 0 (ltb→lt p q t))
earlier-holds vs q (at_least p v) t = absurd t
earlier-holds vs q (nothing_since p) t = absurd t

-- a row whose conditions are earlier ones of these is there
covered : (vs : List ℕ) (before : List Condition) (q : ℕ) (hang : List Condition) → T (all (λ c. among before c && earlier q c) hang)
    → all (holds vs) before ≡ true → all (holds (take q vs)) hang ≡ true
covered vs before q [] t e = refl
covered vs before q (c ∷ hang) t e =
    let one = left (among before c && earlier q c) (all (λ c. among before c && earlier q c) hang) t in
    let more = right (among before c && earlier q c) (all (λ c. among before c && earlier q c) hang) t in
    let on = earlier-holds vs q c (right (among before c) (earlier q c) one) ∙ among-holds vs before c (left (among before c) (earlier q c) one) e in
    rw (on, covered vs before q hang more e)

-- ---- the law
module _ (left-rows : List Row) (s : List ℕ) where
  cleaned : List ℕ
  cleaned = vals (lay left-rows [] s)

  -- a place that carries a value, and is there, is handed on as it is
  carried : (before : List Condition) (q : ℕ) → q < length left-rows → idle (get_or left-rows q nothing) ≡ false → T (under before q (get_or left-rows q nothing))
      → all (holds cleaned) before ≡ true → get_or cleaned q 0 ≡ get_or s q 0
  unfolding present cleaned
  carried before q inside carries t e =
      let on = covered (vals (lay left-rows [] s)) before q (get_or left-rows q nothing).hang t e in
      clean_at left-rows [] s q inside ∙ rw (on, carries)

  -- one condition, and the rest of the chain
  module _ (before more : List Condition) (q v : ℕ) (t : T (chained left-rows before (is q v ∷ more))) (e : all (holds cleaned) before ≡ true) where
    abbrev row : Row
    row = get_or left-rows q nothing

    abbrev later : List Condition
    later = before ++ (is q v ∷ [])

    first : T (ltb q (length left-rows) && not (idle row) && under before q row)
    first = left (ltb q (length left-rows) && not (idle row) && under before q row) (chained left-rows later more) t

    two : T (ltb q (length left-rows) && not (idle row))
    two = left (ltb q (length left-rows) && not (idle row)) (under before q row) first

    off : (b : Bool) → T (not b) → b ≡ false
    off false t = refl
    off true t = absurd t

    value : get_or cleaned q 0 ≡ get_or s q 0
    value =
        let inside = ltb→lt q (length left-rows) (left (ltb q (length left-rows)) (not (idle row)) two) in
        let carries = off (idle row) (right (ltb q (length left-rows)) (not (idle row)) two) in
        carried before q inside carries (right (ltb q (length left-rows) && not (idle row)) (under before q row) first) e

    step : (T (chained left-rows later more) → all (holds cleaned) later ≡ true → all (holds cleaned) more ≡ all (holds s) more)
        → all (holds cleaned) (is q v ∷ more) ≡ all (holds s) (is q v ∷ more)
    step rest = go (eqb (get_or s q 0) v) refl
      where
        go : (b : Bool) → eqb (get_or s q 0) v ≡ b → all (holds cleaned) (is q v ∷ more) ≡ all (holds s) (is q v ∷ more)
        go false d = rw (value, d)
        go true d =
            let on : all (holds cleaned) later ≡ true = all_append (holds cleaned) before (is q v ∷ []) ∙ rw (e, value, d) in
            rw (value, d) (rest (right (ltb q (length left-rows) && not (idle row) && under before q row) (chained left-rows later more) t) on)

  agrees : (before hang : List Condition) → T (chained left-rows before hang) → all (holds cleaned) before ≡ true
      → all (holds cleaned) hang ≡ all (holds s) hang
  agrees before [] t e = refl
  agrees before (at_least q v ∷ more) t e = absurd t
  agrees before (nothing_since q ∷ more) t e = absurd t
  agrees before (is q v ∷ more) t e = step before more q v t e (agrees (before ++ (is q v ∷ [])) more)

-- ---- of any places whose first p are the cleaned record's, at a chain that looks no further
early-hold : (vs : List ℕ) (p : ℕ) (hang : List Condition) → T (all (earlier p) hang) → all (holds (take p vs)) hang ≡ all (holds vs) hang
early-hold vs p [] t = refl
early-hold vs p (c ∷ hang) t =
    rw (earlier-holds vs p c (left (earlier p c) (all (earlier p) hang) t), early-hold vs p hang (right (earlier p c) (all (earlier p) hang) t))

pub chain-agrees : (kind : Kind) (s vs : List ℕ) (p : ℕ) (hang : List Condition) → T (chained (rows kind) [] hang) → T (all (earlier p) hang)
    → take p vs ≡ take p (clean kind s) → present vs hang ≡ present s hang
unfolding present clean cleaned
chain-agrees kind s vs p hang t early done =
    let front = sym (early-hold vs p hang early) ∙ ap (λ (l : List ℕ). all (holds l) hang) done ∙ early-hold (clean kind s) p hang early in
    front ∙ agrees (rows kind) s [] hang t refl

-- the front of a chain is a chain
chain-front : (rows : List Row) (before a b : List Condition) → T (chained rows before (a ++ b)) → T (chained rows before a)
chain-front rows before [] b t = tt
chain-front rows before (at_least q v ∷ a) b t = absurd t
chain-front rows before (nothing_since q ∷ a) b t = absurd t
chain-front rows before (is q v ∷ a) b t =
    let r = get_or rows q nothing in
    let here = ltb q (length rows) && not (idle r) && under before q r in
    let later = before ++ (is q v ∷ []) in
    both here (chained rows later a) (left here (chained rows later (a ++ b)) t) (chain-front rows later a b (right here (chained rows later (a ++ b)) t))

-- ---- of an element at its place
module _
    (kind : Kind) (s vs : List ℕ) (p : ℕ) (e : Element) (t : T (chained (rows kind) [] (looks e))) (early : T (all (earlier p) (looks e)))
    (done : take p vs ≡ take p (clean kind s)) where
  pub looks-agree : (present vs (conditions_of e.0) ≡ present s (conditions_of e.0)) × (present vs (looks e) ≡ present s (looks e))
  looks-agree =
      let hang = conditions_of e.0 in
      let front = left (all (earlier p) hang) (all (earlier p) (own e.1)) (subst T (all_append (earlier p) hang (own e.1)) early) in
      (chain-agrees kind s vs p hang (chain-front (rows kind) [] hang (own e.1) t) front done, chain-agrees kind s vs p (looks e) t early done)

  pub missing-agrees : (q : ℕ) → e.1 ≡ Missing q → present s (conditions_of e.0) ≡ true → eqb (get_or vs q 0) No ≡ eqb (get_or s q 0) No
  unfolding present
  missing-agrees q missing on = sym (last vs (looks-agree.0 ∙ on)) ∙ looks-agree.1 ∙ last s on
    where
      last : (l : List ℕ) → all (holds l) (conditions_of e.0) ≡ true → all (holds l) (looks e) ≡ eqb (get_or l q 0) No
      last l h = all_append (holds l) (conditions_of e.0) (own e.1) ∙ rw (h, missing, and-true (eqb (get_or l q 0) No))
