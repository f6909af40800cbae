-- Where a frame is bad: each refusal of the reader and its bit are what P2 says of the frame's bits.
-- Assumes nothing.
use Prim.Native.Nat.{ℕ, zero, suc, ◌+◌, ◌-◌, ◌≤◌, ◌<◌}
use mathlib.Core.Path.{◌≡◌, refl, ap, sym, ◌∙◌, subst}
use mathlib.Core.Bool.{Bool, true, false, cond, ◌&&◌}
use mathlib.Core.List.{List, [], ◌∷◌, ◌++◌, append_assoc, tail}
use native.Mathlib.Nat.{sub-zero}
use native.Mathlib.Omega.{arith}
use borrow.Author.Tests.{ltb-true, ltb-false, eqb-true}
use lib.Dec.{eqb, ltb}
use lib.ListN.{length, take, drop, get_or, length-append, get_or-append}
use lib.Seq.{drop-nil, take-suc, take_at, get_or_at, length-take-le}
use Rattle.refusal.specs.declared.Refusal.{Refusal}
use Rattle.refusal.specs.declared.Refusal.TheVariants.{EndsInside, Reserved, NoGroup}
use Rattle.bits.specs.Bits.{digits, value}
use Rattle.layout.specs.declared.Kind.{Kind}
use Rattle.layout.specs.Row.{is, Row, all, present, nothing, bare, there}
use Rattle.layout.specs.Shape.{row, choice, refuse, No}
use Rattle.layout.specs.Read.{Answer, frame, refused, Turn, took, stop, turn, read_rows}
use Rattle.layout.specs.Frame.{rows, head, read}
use Rattle.layout.specs.Where.{Begins, Cut, ss_type_cut, action_type_cut, row_cut, PastEnd, ss_type_wrong, action_type_wrong}
use Rattle.layout.specs.Where.{NoMeaning, NotGiven, m_bit, AtMBit, Empty, Refuses, one, two, three, four, five, six, seven}
use Rattle.layout.proofs.Tests.{both_true}
use Rattle.layout.proofs.Frames.{head-length, read_head, by-head}
use Rattle.layout.proofs.Readings.{holds-0, followed}
use Rattle.layout.proofs.Passing.{length-read, Last, last_row_lem, Halts, halted, remained, Stopped, stops}
use Rattle.layout.proofs.RowNumbers.{number_at, place_of, neither_row, row-by-number, last-by-number}

-- the row at a place of the table, and the one before it
abbrev row_of : Kind → ℕ → Row
row_of kind k = get_or (rows kind) k nothing

abbrev row_before : Kind → ℕ → Row
row_before kind k = get_or (nothing ∷ rows kind) k nothing

-- ---- the row at which reading stops
-- a row that is there and whole, and whose code has no meaning
record Faulty (done : List ℕ) (rest : List Bool) (r : Row) : Type 0 where
  on : present done r.hang ≡ true
  whole : r.width ≤ length rest
  code : r.codes ≤ value (take r.width rest)

-- a bit whose code is 1 or more is 1
set-bit : (rest : List Bool) → 1 ≤ length rest → 1 ≤ value (take 1 rest) → (more : List Bool) × (rest ≡ true ∷ more)
unfolding value
set-bit [] long code = absurd (omega arith)
set-bit (true ∷ more) long code = (more, refl)
set-bit (false ∷ more) long code = absurd (omega arith)

module _ {kind : Kind} {bits : List Bool} {at k : ℕ} {done : List ℕ} {rest : List Bool} (b : Begins kind bits at k done rest) where
  -- 4
  reserved : Faulty done rest (row_of kind k) → (row_of kind k).refusal ≡ Reserved → NoMeaning kind bits at
  reserved f e =
      record {
        place = k;
        done = done;
        rest = rest;
        begins = b;
        whole = rw f.on f.whole;
        code = rw f.on f.code;
        reserved = rw f.on e;
      }

  -- 7
  m-bit : (o : ℕ) → row_of kind k ≡ m_bit o → Faulty done rest (m_bit o) → AtMBit kind bits at true
  unfolding present
  m-bit o e f =
      let bit = set-bit rest f.whole f.code in
      record {
        place = k;
        o = o;
        ending = e;
        done = done;
        rest = bit.0;
        begins = subst (Begins kind bits at k done) bit.1 b;
        opened = eqb-true (get_or done o 0) 1 (both_true (eqb (get_or done o 0) 1) true f.on).0;
      }

-- ---- a row of no bits that refuses: the row before it is the bit that is refused
-- a 0 behind a record changes none of its places
pub get_or-zero : (l : List ℕ) (q : ℕ) → get_or (l ++ (0 ∷ [])) q 0 ≡ get_or l q 0
get_or-zero [] zero = refl
get_or-zero [] (suc q) = refl
get_or-zero (x ∷ l) zero = refl
get_or-zero (x ∷ l) (suc q) = get_or-zero l q

pub zeros-zero : (l : List ℕ) (q : ℕ) → all (λ v. eqb v 0) (drop q (l ++ (0 ∷ []))) ≡ all (λ v. eqb v 0) (drop q l)
zeros-zero [] zero = refl
zeros-zero [] (suc q) = ap (all (λ v. eqb v 0)) (drop-nil q)
zeros-zero (x ∷ l) zero = ap (λ (b : Bool). eqb x 0 && b) (zeros-zero l zero)
zeros-zero (x ∷ l) (suc q) = zeros-zero l q

module _ {kind : Kind} {bits : List Bool} {at k : ℕ} {done : List ℕ} {rest : List Bool} (inside : k < length (rows kind))
    (b : Begins kind bits at (suc k) done rest) where
  abbrev last_row : Row
  last_row = row_of kind k

  last : Last (take k (rows kind)) last_row [] 10 b.front done
  last =
      last_row_lem (take k (rows kind)) last_row [] 10 b.front done
      (ap (λ (l : List Row). read_rows l [] 10 b.front) (sym (take-suc (rows kind) k nothing inside)) ∙ b.before)

  -- it begins one bit earlier, where it is this row, of one bit, with this code
  last_begins : (r : Row) (bit : Bool) → there last.done last_row ≡ r → digits r.width (last.v - r.first) ≡ bit ∷ []
      → Begins kind bits (at - 1) k last.done (bit ∷ rest)
  last_begins r bit e own =
      let written : digits (there last.done last_row).width (last.v - (there last.done last_row).first) ≡ bit ∷ [] =
      ap (λ (x : Row). digits x.width (last.v - x.first)) e ∙ own in
      let parts : b.front ≡ last.front ++ (bit ∷ []) = last.parts ∙ ap (λ (l : List Bool). last.front ++ l) written in
      record {
        front = last.front;
        parts =
            b.parts
            ∙ ap (λ (l : List Bool). head kind ++ (l ++ rest)) parts
            ∙ ap (λ (l : List Bool). head kind ++ l) (append_assoc last.front (bit ∷ []) rest);
        before = last.before;
        bit = omega (arith, b.bit, ap length parts, length-append last.front (bit ∷ []));
      }

  -- 6
  empty : (o : ℕ) → last_row ≡ m_bit o → present done (followed o).hang ≡ true → Empty kind bits (at - 1)
  unfolding present digits
  empty o e on =
      let v : last.v ≡ 0 = holds-0 last.done last_row last.v last.fine (ap (λ (x : Row). x.first) e) (ap (λ (x : Row). x.codes) e) in
      let values : last.done ++ (0 ∷ []) ≡ done = sym (last.values ∙ ap (λ (v : ℕ). last.done ++ (v ∷ [])) v) in
      let two = both_true (all (λ v. eqb v 0) (drop (suc o) done)) (eqb (get_or done o 0) 1 && true) on in
      let o-bit = eqb-true (get_or done o 0) 1 (both_true (eqb (get_or done o 0) 1) true two.1).0 in
      let opened = sym (get_or-zero last.done o) ∙ ap (λ (l : List ℕ). get_or l o 0) values ∙ o-bit in
      record {
        closes =
            record {
              place = k;
              o = o;
              ending = e;
              done = last.done;
              rest = rest;
              begins = last_begins (bare (m_bit o)) false (rw e (rw opened)) (rw v);
              opened = opened;
            };
        nothing_came = sym (zeros-zero last.done (suc o)) ∙ ap (λ (l : List ℕ). all (λ v. eqb v 0) (drop (suc o) l)) values ∙ two.0;
      }

  -- 5
  not-given : (related : ℕ) → related < k → row_of kind (suc k) ≡ refuse NoGroup 1 (is k No ∷ is related No ∷ [])
      → last_row ≡ choice 1 2 [] → present done (is k No ∷ is related No ∷ []) ≡ true → NotGiven kind bits (at - 1)
  unfolding present digits
  not-given related early here e on =
      let read = length-read (take k (rows kind)) [] 10 last.front last.done last.before in
      let size : length last.done ≡ k = omega (arith, read, length-take-le k (rows kind) (omega arith)) in
      let two = both_true (eqb (get_or done k 0) No) (eqb (get_or done related 0) No && true) on in
      let given = eqb-true (get_or done k 0) No two.0 in
      let v : last.v ≡ No = sym (get_or_at last.done last.v [] 0 k size) ∙ ap (λ (l : List ℕ). get_or l k 0) (sym last.values) ∙ given in
      let own = get_or-append last.done (last.v ∷ []) 0 related (omega (arith, size)) in
      record {
        related = related;
        given = k;
        neither = here;
        done = last.done;
        rest = rest;
        begins = last_begins (choice 1 2 []) true (rw e) (rw v);
        unrelated =
            sym own
            ∙ ap (λ (l : List ℕ). get_or l related 0) (sym last.values)
            ∙ eqb-true (get_or done related 0) No (both_true (eqb (get_or done related 0) No) true two.1).0;
      }

-- ---- whatever row it is
module _ {kind : Kind} {bits : List Bool} {at : ℕ} {done : List ℕ} {rest : List Bool} where
  behind-m-bit : (k o : ℕ) → k < length (rows kind) → Begins kind bits at k done rest → row_before kind k ≡ m_bit o
      → present done (followed o).hang ≡ true → Empty kind bits (at - 1)
  behind-m-bit zero o inside b e on = absurd (omega (arith, ap (λ (x : Row). x.width) e))
  behind-m-bit (suc k) o inside b e on = empty (omega arith) b o e on

  behind-given : (k related : ℕ) → k < length (rows kind) → Begins kind bits at k done rest → row_before kind k ≡ choice 1 2 []
      → number_at (row_of kind k) ≡ 5 → row_of kind k ≡ neither_row related (k - 1) → present done (row_of kind k).hang ≡ true
      → Refuses kind bits (row_of kind k).refusal (at - (row_of kind k).back)
  behind-given zero related inside b e n own on = absurd (omega (arith, ap (λ (x : Row). x.width) e))
  behind-given (suc k) related inside b e n own on =
      let less : suc k - 1 ≡ k = omega arith in
      go (ltb related k) refl (own ∙ ap (neither_row related) less)
    where
      go : (t : Bool) → ltb related k ≡ t → row_of kind (suc k) ≡ cond t (refuse NoGroup 1 (is k No ∷ is related No ∷ [])) nothing
          → Refuses kind bits (row_of kind (suc k)).refusal (at - (row_of kind (suc k)).back)
      go false early q = absurd (omega (arith, n, ap number_at q))
      go true early q =
          let there-is = subst (λ (x : Row). present done x.hang ≡ true) q on in
          let given = not-given (omega arith) b related (ltb-true related k early) q e there-is in
          five (ap (λ (x : Row). x.refusal) q) (subst (λ (x : Row). NotGiven kind bits (at - x.back)) (sym q) given)

  module _ (k : ℕ) (inside : k < length (rows kind)) (b : Begins kind bits at k done rest) where
    faulty : Faulty done rest (row_of kind k) → Refuses kind bits (row_of kind k).refusal (at - (row_of kind k).back)
    faulty f =
        go (eqb (number_at (row_of kind k)) 7) (eqb (number_at (row_of kind k)) 6) (eqb (number_at (row_of kind k)) 5) refl (row-by-number kind k inside)
        (last-by-number kind k inside)
      where
        unmoved : (row_of kind k).back ≡ 0 → at - (row_of kind k).back ≡ at
        unmoved e = rw e (sub-zero at)

        go : (s t u : Bool) → eqb (number_at (row_of kind k)) 5 ≡ u
            → row_of kind k
            ≡ cond s (m_bit (place_of (row_of kind k).hang))
            (cond t (followed (place_of (row_of kind k).hang))
            (cond u (neither_row (place_of (tail (row_of kind k).hang)) (k - 1))
            (row (row_of kind k).width (row_of kind k).first (row_of kind k).codes Reserved 0 (row_of kind k).hang)))
            → row_before kind k ≡ cond t (m_bit (place_of (row_of kind k).hang)) (cond u (choice 1 2 []) (row_before kind k))
            → Refuses kind bits (row_of kind k).refusal (at - (row_of kind k).back)
        go true t u n e before =
            let m = m-bit b _ e (subst (Faulty done rest) e f) in
            seven (ap (λ (x : Row). x.refusal) e) (subst (λ (p : ℕ). AtMBit kind bits p true) (sym (unmoved (ap (λ (x : Row). x.back) e))) m)
        go false true u n e before =
            let m = behind-m-bit k _ inside b before (subst (λ (x : Row). present done x.hang ≡ true) e f.on) in
            six (ap (λ (x : Row). x.refusal) e) (subst (λ (x : Row). Empty kind bits (at - x.back)) (sym e) m)
        go false false true n e before = behind-given k _ inside b before (eqb-true _ _ n) e f.on
        go false false false n e before =
            let plain : (row_of kind k).refusal ≡ Reserved = ap (λ (x : Row). x.refusal) e in
            four plain (subst (NoMeaning kind bits) (sym (unmoved (ap (λ (x : Row). x.back) e))) (reserved b f plain))

    -- what a row that is not taken says
    abbrev Halting : Turn → Type 0
    Halting (took v) = Unit {0}
    Halting (stop n back) = Refuses kind bits n (at - back)

    halting : Halting (turn (there done (row_of kind k)) rest)
    unfolding value
    halting = go (ltb (length rest) own.width) (ltb (value (take own.width rest)) own.codes) refl refl
      where
        own : Row
        own = there done (row_of kind k)

        bad : (on : Bool) → present done (row_of kind k).hang ≡ on → own.width ≤ length rest → own.codes ≤ value (take own.width rest)
            → Refuses kind bits own.refusal (at - own.back)
        bad true on whole code =
            let there-is : own ≡ bare (row_of kind k) = rw on in
            let w = subst (λ (x : Row). x.width ≤ length rest) there-is whole in
            let c = subst (λ (x : Row). x.codes ≤ value (take x.width rest)) there-is code in
            subst (λ (x : Row). Refuses kind bits x.refusal (at - x.back)) (sym there-is) (faulty (record { on = on; whole = w; code = c }))
        bad false on whole code =
            let off : own ≡ nothing = rw on in
            let none : 1 ≤ 0 = subst (λ (x : Row). x.codes ≤ value (take x.width rest)) off code in
            absurd (omega arith)

        go : (s t : Bool) → ltb (length rest) own.width ≡ s → ltb (value (take own.width rest)) own.codes ≡ t
            → Halting (cond s (stop EndsInside 0) (cond t (took (own.first + value (take own.width rest))) (stop own.refusal own.back)))
        go true t p q = one refl (subst (Cut kind bits) (sym (sub-zero at)) (row_cut k done rest b (ltb-true (length rest) own.width p)))
        go false true p q = tt
        go false false p q = bad (present done (row_of kind k).hang) refl (ltb-false _ _ p) (ltb-false _ _ q)

-- ---- the whole frame
-- a frame that ends before its bits do
past_end : {kind : Kind} {bits : List Bool} {at k : ℕ} {done : List ℕ} {rest : List Bool} → Begins kind bits at k done rest
    → take k (rows kind) ≡ rows kind → (b : Bool) (more : List Bool) → rest ≡ b ∷ more → PastEnd kind bits at
past_end {kind} {bits} {at} {done = done} {rest = rest} begun all b more e =
    let front = head kind ++ begun.front in
    let size : length front ≡ at = omega (arith, begun.bit, length-append (head kind) begun.front, head-length kind) in
    let joined : bits ≡ front ++ rest = begun.parts ∙ sym (append_assoc (head kind) begun.front rest) in
    let read_all = ap (λ (l : List Row). read_rows l [] 10 begun.front) (sym all) ∙ begun.before in
    record {
      values = done;
      whole = ap (read kind) (ap (take at) joined ∙ take_at front rest at size) ∙ read_head kind begun.front ∙ read_all;
      more = omega (arith, ap length joined, length-append front rest, size, ap length e);
    }

abbrev Told : Kind → List Bool → Answer → Type 0
Told kind bits (frame s) = Unit {0}
Told kind bits (refused n at) = Refuses kind bits n at

after-head : (kind : Kind) (bits : List Bool) → head kind ++ drop 10 bits ≡ bits → (a : Answer) → Stopped (rows kind) [] 10 (drop 10 bits) a
    → Told kind bits a
after-head kind bits headed (frame s) q = tt
after-head kind bits headed (refused n at) q = go q.halts
  where
    begun : Begins kind bits (10 + length q.front) q.k q.done q.rest
    begun =
        record {
          front = q.front;
          parts = sym headed ∙ ap (λ (l : List Bool). head kind ++ l) q.parts;
          before = q.before;
          bit = refl;
        }

    go : Halts (rows kind) q.k q.done q.rest (10 + length q.front) n at → Refuses kind bits n at
    go (halted back inside e place) =
        subst (Refuses kind bits n) (sym place) (subst (Halting q.k inside begun) e (halting q.k inside begun))
    go (remained all b more e d place) = two d (subst (PastEnd kind bits) (sym place) (past_end begun all b more e))

told : (kind : Kind) (bits : List Bool) → Told kind bits (read kind bits)
told kind bits =
    by-head kind bits (Told kind bits) (λ short. one refl (ss_type_cut refl short)) (λ long short. one refl (action_type_cut refl long short))
    (λ long wrong. three refl (ss_type_wrong refl long wrong)) (λ long right wrong. three refl (action_type_wrong refl long right wrong))
    (λ headed. after-head kind bits headed (read_rows (rows kind) [] 10 (drop 10 bits)) (stops (rows kind) [] 10 (drop 10 bits)))

-- every refusal of the reader is as P2 says
pub refused-so : (kind : Kind) (bits : List Bool) (n : Refusal) (at : ℕ) → read kind bits ≡ refused n at → Refuses kind bits n at
refused-so kind bits n at e = subst (Told kind bits) e (told kind bits)
