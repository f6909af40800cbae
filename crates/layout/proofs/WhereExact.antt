-- Where a frame is bad, the other way: what P2 says of the frame's bits the reader says, so that number and bit are given exactly where they hold.
-- Assumes nothing.
use Prim.Native.Nat.{ℕ, zero, suc, ◌+◌, ◌-◌, ◌≤◌, ◌<◌}
use mathlib.Core.Path.{◌≡◌, refl, ap, sym, ◌∙◌, subst}
use mathlib.Core.Bool.{Bool, true, false}
use mathlib.Core.List.{List, [], ◌∷◌, ◌++◌, append_assoc, append-nil}
use native.Mathlib.Nat.{sub-zero}
use native.Mathlib.Omega.{arith}
use borrow.Author.Tests.{le-ltb, lt-ltb, eq-eqb, ne_eqb}
use lib.Dec.{ltb}
use lib.ListN.{length, take, drop, get_or, take-append-drop, length-append}
use lib.Seq.{drop-cons, get_or_at, length-take-le}
use Rattle.refusal.specs.declared.Refusal.{Refusal}
use Rattle.refusal.specs.declared.Refusal.TheVariants.{EndsInside, BitsRemain, WrongKind, Reserved, NoGroup, NothingFollows, TypeThree}
use Rattle.bits.specs.Bits.{value}
use Rattle.layout.specs.declared.Kind.{Kind}
use Rattle.layout.specs.Row.{Row, present, nothing, bare, there}
use Rattle.layout.specs.Shape.{choice, refuse, No}
use Rattle.layout.specs.Read.{frame, refused, took, stop, turn, read_rows}
use Rattle.layout.specs.Write.{emit}
use Rattle.layout.specs.Kinds.{ss_type, action_type}
use Rattle.layout.specs.Frame.{rows, head, read, laid, write}
use Rattle.layout.specs.Where.{Begins, row_at, Cut, ss_type_cut, action_type_cut, row_cut, PastEnd, OtherKind, ss_type_wrong, action_type_wrong}
use Rattle.layout.specs.Where.{NotGiven, m_bit, AtMBit, Empty, Refuses, one, two, three, four, five, six, seven}
use Rattle.layout.proofs.Frames.{head-length, read_head, write_read}
use Rattle.layout.proofs.Readings.{followed}
use Rattle.layout.proofs.Passing.{length-read, pass}
use Rattle.layout.proofs.Where.{get_or-zero, zeros-zero}
use Rattle.layout.proofs.RowNumbers.{last_by_number, next_by_number, row-by-number, last-by-number, next-by-number}

-- a place at which something else stands than nothing is one of the list
row_inside : (l : List Row) (k : ℕ) → (get_or l k nothing ≡ nothing → ⊥) → k < length l
row_inside [] k h = absurd (h refl)
row_inside (r ∷ l) zero h = omega arith
row_inside (r ∷ l) (suc k) h = let i = row_inside l k h in omega arith

there-nothing : (done : List ℕ) → there done nothing ≡ nothing
unfolding present
there-nothing done = refl

-- where nothing is left of the table, nothing is there
past-table : (kind : Kind) (k : ℕ) (done : List ℕ) → get_or (rows kind) k nothing ≡ nothing → row_at kind k done ≡ nothing
past-table kind k done e = ap (there done) e ∙ there-nothing done

-- ---- reading comes to the row that begins, and is refused there, or goes on behind it
module _ {kind : Kind} {bits : List Bool} {at k : ℕ} {done : List ℕ} {rest : List Bool} (b : Begins kind bits at k done rest) where
  lands : read kind bits ≡ read_rows (drop k (rows kind)) done at rest
  lands =
      ap (read kind) b.parts
      ∙ read_head kind (b.front ++ rest)
      ∙ ap (λ (l : List Row). read_rows l [] 10 (b.front ++ rest)) (sym (take-append-drop k (rows kind)))
      ∙ pass (take k (rows kind)) (drop k (rows kind)) [] 10 b.front rest done b.before
      ∙ ap (λ (n : ℕ). read_rows (drop k (rows kind)) done n rest) (sym b.bit)

  module _ (inside : k < length (rows kind)) where
    stops_at : (n : Refusal) (back : ℕ) → turn (row_at kind k done) rest ≡ stop n back → read kind bits ≡ refused n (at - back)
    unfolding read_rows
    stops_at n back e = lands ∙ rw (drop-cons (rows kind) k nothing inside, e)

    goes_at : (v : ℕ) → turn (row_at kind k done) rest ≡ took v
        → read kind bits
        ≡ read_rows (drop (suc k) (rows kind)) (done ++ (v ∷ [])) (at + (row_at kind k done).width) (drop (row_at kind k done).width rest)
    unfolding read_rows
    goes_at v e = lands ∙ rw (drop-cons (rows kind) k nothing inside, e)

  -- 1
  row_cut_lem : length rest < (row_at kind k done).width → read kind bits ≡ refused EndsInside at
  row_cut_lem cut =
      let inside = row_inside (rows kind) k (λ e. omega (arith, cut, ap (λ (x : Row). x.width) (past-table kind k done e))) in
      stops_at inside EndsInside 0 (rw (lt-ltb (length rest) (row_at kind k done).width cut)) ∙ ap (refused EndsInside) (sub-zero at)

  -- 4: an element whose refusal is that begins where its row does
  plain_back : (on : Bool) → present done (get_or (rows kind) k nothing).hang ≡ on → k < length (rows kind)
      → (row_at kind k done).refusal ≡ Reserved → (row_at kind k done).back ≡ 0
  plain_back false on inside e = rw on
  plain_back true on inside e =
      let plain : (get_or (rows kind) k nothing).refusal ≡ Reserved = rw on at e in
      rw on (ap (λ (x : Row). x.back) (row-by-number kind k inside) ∙ rw plain)

  row-bad : (row_at kind k done).width ≤ length rest → (row_at kind k done).codes ≤ value (take (row_at kind k done).width rest)
      → (row_at kind k done).refusal ≡ Reserved → read kind bits ≡ refused Reserved at
  unfolding value
  row-bad whole code e =
      let r = row_at kind k done in
      let none : get_or (rows kind) k nothing ≡ nothing → 1 ≤ 0 =
      λ q. subst (λ (x : Row). x.codes ≤ value (take x.width rest)) (past-table kind k done q) code in
      let inside = row_inside (rows kind) k (λ q. omega (arith, none q)) in
      let back = plain_back (present done (get_or (rows kind) k nothing).hang) refl inside e in
      stops_at inside r.refusal r.back (rw (le-ltb (length rest) r.width whole, le-ltb (value (take r.width rest)) r.codes code))
      ∙ rw (e, back) (ap (refused Reserved) (sub-zero at))

-- a row of no bits that refuses, behind a row of one bit that was read
module _ {kind : Kind} {bits : List Bool} {at k : ℕ} {done : List ℕ} {bit : Bool} {rest : List Bool} (b : Begins kind bits at k done (bit ∷ rest)) where
  barred : (r : Row) (v : ℕ) (n : Refusal) → row_at kind k done ≡ r → r.width ≡ 1 → turn r (bit ∷ rest) ≡ took v
      → row_at kind (suc k) (done ++ (v ∷ [])) ≡ refuse n 1 [] → read kind bits ≡ refused n at
  unfolding value read_rows
  barred r v n e w t f =
      let now = done ++ (v ∷ []) in
      let none : get_or (rows kind) (suc k) nothing ≡ nothing → ◌≡◌ {A = ℕ} 1 0 = λ q. ap (λ (x : Row). x.codes) (sym (past-table kind (suc k) now q) ∙ f) in
      let inside = row_inside (rows kind) (suc k) (λ q. omega (arith, none q)) in
      let wide : (row_at kind k done).width ≡ 1 = ap (λ (x : Row). x.width) e ∙ w in
      let back : at + 1 - 1 ≡ at = omega arith in
      goes_at b (omega arith) v (ap (λ (x : Row). turn x (bit ∷ rest)) e ∙ t)
      ∙ ap (λ (m : ℕ). read_rows (drop (suc k) (rows kind)) now (at + m) (drop m (bit ∷ rest))) wide
      ∙ (rw (drop-cons (rows kind) (suc k) nothing inside, f, le-ltb (length rest) 0 (omega arith)))
      ∙ ap (refused n) back

-- ---- 2: a frame at the front, and bits behind it
remaining : (kind : Kind) (bits : List Bool) (at : ℕ) → PastEnd kind bits at → read kind bits ≡ refused BitsRemain at
unfolding read_rows write
remaining kind bits at past =
    let front = emit (laid kind past.values) in
    let same : head kind ++ front ≡ take at bits = (write_read kind (take at bits) past.values past.whole).written in
    let own : read_rows (rows kind) [] 10 front ≡ frame past.values = sym (read_head kind front) ∙ ap (read kind) same ∙ past.whole in
    let long = length-take-le at bits (omega (arith, past.more)) in
    let size : at ≡ 10 + length front = omega (arith, ap length same, long, length-append (head kind) front, head-length kind) in
    let parts : bits ≡ head kind ++ (front ++ drop at bits) =
    sym (take-append-drop at bits) ∙ ap (λ (l : List Bool). l ++ drop at bits) (sym same) ∙ append_assoc (head kind) front (drop at bits) in
    ap (read kind) parts
    ∙ read_head kind (front ++ drop at bits)
    ∙ ap (λ (l : List Row). read_rows l [] 10 (front ++ drop at bits)) (sym (append-nil (rows kind)))
    ∙ pass (rows kind) [] [] 10 front (drop at bits) past.values own
    ∙ ap (read_rows [] past.values (10 + length front)) (drop-cons bits at false past.more)
    ∙ ap (refused BitsRemain) (sym size)

-- ---- 5
-- a place that holds something holds it with a value behind
held_on : (l : List ℕ) (q v x : ℕ) → get_or l q 0 ≡ suc x → get_or (l ++ (v ∷ [])) q 0 ≡ suc x
held_on [] q v x e = absurd (omega arith)
held_on (y ∷ l) zero v x e = e
held_on (y ∷ l) (suc q) v x e = held_on l q v x e

not-given : (kind : Kind) (bits : List Bool) (at : ℕ) → NotGiven kind bits at → read kind bits ≡ refused NoGroup at
unfolding present value
not-given kind bits at g =
    let inside = row_inside (rows kind) (suc g.given) (λ none. omega (arith, ap (λ (x : Row). x.codes) (sym g.neither ∙ none))) in
    let last = get_or (rows kind) g.given nothing in
    let yes-no : last ≡ choice 1 2 [] = last-by-number kind (suc g.given) inside ∙ ap (λ (x : Row). last_by_number 0 last x nothing) g.neither in
    let read-in = length-read (take g.given (rows kind)) [] 10 g.begins.front g.done g.begins.before in
    let size : length g.done ≡ g.given = omega (arith, read-in, length-take-le g.given (rows kind) (omega arith)) in
    let given = get_or_at g.done No [] 0 g.given size in
    let related = held_on g.done g.related No 1 g.unrelated in
    barred g.begins (choice 1 2 []) No NoGroup (rw yes-no) refl (rw (le-ltb (suc (length g.rest)) 1 (omega arith))) (rw (g.neither, given, related))

-- ---- 6 and 7: the M-bit, where the O-bit was 1
module _ {kind : Kind} {bits : List Bool} {at : ℕ} {bit : Bool} (m : AtMBit kind bits at bit) where
  here : row_at kind m.place m.done ≡ bare (m_bit m.o)
  unfolding present
  here = rw m.ending (rw m.opened)

  inside : m.place < length (rows kind)
  inside = row_inside (rows kind) m.place (λ e. omega (arith, ap (λ (x : Row). x.width) (sym m.ending ∙ e)))

  whole : ltb (suc (length m.rest)) 1 ≡ false
  whole = le-ltb (suc (length m.rest)) 1 (omega arith)

m-bit-clear : (kind : Kind) (bits : List Bool) (at : ℕ) → Empty kind bits at → read kind bits ≡ refused NothingFollows at
unfolding present value
m-bit-clear kind bits at e =
    let m = e.closes in
    let more = get_or (rows kind) (suc m.place) nothing in
    let next : more ≡ followed m.o = next-by-number kind m.place (inside m) ∙ ap (λ (x : Row). next_by_number 0 nothing x more) m.ending in
    barred m.begins (bare (m_bit m.o)) 0 NothingFollows (here m) refl (rw (whole m))
    (rw (next, zeros-zero m.done (suc m.o), e.nothing_came, get_or-zero m.done m.o, m.opened))

m-bit-set : (kind : Kind) (bits : List Bool) (at : ℕ) → AtMBit kind bits at true → read kind bits ≡ refused TypeThree at
unfolding value
m-bit-set kind bits at m =
    stops_at m.begins (inside m) TypeThree 0 (ap (λ (x : Row). turn x (true ∷ m.rest)) (here m) ∙ rw (whole m))
    ∙ ap (refused TypeThree) (sub-zero at)

-- ---- the head
wrong-head : (kind : Kind) (bits : List Bool) (at : ℕ) → OtherKind kind bits at → read kind bits ≡ refused WrongKind at
unfolding read
wrong-head kind bits at (ss_type_wrong place long e) =
    rw (le-ltb (length bits) 6 (omega arith), le-ltb (length bits) 10 long, ne_eqb (value (take 6 bits)) ss_type e, place)
wrong-head kind bits at (action_type_wrong place long e f) =
    rw (
      le-ltb (length bits) 6 (omega arith),
      le-ltb (length bits) 10 long,
      eq-eqb (value (take 6 bits)) ss_type e,
      ne_eqb (value (take 4 (drop 6 bits))) (action_type kind) f,
      place,
    )

cut_short : (kind : Kind) (bits : List Bool) (at : ℕ) → Cut kind bits at → read kind bits ≡ refused EndsInside at
unfolding read
cut_short kind bits at (ss_type_cut place short) = rw (lt-ltb (length bits) 6 short, place)
cut_short kind bits at (action_type_cut place long short) = rw (le-ltb (length bits) 6 long, lt-ltb (length bits) 10 short, place)
cut_short kind bits at (row_cut k done rest b cut) = row_cut_lem b cut

-- ---- what P2 says of the bits is what the reader answers
pub so-refused : (kind : Kind) (bits : List Bool) (n : Refusal) (at : ℕ) → Refuses kind bits n at → read kind bits ≡ refused n at
so-refused kind bits n at (one e c) = rw e (cut_short kind bits at c)
so-refused kind bits n at (two e p) = rw e (remaining kind bits at p)
so-refused kind bits n at (three e o) = rw e (wrong-head kind bits at o)
so-refused kind bits n at (four e m) = rw e (row-bad m.begins m.whole m.code m.reserved)
so-refused kind bits n at (five e g) = rw e (not-given kind bits at g)
so-refused kind bits n at (six e m) = rw e (m-bit-clear kind bits at m)
so-refused kind bits n at (seven e m) = rw e (m-bit-set kind bits at m)
