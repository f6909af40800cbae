-- The reader's loop over a table's elements: the rest, read from where it stands, is what the whole is read as.
-- Assumes nothing.
use Prim.Native.Nat.{ℕ, suc, ◌+◌, ◌-◌, ◌*◌, ◌≤◌, ◌<◌}
use mathlib.Core.Path.{◌≡◌, refl, ap, ap₂, sym, ◌∙◌}
use mathlib.Core.Bool.{Bool, false}
use mathlib.Core.List.{List, [], ◌∷◌, ◌++◌}
use native.Mathlib.Omega.{arith}
use borrow.Author.Tests.{lt-ltb, le-ltb}
use lib.ListN.{length, take, drop, get_or, replicate, length-drop, take-append-drop, drop_of_length-le}
use lib.Seq.{drop-cons, get_or-drop, length-take-le}
use Rattle.refusal.specs.declared.Refusal.TheVariants.{EndsInside, BitsRemain, WrongKind}
use Rattle.bits.specs.Bits.{value}
use Rattle.layout.specs.declared.Element.{Element}
use Rattle.layout.specs.declared.Kind.{Kind}
use Rattle.layout.specs.declared.Refused.{Refused}
use Rattle.std.specs.Prelude.{Result, Ok, Err}
use Rattle.layout.specs.Row.{Row}
use Rattle.layout.specs.Read.{frame, refused, read_rows}
use Rattle.layout.specs.Shape.{conditions_of, rows_of, span, unrolled}
use Rattle.layout.specs.Kinds.{table_of, ss_type, action_type}
use Rattle.layout.specs.Frame.{places, rows, read, read_bytes, as_reading, reading_of}
use Rattle.layout.specs.Where.{ss_type_cut, action_type_cut, ss_type_wrong, action_type_wrong, one, three}
use Rattle.layout.proofs.Frames.{read_head, head-drop}
use Rattle.layout.proofs.WhereExact.{so-refused}
use Rattle.table.specs.Sound.{Clear}
use Rattle.reading.specs.Reads.{whole, onward, Reads}
use Rattle.reading.proofs.ReadLaws.{reading, whole_length}
use Rattle.table.proofs.Absent.{length-shape}
use Rattle.table.proofs.Walks.{clear_none, clear-after}
use Rattle.table.proofs.TableLaws.{Placed, placed-none, element-rows, element-more}

-- the element k of the kind is the next
pub record Going (kind : Kind) (bits : List Bool) (from : ℕ) (vs : List ℕ) (at p k : ℕ) : Type 0 where
  pub same : read_rows (rows kind) [] from (drop from bits) ≡ read_rows (unrolled (drop k (table_of kind)) p) (take p vs) at (drop at bits)
  pub placed : Placed (table_of kind) p k
  pub clear : Clear vs p
  pub size : length vs ≡ places

all-zero : (l : List ℕ) → ((q : ℕ) → get_or l q 0 ≡ 0) → l ≡ replicate (length l) 0
all-zero [] z = refl
all-zero (x ∷ l) z = ap₂ ◌∷◌ (z 0) (all-zero l (λ q. z (suc q)))

pub going-none : (kind : Kind) (bits : List Bool) (from : ℕ) → Going kind bits from (replicate places 0) from 0 0
unfolding rows
going-none kind bits from = record { same = refl; placed = placed-none kind; clear = clear_none places 0; size = refl }

module _ {kind : Kind} {bits : List Bool} {from : ℕ} {vs : List ℕ} {at p k : ℕ} (now : Going kind bits from vs at p k) where
  -- ---- a turn: the element k, by what its reading finds
  module _ (d : Element) (inside : k < length (table_of kind)) {vs' : List ℕ} {s : Result ℕ Refused}
      (f : Reads (rows_of (get_or (table_of kind) k d).1 (conditions_of (get_or (table_of kind) k d).0) p) bits at p vs vs' s) where
    abbrev e : Element
    e = get_or (table_of kind) k d

    rest : List Row
    rest = unrolled (drop (k + 1) (table_of kind)) (p + span e.1)

    on : read_rows (rows kind) [] from (drop from bits) ≡ onward rest bits (take (p + length (rows_of e.1 (conditions_of e.0) p)) vs') s
    unfolding rest
    on =
        now.same
        ∙ ap (λ (l : List Row). read_rows l (take p vs) at (drop at bits)) (element-rows d now.placed inside)
        ∙ f.same rest

    pub turn-next : {at' : ℕ} → s ≡ Ok at' → Going kind bits from vs' at' (p + span e.1) (k + 1)
    unfolding rest
    turn-next {at'} t =
        let size : length (rows_of e.1 (conditions_of e.0) p) ≡ span e.1 = length-shape e.1 (conditions_of e.0) p in
        record {
          same = on ∙ ap (onward rest bits _) t ∙ ap (λ (m : ℕ). read_rows rest (take (p + m) vs') at' (drop at' bits)) size;
          placed = element-more d now.placed inside;
          clear = λ q h. clear-after (reading bits) (rows_of e.1 (conditions_of e.0) p) at at' p vs vs' s t f now.clear q (omega arith);
          size = f.size ∙ now.size;
        }

    pub turn-stop : {r : Refused} → s ≡ Err r → read_rows (rows kind) [] from (drop from bits) ≡ refused r.refusal r.bit
    turn-stop t = on ∙ ap (onward rest bits _) t

  -- ---- after the last element
  module _ (over : length (table_of kind) ≤ k) where
    last : read_rows (rows kind) [] from (drop from bits) ≡ read_rows [] (take p vs) at (drop at bits)
    unfolding unrolled
    last =
        now.same
        ∙ ap (λ (l : List Element). read_rows (unrolled l p) (take p vs) at (drop at bits)) (drop_of_length-le (table_of kind) {i = k} over)

    pub going-over : at < length bits → read_rows (rows kind) [] from (drop from bits) ≡ refused BitsRemain at
    unfolding read_rows
    going-over h = last ∙ rw (drop-cons bits at false h)

    -- the values are the record so far and 0s
    whole-record : take p vs ++ replicate (places - length (take p vs)) 0 ≡ vs
    whole-record =
        let low : p ≤ places = omega (arith, now.placed.room) in
        let n : length (take p vs) ≡ p = length-take-le p vs (omega (arith, now.size)) in
        let left : places - length (take p vs) ≡ length (drop p vs) = omega (arith, n, now.size, length-drop p vs) in
        let zeros = all-zero (drop p vs) (λ q. get_or-drop p vs q 0 ∙ now.clear (p + q) (omega arith)) in
        ap (λ (m : ℕ). take p vs ++ replicate m 0) left
        ∙ ap (λ (l : List ℕ). take p vs ++ l) (sym zeros)
        ∙ take-append-drop p vs

    pub going_end : length bits ≤ at
        → as_reading (read_rows (rows kind) [] from (drop from bits)) ≡ Ok (record { place = vs })
    unfolding read_rows as_reading
    going_end h =
        let done : read_rows [] (take p vs) at (drop at bits) ≡ frame (take p vs) = rw (drop_of_length-le bits {i = at} h) in
        ap as_reading (last ∙ done)
        ∙ ap (λ (l : List ℕ). Ok (record { place = l })) whole-record

-- ---- the head, by what a frame's bits say of it
module _ (kind : Kind) (bytes : List ℕ) (count : ℕ) (lent : count ≤ 8 * length bytes) where
  size : length (whole bytes count) ≡ count
  size = whole_length bytes count lent

  pub head-cut : count < 6 → read kind (whole bytes count) ≡ refused EndsInside 0
  head-cut h = so-refused kind (whole bytes count) EndsInside 0 (one refl (ss_type_cut refl (omega (arith, size))))

  pub head-short : 6 ≤ count → count < 10 → read kind (whole bytes count) ≡ refused EndsInside 6
  head-short l h = so-refused kind (whole bytes count) EndsInside 6 (one refl (action_type_cut refl (omega (arith, size)) (omega (arith, size))))

  module _ (l : 10 ≤ count) (ss action : ℕ) (s : ss ≡ value (take 6 (whole bytes count))) (a : action ≡ value (take 4 (drop 6 (whole bytes count)))) where
    long : 10 ≤ length (whole bytes count)
    long = omega (arith, size)

    pub head-type : (ss ≡ ss_type → ⊥) → read kind (whole bytes count) ≡ refused WrongKind 0
    head-type h = so-refused kind (whole bytes count) WrongKind 0 (three refl (ss_type_wrong refl long (λ e. h (s ∙ e))))

    pub head-action : ss ≡ ss_type → (action ≡ action_type kind → ⊥) → read kind (whole bytes count) ≡ refused WrongKind 6
    head-action e h = so-refused kind (whole bytes count) WrongKind 6 (three refl (action_type_wrong refl long (sym s ∙ e) (λ f. h (a ∙ f))))

    pub head-good : ss ≡ ss_type → action ≡ action_type kind → read kind (whole bytes count) ≡ read_rows (rows kind) [] 10 (drop 10 (whole bytes count))
    head-good e f =
        ap (read kind) (sym (head-drop kind (whole bytes count) long (sym s ∙ e) (sym a ∙ f))) ∙ read_head kind (drop 10 (whole bytes count))

-- ---- the whole
pub reading-lent : (kind : Kind) (bytes : List ℕ) (count : ℕ) → 8 * length bytes < count → as_reading (refused EndsInside 0) ≡ reading_of kind bytes count
unfolding reading_of read_bytes
reading-lent kind bytes count h = rw (lt-ltb (8 * length bytes) count h)

pub reading-enough : (kind : Kind) (bytes : List ℕ) (count : ℕ) → count ≤ 8 * length bytes → as_reading (read kind (whole bytes count)) ≡ reading_of kind bytes count
unfolding reading_of read_bytes
reading-enough kind bytes count h = rw (le-ltb (8 * length bytes) count h)

pub reading-on : (kind : Kind) (bits : List Bool) (s t : Result ℕ Refused) → read kind bits ≡ onward (rows kind) bits [] s → s ≡ t
    → as_reading (onward (rows kind) bits [] t) ≡ as_reading (read kind bits)
reading-on kind bits s t e d = ap as_reading (ap (onward (rows kind) bits []) (sym d) ∙ sym e)
