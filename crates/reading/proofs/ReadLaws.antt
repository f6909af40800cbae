-- Reading, row by row: laws over the rows that a step goes over.
-- Assumes nothing.
use Prim.Native.Nat.{ℕ, ◌+◌, ◌-◌, ◌*◌, ◌≤◌, ◌<◌}
use mathlib.Core.Path.{◌≡◌, refl, ap, sym, ◌∙◌, subst}
use mathlib.Core.Bool.{Bool, true, false, cond}
use mathlib.Core.List.{List, [], ◌∷◌, ◌++◌, append_assoc}
use mathlib.Core.Logic.{◌⊎◌, inl, inr}
use native.Mathlib.Nat.{add-zero, sub-zero}
use native.Mathlib.Numerals.{add-one}
use native.Mathlib.Decide.{dec_lt}
use native.Mathlib.Omega.{arith}
use borrow.Author.Tests.{le-ltb, lt-ltb}
use lib.Dec.{ltb}
use lib.ListN.{length, take, drop, get_or, set, length-append, length-drop, length-set}
use lib.Seq.{take-suc, take-suc-set, drop-drop, drop-set-lt, take-set-le, take-take, length-take-le}
use Rattle.bits.specs.Bits.{value, bits_of}
use Rattle.bits.specs.Field.{field_at}
use Rattle.bits.proofs.Laws.{length-bits_of, field_cut, field-value}
use Rattle.refusal.specs.declared.Refusal.{Refusal}
use Rattle.refusal.specs.declared.Refusal.TheVariants.{EndsInside}
use Rattle.table.specs.declared.Field.{Field}
use Rattle.layout.specs.declared.Refused.{Refused}
use Rattle.std.specs.Prelude.{Option, Some, None, Result, Ok, Err}
use Rattle.layout.specs.Row.{Row, Condition, holds, all, present}
use Rattle.layout.specs.Read.{took, stop, turn, read_rows}
use Rattle.layout.specs.Shape.{row}
use Rattle.layout.proofs.Tests.{all_append, and-true}
use Rattle.table.proofs.Walks.{Walk}
use Rattle.table.specs.Fields.{row_for, Narrow}
use Rattle.reading.specs.Reads.{whole, onward, Reads}

-- ---- one row
module _ (r : Row) (bits : List Bool) (at p : ℕ) (vs : List ℕ) (inside : p < length vs) where
  -- a row that is not there: its place, which holds 0, is passed
  pub row-off : present (take p vs) r.hang ≡ false → get_or vs p 0 ≡ 0 → Reads (r ∷ []) bits at p vs vs (Ok at)
  unfolding read_rows value
  row-off e z =
      record {
        same = λ rest. rw (e, le-ltb (length (drop at bits)) 0 (omega arith), add-zero at, add-one p, take-suc vs p 0 inside, z);
        before = refl;
        stays = refl;
        size = refl;
      }

  -- a row that is there, and its value
  pub row-took : present (take p vs) r.hang ≡ true → (v : ℕ) → turn r (drop at bits) ≡ took v
      → Reads (r ∷ []) bits at p vs (set vs p v) (Ok (at + r.width))
  unfolding read_rows
  row-took e v t =
      record {
        same = λ rest. rw (e, t, drop-drop, add-one p, take-suc-set vs p v inside);
        before = take-set-le p vs p v (omega arith);
        stays = drop-set-lt (p + 1) vs p v (omega arith);
        size = length-set vs p v;
      }

  -- a row that is there, and is refused
  pub row-stop : present (take p vs) r.hang ≡ true → (n : Refusal) (back : ℕ) → turn r (drop at bits) ≡ stop n back
      → Reads (r ∷ []) bits at p vs vs (Err (record { refusal = n; bit = at - back }))
  unfolding read_rows
  row-stop e n back t = record { same = λ rest. rw (e, t); before = refl; stays = refl; size = refl }

-- ---- rows after rows
module _ (a b : List Row) (bits : List Bool) (at p : ℕ) (vs vs₁ : List ℕ) where
  joined : p + length a + length b ≡ p + length (a ++ b)
  joined = omega (arith, length-append a b)

  still : drop (p + length a) vs₁ ≡ drop (p + length a) vs → drop (p + length a + length b) vs₁ ≡ drop (p + length a + length b) vs
  still e = sym (drop-drop (length b) (p + length a) vs₁) ∙ ap (drop (length b)) e ∙ drop-drop (length b) (p + length a) vs

  pub reads_on : (at₁ : ℕ) (vs₂ : List ℕ) (s : Result ℕ Refused) → Reads a bits at p vs vs₁ (Ok at₁) → Reads b bits at₁ (p + length a) vs₁ vs₂ s
      → Reads (a ++ b) bits at p vs vs₂ s
  reads_on at₁ vs₂ s f g =
      let take-of : take (p + length a) vs₂ ≡ take (p + length a) vs₁ → take p vs₂ ≡ take p vs₁ =
      λ e. sym (take-take p (p + length a) vs₂ (omega arith)) ∙ ap (take p) e ∙ take-take p (p + length a) vs₁ (omega arith) in
      record {
        same = λ rest. ap (λ (l : List Row). read_rows l (take p vs) at (drop at bits)) (append_assoc a b rest)
            ∙ f.same (b ++ rest) ∙ g.same rest ∙ ap (λ (n : ℕ). onward rest bits (take n vs₂) s) joined;
        before = take-of g.before ∙ f.before;
        stays = subst (λ (n : ℕ). drop n vs₂ ≡ drop n vs) joined (g.stays ∙ still f.stays);
        size = g.size ∙ f.size;
      }

  pub reads-stop : (r : Refused) → Reads a bits at p vs vs₁ (Err r) → Reads (a ++ b) bits at p vs vs₁ (Err r)
  reads-stop r f =
      record {
        same = λ rest. ap (λ (l : List Row). read_rows l (take p vs) at (drop at bits)) (append_assoc a b rest) ∙ f.same (b ++ rest);
        before = f.before;
        stays = subst (λ (n : ℕ). drop n vs₁ ≡ drop n vs) joined (still f.stays);
        size = f.size;
      }

-- over no rows nothing happens
pub reads_none : (bits : List Bool) (at p : ℕ) (vs : List ℕ) → Reads [] bits at p vs vs (Ok at)
reads_none bits at p vs = record { same = λ rest. rw (add-zero p); before = refl; stays = refl; size = refl }

-- ---- a field is the row's bits
-- what taking a field finds
abbrev pub Seen : List ℕ → ℕ → ℕ → ℕ → Option ℕ → Type 0
Seen bytes count at w (Some v) = (at + w ≤ count) × (v ≡ value (take w (drop at (whole bytes count))))
Seen bytes count at w None = count < at + w

pub seen : (bytes : List ℕ) (count at w : ℕ) → count ≤ 8 * length bytes → w ≤ 32 → (t : Option ℕ) → t ≡ field_at bytes count at w → Seen bytes count at w t
seen bytes count at w lent few t e = subst (Seen bytes count at w) (sym e) (go (dec_lt count (at + w)))
  where
    go : Dec (count < at + w) → Seen bytes count at w (field_at bytes count at w)
    go (yes l) = subst (Seen bytes count at w) (sym (field_cut bytes count at w l)) l
    go (no l) = subst (Seen bytes count at w) (sym (field-value bytes count at w lent (omega arith) few)) (omega arith, refl)

pub whole_length : (bytes : List ℕ) (count : ℕ) → count ≤ 8 * length bytes → length (whole bytes count) ≡ count
whole_length bytes count lent = length-take-le count (bits_of bytes) (omega (arith, length-bits_of bytes))

-- what the row's turn then is
abbrev Found : Row → List ℕ → ℕ → ℕ → Option ℕ → Type 0
Found r bytes count at (Some v) = turn r (drop at (whole bytes count)) ≡ cond (ltb v r.codes) (took (r.first + v)) (stop r.refusal r.back)
Found r bytes count at None = turn r (drop at (whole bytes count)) ≡ stop EndsInside 0

module _ (r : Row) (bytes : List ℕ) (count at : ℕ) (lent : count ≤ 8 * length bytes) (some : 0 < r.width) where
  left_over : length (drop at (whole bytes count)) ≡ count - at
  left_over = length-drop at (whole bytes count) ∙ ap (λ (n : ℕ). n - at) (whole_length bytes count lent)

  found : (t : Option ℕ) → Seen bytes count at r.width t → Found r bytes count at t
  found (Some v) s = rw (le-ltb (length (drop at (whole bytes count))) r.width (omega (arith, left_over, s.0)), ← s.1)
  found None s = rw (lt-ltb (length (drop at (whole bytes count))) r.width (omega (arith, left_over)))

module _ (f : Field) (bytes : List ℕ) (count at p : ℕ) (vs : List ℕ) (lent : count ≤ 8 * length bytes) (narrow : Narrow f) where
  met : (t : Option ℕ) → t ≡ field_at bytes count at f.width → Found (row_for f []) bytes count at t
  met t e = found (row_for f []) bytes count at lent narrow.some t (seen bytes count at f.width lent narrow.few t e)

  pub field_end : (v : ℕ) → Some v ≡ field_at bytes count at f.width → at + f.width ≤ count
  field_end v e = (seen bytes count at f.width lent narrow.few (Some v) e).0

  module _ (inside : p < length vs) where
    pub field-good : (v : ℕ) → Some v ≡ field_at bytes count at f.width → v < f.codes
        → Reads (row_for f [] ∷ []) (whole bytes count) at p vs (set vs p (f.first + v)) (Ok (at + f.width))
    unfolding present
    field-good v e l =
        row-took (row_for f []) (whole bytes count) at p vs inside refl (f.first + v) (met (Some v) e ∙ rw (lt-ltb v f.codes l))

    stopped : (n : Refusal) → turn (row_for f []) (drop at (whole bytes count)) ≡ stop n 0
        → Reads (row_for f [] ∷ []) (whole bytes count) at p vs vs (Err (record { refusal = n; bit = at }))
    unfolding present
    stopped n t =
        subst (λ (x : ℕ). Reads (row_for f [] ∷ []) (whole bytes count) at p vs vs (Err (record { refusal = n; bit = x }))) (sub-zero at)
        (row-stop (row_for f []) (whole bytes count) at p vs inside refl n 0 t)

    pub field-bad : (v : ℕ) → Some v ≡ field_at bytes count at f.width → f.codes ≤ v
        → Reads (row_for f [] ∷ []) (whole bytes count) at p vs vs (Err (record { refusal = f.refusal; bit = at }))
    field-bad v e l = stopped f.refusal (met (Some v) e ∙ rw (le-ltb v f.codes l))

    pub field-short : None ≡ field_at bytes count at f.width → Reads (row_for f [] ∷ []) (whole bytes count) at p vs vs (Err (record { refusal = EndsInside; bit = at }))
    field-short e = stopped EndsInside (met None e)

-- a row is read under more conditions, which hold, as it is read without
module _ (w first codes : ℕ) (n : Refusal) (back : ℕ) (own hang : List Condition) (more : List Row)
    (bits : List Bool) (at p : ℕ) (vs vs' : List ℕ) (s : Result ℕ Refused) where
  pub reads-under : present (take p vs) hang ≡ true → Reads (row w first codes n back own ∷ more) bits at p vs vs' s
      → Reads (row w first codes n back (own ++ hang) ∷ more) bits at p vs vs' s
  unfolding read_rows present
  reads-under e f =
      let done = take p vs in
      record {
        same = λ rest. rw (all_append (holds done) own hang, e, and-true (all (holds done) own)) (f.same rest);
        before = f.before;
        stays = f.stays;
        size = f.size;
      }

-- ---- reading is a walk
abbrev pub Stop : Result ℕ Refused → Type 0
Stop (Ok at) = ⊥
Stop (Err r) = Unit {0}

pub told : (s : Result ℕ Refused) → ((at : ℕ) × (s ≡ Ok at)) ⊎ Stop s
told (Ok at) = inl (at, refl)
told (Err r) = inr tt

pub reads-after : (a b : List Row) (bits : List Bool) (at p : ℕ) (vs vs₁ : List ℕ) (s : Result ℕ Refused)
    → Stop s → Reads a bits at p vs vs₁ s → Reads (a ++ b) bits at p vs vs₁ s
reads-after a b bits at p vs vs₁ (Err r) h f = reads-stop a b bits at p vs vs₁ r f
reads-after a b bits at p vs vs₁ (Ok at₁) h f = absurd h

abbrev pub reading : List Bool → Walk
reading bits =
    record {
      State = List ℕ;
      Result = Result ℕ Refused;
      next = Ok;
      Stops = Stop;
      told = told;
      values = λ vs. vs;
      Goes = λ rows at p vs vs' s. Reads rows bits at p vs vs' s;
      none = reads_none bits;
      off = λ r at p vs. row-off r bits at p vs;
      join = λ a b at at₁ p vs vs₁ vs₂ s. reads_on a b bits at p vs vs₁ at₁ vs₂ s;
      stop = λ a b at p vs vs₁ s. reads-after a b bits at p vs vs₁ s;
      under = λ w first codes n back own hang more at p vs vs' s. reads-under w first codes n back own hang more bits at p vs vs' s;
      before = λ rows at at₁ p vs vs' f. f.before;
      stays = λ rows at at₁ p vs vs' f. f.stays;
      size = λ rows at p vs vs' s f. f.size;
    }
