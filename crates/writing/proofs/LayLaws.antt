-- Writing, row by row: laws over the rows that a walk passes, whichever of the two it is.
-- Assumes nothing.
use Rattle.std.proofs.Common.{◌≡◌, ℕ, suc, ◌+◌, ◌-◌, ◌*◌, ◌%◌, ◌^◌, ◌<◌, ◌≤◌, Bool, true, false, ◌&&◌, ltb, leb, ◌⊎◌, Option, Some, None, List, []}
use Rattle.std.proofs.Common.{◌∷◌, ◌++◌, length, get_or, take, drop, set, sym, refl, ap, ◌∙◌, subst, ap₂, inl, inr, append_assoc, append-nil}
use Rattle.std.proofs.Common.{add-zero, add_assoc, add-one, arith, length-append, length-set, take-append-drop, length-take-le, get_or-drop, take-suc}
use Rattle.std.proofs.Common.{take-take, drop-drop, take-suc-set, take_at, drop-set-lt, drop_at, le-ltb, lt-ltb, le-leb, leb-true}
use mathlib.Core.List.{tail}
use lib.Seq.{take-set-le, drop-nil}
use Rattle.bits.specs.Bits.{digits, bits_of}
use Rattle.bits.specs.Field.{put_at}
use Rattle.bits.proofs.Laws.{length_digits, length-bits_of, length-put_at, put-bits}
use Rattle.refusal.specs.declared.Refusal.{Refusal}
use Rattle.writing.specs.Pass.{Pass, Judge, Lay}
use Rattle.layout.specs.Row.{Row, Condition, holds, all, nothing, bare, present, there}
use Rattle.layout.specs.Write.{Laid, held, lay, good, good_but_group, vals, emit}
use Rattle.layout.specs.Shape.{row}
use Rattle.layout.proofs.Tests.{and-false, and-true, all_append, both_true}
use Rattle.table.proofs.Walks.{Walk}
use Rattle.writing.specs.Lay.{Lent, Stays, Over, Does, Finds, Lies, Ends, Lays}
use Rattle.table.specs.Fields.{row_for, Narrow}
use Rattle.table.specs.declared.Field.{Field}

-- ---- lists
pub vals-append : (a b : List Laid) → vals (a ++ b) ≡ vals a ++ vals b
unfolding vals
vals-append [] b = refl
vals-append (x ∷ a) b = ap (λ (l : List ℕ). x.val ∷ l) (vals-append a b)

emit-append : (a b : List Laid) → emit (a ++ b) ≡ emit a ++ emit b
unfolding emit
emit-append [] b = refl
emit-append (x ∷ a) b =
    let d = digits x.row.width (x.val - x.row.first) in
    ap (λ (l : List Bool). d ++ l) (emit-append a b) ∙ sym (append_assoc d (emit a) (emit b))

drop-tail : (n : ℕ) (s : List ℕ) → drop n (tail s) ≡ drop (suc n) s
drop-tail n [] = drop-nil n
drop-tail n (x ∷ s) = refl

pub lay-append : (a b : List Row) (done s : List ℕ) → lay (a ++ b) done s ≡ lay a done s ++ lay b (done ++ vals (lay a done s)) (drop (length a) s)
unfolding lay vals
lay-append [] b done s = ap (λ (l : List ℕ). lay b l s) (sym (append-nil done))
lay-append (r ∷ a) b done s =
    let h = there done r in
    let v = held h (get_or s 0 0) in
    let more = lay a (done ++ (v ∷ [])) (tail s) in
    ap (λ (l : List Laid). record { row = h; val = v } ∷ l)
    (lay-append a b (done ++ (v ∷ [])) (tail s)
    ∙ ap (λ (l : List ℕ). more ++ lay b l (drop (length a) (tail s))) (append_assoc done (v ∷ []) (vals more))
    ∙ ap (λ (l : List ℕ). more ++ lay b (done ++ (v ∷ vals more)) l) (drop-tail (length a) s))

-- ---- new bits over old
pub over_none : (out : List ℕ) (at : ℕ) → Over out out at []
over_none out at =
    record {
      size = refl;
      bits = λ h. sym (take-append-drop at (bits_of out)) ∙ ap (λ (n : ℕ). take at (bits_of out) ++ drop n (bits_of out)) (sym (add-zero at));
    }

pub over-put : (out : List ℕ) (at w v : ℕ) → w ≤ 32 → Over out (put_at out at w v) at (digits w v)
over-put out at w v h =
    record {
      size = length-put_at out at w v;
      bits = λ r. put-bits out at w v (omega (arith, r, length_digits w v)) h
          ∙ append_assoc (take at (bits_of out)) (digits w v) (drop (at + w) (bits_of out))
          ∙ ap (λ (n : ℕ). take at (bits_of out) ++ (digits w v ++ drop (at + n) (bits_of out))) (sym (length_digits w v));
    }

module _ (out out₁ out₂ : List ℕ) (at : ℕ) (a b : List Bool) (f : Over out out₁ at a) (g : Over out₁ out₂ (at + length a) b) where
  pub over-join : Over out out₂ at (a ++ b)
  over-join =
      record {
        size = g.size ∙ f.size;
        bits = λ h.
            let l : length a + length b ≡ length (a ++ b) = sym (length-append a b) in
            let fits : at + length a ≤ 8 * length out = omega arith in
            let fits₁ : at + length a + length b ≤ 8 * length out₁ = omega (arith, f.size) in
            let x : List Bool = bits_of out in
            let before : List Bool = take at x ++ a in
            let rest : List Bool = drop (at + length a) x in
            let size : length before ≡ at + length a =
            length-append (take at x) a ∙ ap (λ (n : ℕ). n + length a) (length-take-le at x (omega (arith, length-bits_of out))) in
            let first : bits_of out₁ ≡ before ++ rest = f.bits fits ∙ sym (append_assoc (take at x) a rest) in
            let front : take (at + length a) (bits_of out₁) ≡ before = ap (take (at + length a)) first ∙ take_at before rest (at + length a) size in
            let back : drop (at + length a + length b) (bits_of out₁) ≡ drop (at + length (a ++ b)) x =
            sym (drop-drop (length b) (at + length a) (bits_of out₁))
            ∙ ap (drop (length b)) (ap (drop (at + length a)) first ∙ drop_at before rest (at + length a) size)
            ∙ drop-drop (length b) (at + length a) x
            ∙ ap (λ (n : ℕ). drop n x) (add_assoc at (length a) (length b) ∙ ap (λ (n : ℕ). at + n) l) in
            g.bits fits₁
            ∙ ap₂ (λ (u v : List Bool). u ++ (b ++ v)) front back
            ∙ append_assoc (take at x) a (b ++ drop (at + length (a ++ b)) x)
            ∙ ap (λ (u : List Bool). take at x ++ u) (sym (append_assoc a b (drop (at + length (a ++ b)) x)));
      }

-- ---- what a walk does
does-none : (pass : Pass) (out : Lent) (at : ℕ) → Does pass [] at out out
unfolding emit
does-none Judge out at = tt
does-none Lay out at = λ _. over_none out.bytes at

does-join : (pass : Pass) (a b : List Laid) (at at₁ : ℕ) (out out₁ out₂ : Lent) → at₁ ≡ at + length (emit a) → Does pass a at out out₁
    → Does pass b at₁ out₁ out₂ → Does pass (a ++ b) at out out₂
does-join Judge a b at at₁ out out₁ out₂ e f g = tt
does-join Lay a b at at₁ out out₁ out₂ e f g = λ h.
    let two = both_true (all good a) (all good b) (sym (all_append good a b) ∙ h) in
    subst (λ (l : List Bool). Over out.bytes out₂.bytes at l) (sym (emit-append a b))
    (over-join out.bytes out₁.bytes out₂.bytes at (emit a) (emit b) (f two.0) (subst (λ (x : ℕ). Over out₁.bytes out₂.bytes x (emit b)) e (g two.1)))

-- what is held, and held on
pub stays_none : {out : Lent} → Stays out out
stays_none = record { size = refl; same = refl }

pub stays_on : {out out₁ out₂ : Lent} → Stays out out₁ → Stays out₁ out₂ → Stays out out₂
stays_on f g = record { size = g.size ∙ f.size; same = g.same ∙ f.same }

-- of a walk that judges; the other asks nothing
pub finds : (pass : Pass) {A : Type 0} → A → Finds pass A
finds Judge a = a
finds Lay a = tt

pub finds_on : (pass : Pass) {A B : Type 0} → (A → B) → Finds pass A → Finds pass B
finds_on Judge f a = f a
finds_on Lay f a = tt

pub finds_by : (pass : Pass) {A B C : Type 0} → (A → B → C) → Finds pass A → Finds pass B → Finds pass C
finds_by Judge f a b = f a b
finds_by Lay f a b = tt

-- ---- rows after rows
pub lies-none : (pass : Pass) (at p : ℕ) (vs : List ℕ) (out : Lent) → Lies pass [] 0 at at p vs vs out out
unfolding vals emit
lies-none pass at p vs out =
    let front : take (p + 0) vs ≡ take p vs ++ [] = ap (λ (n : ℕ). take n vs) (add-zero p) ∙ sym (append-nil (take p vs)) in
    record { on = sym (add-zero at); front = front; before = refl; stays = refl; does = does-none pass out at }

module _ (pass : Pass) (a b : List Laid) (n m at at₁ at₂ p : ℕ) (vs vs₁ vs₂ : List ℕ) (out out₁ out₂ : Lent) where
  pub lies-join : Lies pass a n at at₁ p vs vs₁ out out₁ → Lies pass b m at₁ at₂ (p + n) vs₁ vs₂ out₁ out₂ → Lies pass (a ++ b) (n + m) at at₂ p vs vs₂ out out₂
  lies-join f g =
      record {
        on = g.on ∙ omega (arith, f.on, ap length (emit-append a b), length-append (emit a) (emit b));
        front =
            ap (λ (x : ℕ). take x vs₂) (sym (add_assoc p n m)) ∙ g.front ∙ ap (λ (l : List ℕ). l ++ vals b) f.front
            ∙ append_assoc (take p vs) (vals a) (vals b) ∙ ap (λ (l : List ℕ). take p vs ++ l) (sym (vals-append a b));
        before = sym (take-take p (p + n) vs₂ (omega arith)) ∙ ap (take p) g.before ∙ take-take p (p + n) vs₁ (omega arith) ∙ f.before;
        stays =
            ap (λ (x : ℕ). drop x vs₂) (sym (add_assoc p n m)) ∙ g.stays ∙ sym (drop-drop m (p + n) vs₁) ∙ ap (drop m) f.stays
            ∙ drop-drop m (p + n) vs ∙ ap (λ (x : ℕ). drop x vs) (add_assoc p n m);
        does = does-join pass a b at at₁ out out₁ out₂ f.on f.does g.does;
      }

-- over no rows nothing happens
pub lays-none : (pass : Pass) (s : List ℕ) (at p : ℕ) (vs : List ℕ) (out : Lent) → Lays pass [] s at p vs vs out out (Some at)
unfolding lay
lays-none pass s at p vs out = record { size = refl; ends = (lies-none pass at p vs out, finds pass refl) }

-- the passing of rows after rows
module _ (pass : Pass) (a b : List Row) (s : List ℕ) (at at₁ p : ℕ) (vs vs₁ vs₂ : List ℕ) (out out₁ out₂ : Lent)
    (f : Lays pass a s at p vs vs₁ out out₁ (Some at₁)) where
  parts : lay a (take p vs) (drop p s) ++ lay b (take (p + length a) vs₁) (drop (p + length a) s) ≡ lay (a ++ b) (take p vs) (drop p s)
  parts =
      ap₂ (λ (done rest : List ℕ). lay a (take p vs) (drop p s) ++ lay b done rest) f.ends.0.front (sym (drop-drop (length a) p s))
      ∙ sym (lay-append a b (take p vs) (drop p s))

  pub lays-on : (r : Option ℕ) → Lays pass b s at₁ (p + length a) vs₁ vs₂ out₁ out₂ r → Lays pass (a ++ b) s at p vs vs₂ out out₂ r
  lays-on r g =
      record {
        size = g.size ∙ f.size;
        ends = subst (λ (l : List Laid). Ends pass l (length (a ++ b)) at p vs vs₂ out out₂ r) parts (go r g.ends);
      }
    where
      one : List Laid
      one = lay a (take p vs) (drop p s)

      two : List Laid
      two = lay b (take (p + length a) vs₁) (drop (p + length a) s)

      go : (r : Option ℕ) → Ends pass two (length b) at₁ (p + length a) vs₁ vs₂ out₁ out₂ r → Ends pass (one ++ two) (length (a ++ b)) at p vs vs₂ out out₂ r
      go (Some at₂) g = (
        subst (λ (n : ℕ). Lies pass (one ++ two) n at at₂ p vs vs₂ out out₂) (sym (length-append a b))
            (lies-join pass one two (length a) (length b) at at₁ at₂ p vs vs₁ vs₂ out out₁ out₂ f.ends.0 g.0),
        finds_by pass (λ (u : all good one ≡ true) (v : all good two ≡ true). all_append good one two ∙ ap₂ ◌&&◌ u v) f.ends.1 g.1,
      )
      go None g = all_append good_but_group one two ∙ ap (λ (t : Bool). all good_but_group one && t) g ∙ and-false (all good_but_group one)

-- what is bad in the first rows is bad in all
pub lays-stop : (pass : Pass) (a b : List Row) (s : List ℕ) (at p : ℕ) (vs vs₁ : List ℕ) (out out₁ : Lent) → Lays pass a s at p vs vs₁ out out₁ None
    → Lays pass (a ++ b) s at p vs vs₁ out out₁ None
lays-stop pass a b s at p vs vs₁ out out₁ f =
    let one = lay a (take p vs) (drop p s) in
    let two = lay b (take p vs ++ vals one) (drop (length a) (drop p s)) in
    record {
      size = f.size;
      ends =
          ap (all good_but_group) (lay-append a b (take p vs) (drop p s)) ∙ all_append good_but_group one two
          ∙ ap (λ (t : Bool). t && all good_but_group two) f.ends;
    }

-- ---- one row
module _ (pass : Pass) (r : Row) (s : List ℕ) (at p : ℕ) (vs : List ℕ) (out : Lent) (inside : p < length vs) where
  -- a row that is not there: its place, which holds 0, is passed
  pub lay-off : present (take p vs) r.hang ≡ false → get_or vs p 0 ≡ 0 → Lays pass (r ∷ []) s at p vs vs out out (Some at)
  unfolding lay vals emit digits
  lay-off e z =
      let front : take (p + 1) vs ≡ take p vs ++ (0 ∷ []) = rw (add-one p, take-suc vs p 0 inside, z) in
      record {
        size = refl;
        ends = rw e (
          record { on = sym (add-zero at); front = front; before = refl; stays = refl; does = nothing-done pass },
          finds pass refl,
        );
      }
    where
      nothing-done : (pass : Pass) → Does pass (record { row = nothing; val = 0 } ∷ []) at out out
      nothing-done Judge = tt
      nothing-done Lay = λ _. over_none out.bytes at

  -- a row that is there, with its value
  module _ (e : present (take p vs) r.hang ≡ true) (v : ℕ) (h : held r (get_or s p 0) ≡ v) where
    abbrev here : Laid
    here = record { row = bare r; val = v }

    one : lay (r ∷ []) (take p vs) (drop p s) ≡ here ∷ []
    unfolding lay
    one = rw (e, get_or-drop p s 0 0, add-zero p, h)

    lay-next : (out' : Lent) → Does pass (here ∷ []) at out out' → Finds pass (good here ≡ true)
        → Lays pass (r ∷ []) s at p vs (set vs p v) out out' (Some (at + r.width))
    unfolding vals emit
    lay-next out' d g =
        let bits = digits r.width (v - r.first) in
        record {
          size = length-set vs p v;
          ends = subst (λ (l : List Laid). Ends pass l 1 at p vs (set vs p v) out out' (Some (at + r.width))) (sym one) (
            record {
              on = ap (λ (n : ℕ). at + n) (sym (ap length (append-nil bits) ∙ length_digits r.width (v - r.first)));
              front = rw (add-one p, take-suc-set vs p v inside);
              before = take-set-le p vs p v (omega arith);
              stays = drop-set-lt (p + 1) vs p v (omega arith);
              does = d;
            },
            finds_on pass (λ (u : good here ≡ true). rw u) g,
          );
        }

    lay-bad : good_but_group here ≡ false → Lays pass (r ∷ []) s at p vs (set vs p v) out out None
    lay-bad g = record { size = length-set vs p v; ends = ap (all good_but_group) one ∙ rw g }

-- ---- a row is laid under more conditions, which hold, as it is laid without
pub lay-under : (w first codes : ℕ) (n : Refusal) (back : ℕ) (own hang : List Condition) (more : List Row) (done s : List ℕ) → present done hang ≡ true
    → lay (row w first codes n back (own ++ hang) ∷ more) done s ≡ lay (row w first codes n back own ∷ more) done s
unfolding lay present
lay-under w first codes n back own hang more done s e = rw (all_append (holds done) own hang, e, and-true (all (holds done) own))

-- ---- the passing of rows is a walk
abbrev pub Stop : Option ℕ → Type 0
Stop (Some at) = ⊥
Stop None = Unit {0}

-- the cleaned record so far, and the bytes lent
pub record Kept : Type 0 where
  pub vs : List ℕ
  pub out : Lent

abbrev pub kept : List ℕ → Lent → Kept
kept vs out = record { vs = vs; out = out }

module _ (pass : Pass) (s : List ℕ) where
  abbrev pub Goes : List Row → ℕ → ℕ → Kept → Kept → Option ℕ → Type 0
  Goes rows at p x y r = Lays pass rows s at p x.vs y.vs x.out y.out r

  pub told : (r : Option ℕ) → ((at : ℕ) × (r ≡ Some at)) ⊎ Stop r
  told (Some at) = inl (at, refl)
  told None = inr tt

  pub after : (a b : List Row) (at p : ℕ) (x y : Kept) (r : Option ℕ) → Stop r → Goes a at p x y r → Goes (a ++ b) at p x y r
  after a b at p x y None h f = lays-stop pass a b s at p x.vs y.vs x.out y.out f
  after a b at p x y (Some at₁) h f = absurd h

  pub under : (w first codes : ℕ) (n : Refusal) (back : ℕ) (own hang : List Condition) (more : List Row) (at p : ℕ) (x y : Kept) (r : Option ℕ)
      → present (take p x.vs) hang ≡ true → Goes (row w first codes n back own ∷ more) at p x y r
      → Goes (row w first codes n back (own ++ hang) ∷ more) at p x y r
  under w first codes n back own hang more at p x y r e f =
      record {
        size = f.size;
        ends = subst (λ (l : List Laid). Ends pass l (suc (length more)) at p x.vs y.vs x.out y.out r)
            (sym (lay-under w first codes n back own hang more (take p x.vs) (drop p s) e)) f.ends;
      }

  abbrev pub laying : Walk
  laying =
      record {
        State = Kept;
        Result = Option ℕ;
        next = λ at. Some at;
        Stops = Stop;
        told = told;
        values = λ x. x.vs;
        Goes = Goes;
        none = λ at p x. lays-none pass s at p x.vs x.out;
        off = λ r at p x. lay-off pass r s at p x.vs x.out;
        join = λ a b at at₁ p x y z r f. lays-on pass a b s at at₁ p x.vs y.vs z.vs x.out y.out z.out f r;
        stop = after;
        under = under;
        before = λ rows at at₁ p x y f. f.ends.0.before;
        stays = λ rows at at₁ p x y f. f.ends.0.stays;
        size = λ rows at p x y r f. f.size;
      }

-- ---- a field: `code` is what is left of the value after the first, around the end of 32 bits
module _ (f : Field) (s : List ℕ) (at p : ℕ) (vs : List ℕ) (out : Lent) (inside : p < length vs) (narrow : Narrow f) (v : ℕ) (h : v ≡ held (row_for f [])
    (get_or s p 0)) (code : ℕ) (wraps : (code + f.first) % 2 ^ 32 ≡ v) (low : code < 2 ^ 32) where
  abbrev value : Laid
  value = record { row = row_for f []; val = v }

  pub field-good : code < f.codes → Lays Judge (row_for f [] ∷ []) s at p vs (set vs p v) out out (Some (at + f.width))
  unfolding present
  field-good g =
      let a : f.first ≤ v = omega (arith, narrow.low) in
      let b : v < f.first + f.codes = omega (arith, narrow.low) in
      lay-next Judge (row_for f []) s at p vs out inside refl v (sym h) out tt (rw (le-leb f.first v a, lt-ltb v (f.first + f.codes) b))

  pub field-bad : f.codes ≤ code → Lays Judge (row_for f [] ∷ []) s at p vs (set vs p v) out out None
  unfolding present
  field-bad g = lay-bad Judge (row_for f []) s at p vs out inside refl v (sym h) (go (leb f.first v) refl)
    where
      go : (t : Bool) → leb f.first v ≡ t → good_but_group value ≡ false
      go false e = rw (e, narrow.plain)
      go true e =
          let b : f.first + f.codes ≤ v = omega (arith, narrow.low, leb-true f.first v e) in
          rw (e, le-ltb v (f.first + f.codes) b, narrow.plain)

  pub field-laid : (out' : Lent) → out'.bytes ≡ put_at out.bytes at f.width code
      → Lays Lay (row_for f [] ∷ []) s at p vs (set vs p v) out out' (Some (at + f.width))
  unfolding present emit
  field-laid out' e = lay-next Lay (row_for f []) s at p vs out inside refl v (sym h) out' does tt
    where
      does : all good (value ∷ []) ≡ true → Over out.bytes out'.bytes at (emit (value ∷ []))
      does g =
          let tests = both_true (leb f.first v) (ltb v (f.first + f.codes)) (both_true (good value) true g).0 in
          let d : code ≡ v - f.first = omega (arith, narrow.low, leb-true f.first v tests.0) in
          subst (λ (l : List Bool). Over out.bytes out'.bytes at l) (sym (append-nil (digits f.width (v - f.first))))
          (subst (λ (x : List ℕ). Over out.bytes x at (digits f.width (v - f.first))) (sym (e ∙ ap (put_at out.bytes at f.width) d))
          (over-put out.bytes at f.width (v - f.first) narrow.few))
