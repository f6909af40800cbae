-- No frame is longer than its kind's largest length, which is computed from the table.
-- Assumes nothing.
use Prim.Native.Nat.{ℕ, zero, suc, ◌+◌, ◌≤◌, max}
use mathlib.Core.Path.{◌≡◌, refl, ap, sym, ◌∙◌, subst}
use mathlib.Core.Bool.{Bool, true, false, cond, ◌&&◌}
use mathlib.Core.List.{List, [], ◌∷◌, ◌++◌}
use mathlib.Core.Logic.{◌⊎◌, inl, inr}
use native.Mathlib.Nat.{le_trans, le-max_left, le-max_right}
use native.Mathlib.Omega.{arith}
use borrow.Author.Tests.{eqb-true, eqb-false}
use lib.Dec.{T, eqb, leb, leb→le}
use lib.ListN.{length, drop, get_or, replicate, length-append}
use Rattle.bits.specs.Bits.{bytes_for}
use Rattle.layout.specs.declared.Kind.{Kind}
use Rattle.layout.specs.declared.Element.{Element}
use Rattle.layout.specs.declared.When.{When}
use Rattle.layout.specs.declared.When.TheVariants.{Always, Is, All}
use Rattle.layout.specs.declared.Shape.{Shape}
use Rattle.layout.specs.declared.Shape.TheVariants.{Number, Choice, Identity, Ending, Missing, Nothing}
use Rattle.layout.specs.declared.Shape.TheVariants as shape
use Rattle.layout.specs.Row.{Row, Condition, is, at_least, nothing_since, holds, all, present}
use Rattle.refusal.specs.declared.Refusal.{Refusal}
use Rattle.refusal.specs.declared.Refusal.TheVariants.{Reserved, NoGroup, NothingFollows, TypeThree}
use Rattle.layout.specs.Shape.{row, refuse, No, rows_of, span, spans, conditions_of, unrolled}
use Rattle.layout.specs.Kinds.{table_of}
use Rattle.layout.specs.Write.{Laid, held, lay, good, vals, emit}
use Rattle.layout.specs.Frame.{rows, head, head_bits, laid, valid, write}
use Rattle.layout.specs.Length.{frame_length}
use Rattle.layout.specs.Longest.{longest_shape}
use Rattle.layout.specs.Largest.{Known, only, any, may, must, can, certain, Chance, absent, refuses, flag, counts}
use Rattle.layout.specs.Largest.{if_possible, unless_barred, flag_if, chance, onward, largest_of, largest}
use Rattle.layout.specs.Figures.{largest_length, most_bits, most_bytes}
use Rattle.layout.proofs.Tests.{left, both_true, all_weaker}
use Rattle.layout.proofs.RoundTrip.{Good, good→}
use Rattle.layout.proofs.Frames.{head-length}
use Rattle.layout.proofs.EachKind.{every-same, every-test}
use Rattle.layout.proofs.Laying.{widths, length-emit, length-vals, length-shape, parts-size, parts-widths, parts-good}
use Rattle.layout.proofs.Absent.{shape-absent}
use Rattle.layout.proofs.Lengths.{length-written, shape-length, shape-most, no-width}

-- ---- the figures are what is computed
largest-is : (kind : Kind) → largest kind ≡ largest_length kind
unfolding largest largest_of longest_shape largest_length table_of span spans
largest-is = every-same largest largest_length refl

-- ---- places that hold what is known of them
abbrev Holds : Known → ℕ → Type 0
Holds (only u) v = v ≡ u
Holds any v = Unit {0}

data Fits : List Known → List ℕ → Type 0 where
  none : Fits [] []
  more : {k : Known} {ks : List Known} {v : ℕ} {vs : List ℕ} → Holds k v → Fits ks vs → Fits (k ∷ ks) (v ∷ vs)

fits-at : {ks : List Known} {vs : List ℕ} → Fits ks vs → (q : ℕ) → Holds (get_or ks q any) (get_or vs q 0)
fits-at none q = tt
fits-at (more h f) zero = h
fits-at (more h f) (suc q) = fits-at f q

fits-drop : {ks : List Known} {vs : List ℕ} (n : ℕ) → Fits ks vs → Fits (drop n ks) (drop n vs)
fits-drop zero f = f
fits-drop (suc n) none = none
fits-drop (suc n) (more h f) = fits-drop n f

fits-append : {ks ls : List Known} {vs ws : List ℕ} → Fits ks vs → Fits ls ws → Fits (ks ++ ls) (vs ++ ws)
fits-append none g = g
fits-append (more h f) g = more h (fits-append f g)

fits-zeros : (n : ℕ) → Fits (replicate n (only 0)) (replicate n 0)
fits-zeros zero = none
fits-zeros (suc n) = more refl (fits-zeros n)

fits-any : (n : ℕ) (vs : List ℕ) → length vs ≡ n → Fits (replicate n any) vs
fits-any zero [] e = none
fits-any zero (v ∷ vs) e = absurd (omega arith)
fits-any (suc n) [] e = absurd (omega arith)
fits-any (suc n) (v ∷ vs) e = more tt (fits-any n vs (omega arith))

-- ---- what is certain holds, and what holds was possible
clash : {A : Type 0} → false ≡ true → A
clash e = let z : ◌≡◌ {A = ℕ} 0 1 = cc in absurd (omega arith)

all-zero : {ks : List Known} {vs : List ℕ} → Fits ks vs → all (λ k. must k 0) ks ≡ true → all (λ v. eqb v 0) vs ≡ true
all-zero none e = refl
all-zero (more {k = k} {ks = ks} {v = v} {vs = vs} h f) e = go k h e (all-zero f)
  where
    go : (k : Known) → Holds k v → must k 0 && all (λ k. must k 0) ks ≡ true → (all (λ k. must k 0) ks ≡ true → all (λ v. eqb v 0) vs ≡ true)
        → eqb v 0 && all (λ v. eqb v 0) vs ≡ true
    go any h e others = clash e
    go (only u) h e others =
        let two = both_true (eqb u 0) (all (λ k. must k 0) ks) e in
        rw (h, two.0) (others two.1)

module _ {ks : List Known} {vs : List ℕ} (fits : Fits ks vs) where
  certain-holds : (c : Condition) → certain ks c ≡ true → holds vs c ≡ true
  certain-holds (is q v) e = go (get_or ks q any) (fits-at fits q) e
    where
      go : (k : Known) → Holds k (get_or vs q 0) → must k v ≡ true → eqb (get_or vs q 0) v ≡ true
      go (only u) h e = rw h e
      go any h e = clash e
  certain-holds (at_least q v) e = clash e
  certain-holds (nothing_since o) e = all-zero (fits-drop (suc o) fits) e

  holds-can : (c : Condition) → holds vs c ≡ true → can ks c ≡ true
  holds-can (is q v) e = go (get_or ks q any) (fits-at fits q)
    where
      go : (k : Known) → Holds k (get_or vs q 0) → may k v ≡ true
      go (only u) h = sym (ap (λ (n : ℕ). eqb n v) h) ∙ e
      go any h = refl
  holds-can (at_least q v) e = refl
  holds-can (nothing_since o) e = refl

  barred : (hang : List Condition) → all (certain ks) hang ≡ true → present vs hang ≡ true
  unfolding present
  barred hang e = all_weaker (certain ks) (holds vs) certain-holds hang e

  impossible : (hang : List Condition) → all (can ks) hang ≡ false → present vs hang ≡ false
  unfolding present
  impossible hang e = go (all (holds vs) hang) refl
    where
      go : (b : Bool) → all (holds vs) hang ≡ b → b ≡ false
      go false d = refl
      go true d = sym (all_weaker (holds vs) (can ks) holds-can hang d) ∙ e

-- ---- an element comes as it can
-- a value or the next
abbrev OneOf : ℕ → List ℕ → Type 0
OneOf v l = (l ≡ v ∷ []) ⊎ (l ≡ suc v ∷ [])

abbrev Comes : Chance → Shape → List Laid → Type 0
Comes absent x l = (widths l ≡ 0) × (vals l ≡ replicate (span x) 0)
Comes refuses x l = ⊥
Comes (flag v) x l = (widths l ≤ longest_shape x) × OneOf v (vals l)
Comes (counts k) x l = (widths l ≤ longest_shape x) × Fits (replicate (span x) k) (vals l)

-- ---- an element's places
-- a place that can hold nothing but 0
idle-place : (w codes : ℕ) (n : Refusal) (back : ℕ) (hang : List Condition) (done s : List ℕ) → leb codes 1 ≡ true
    → vals (lay (row w 0 codes n back hang ∷ []) done s) ≡ 0 ∷ []
unfolding lay vals
idle-place w codes n back hang done s few = go (present done hang) refl
  where
    go : (b : Bool) → present done hang ≡ b → vals (lay (row w 0 codes n back hang ∷ []) done s) ≡ 0 ∷ []
    go true e = rw (e, few)
    go false e = rw e

module _ {known : List Known} {done : List ℕ} (fits : Fits known done) (s : List ℕ) (p : ℕ) (size : length done ≡ p) where
  abbrev laid_out : Shape → List Condition → List Laid
  laid_out x hang = lay (rows_of x hang p) done (drop p s)

  width-most : (x : Shape) (hang : List Condition) → T (all good (laid_out x hang)) → widths (laid_out x hang) ≤ longest_shape x
  width-most x hang fine = go (present done hang) refl
    where
      go : (b : Bool) → present done hang ≡ b → widths (laid_out x hang) ≤ longest_shape x
      go true e = rw (shape-length hang done s p size e x fine) (shape-most hang done s p size e x fine)
      go false e = rw (shape-absent x hang done (drop p s) p size e).0 (omega arith)

  counted : (x : Shape) (hang : List Condition) → T (all good (laid_out x hang)) → Comes (counts any) x (laid_out x hang)
  counted x hang fine =
      (width-most x hang fine, fits-any (span x) (vals (laid_out x hang)) (length-vals (rows_of x hang p) done (drop p s) ∙ length-shape x hang p))

  possible : (when : When) (x : Shape) (there : Chance) → Comes there x (laid_out x (conditions_of when))
      → Comes (if_possible known when there) x (laid_out x (conditions_of when))
  possible when x there come = go (all (can known) (conditions_of when)) refl
    where
      go : (b : Bool) → all (can known) (conditions_of when) ≡ b → Comes (cond b there absent) x (laid_out x (conditions_of when))
      go true e = come
      go false e = shape-absent x (conditions_of when) done (drop p s) p size (impossible fits (conditions_of when) e)

  -- a row that is always there, with two codes
  two-values : (w first : ℕ) → T (all good (lay (row w first 2 Reserved 0 [] ∷ []) done (drop p s)))
      → OneOf first (vals (lay (row w first 2 Reserved 0 [] ∷ []) done (drop p s)))
  unfolding lay vals present
  two-values w first fine = go (eqb v first) refl
    where
      r : Row
      r = row w first 2 Reserved 0 []

      v : ℕ
      v = held r (get_or (drop p s) 0 0)

      coded : Good r v
      coded = good→ r v (left (good (record { row = r; val = v })) true fine)

      go : (b : Bool) → eqb v first ≡ b → OneOf first (v ∷ [])
      go true e = inl (ap (λ (n : ℕ). n ∷ []) (eqb-true v first e))
      go false e =
          let next : v ≡ suc first = omega (arith, coded.low, coded.high, eqb-false v first e) in
          inr (ap (λ (n : ℕ). n ∷ []) next)

  -- where a shape has two codes and is always there, it is tried with each
  abbrev TwoCodes : Shape → ℕ → Type 0
  TwoCodes x v = T (all good (laid_out x [])) → OneOf v (vals (laid_out x []))

  flagged : (b : Bool) (when : When) (x : Shape) (v : ℕ) → (b ≡ true → TwoCodes x v) → T (all good (laid_out x (conditions_of when)))
      → Comes (cond b (flag_if when v) (counts any)) x (laid_out x (conditions_of when))
  flagged true Always x v two fine = (width-most x [] fine, two refl fine)
  flagged true (Is q u) x v two fine = counted x (conditions_of (Is q u)) fine
  flagged true (All a b q u) x v two fine = counted x (conditions_of (All a b q u)) fine
  flagged false when x v two fine = counted x (conditions_of when) fine

  -- a refusal's row, which is there for certain or may be absent
  barring : (x : Shape) (n : Refusal) (back : ℕ) (hang : List Condition) → span x ≡ 1 → T (all good (lay (refuse n back hang ∷ []) done (drop p s)))
      → Comes (unless_barred known hang) x (lay (refuse n back hang ∷ []) done (drop p s))
  unfolding lay
  barring x n back hang one fine = go (all (certain known) hang) refl
    where
      no_code : present done hang ≡ true → ⊥
      no_code e = rw e at fine

      go : (b : Bool) → all (certain known) hang ≡ b → Comes (cond b refuses absent) x (lay (refuse n back hang ∷ []) done (drop p s))
      go true e = no_code (barred fits hang e)
      go false e = (no-width n back hang done (drop p s), idle-place 0 0 n back hang done (drop p s) refl ∙ ap (λ (k : ℕ). replicate k 0) (sym one))

  comes : (when : When) (x : Shape) → T (all good (laid_out x (conditions_of when))) → Comes (chance known when x) x (laid_out x (conditions_of when))
  unfolding rows_of span
  comes when (Number w) fine =
      let two : eqb w 1 ≡ true → TwoCodes (Number w) 0 = λ e. subst (λ (k : ℕ). TwoCodes (Number k) 0) (sym (eqb-true w 1 e)) (two-values 1 0) in
      possible when (Number w) _ (flagged (eqb w 1) when (Number w) 0 two fine)
  comes when (Choice w n) fine =
      let two : eqb n 2 ≡ true → TwoCodes (Choice w n) 1 = λ e. subst (λ (k : ℕ). TwoCodes (Choice w k) 1) (sym (eqb-true n 2 e)) (two-values w 1) in
      possible when (Choice w n) _ (flagged (eqb n 2) when (Choice w n) 1 two fine)
  comes when Identity fine = possible when Identity (counts any) (counted Identity (conditions_of when) fine)
  comes when (shape.List items) fine = possible when (shape.List items) (counts any) (counted (shape.List items) (conditions_of when) fine)
  comes when Ending fine =
      let zero_held = idle-place 1 1 TypeThree 0 (conditions_of when) done (drop p s) refl in
      possible when Ending (counts (only 0)) (width-most Ending (conditions_of when) fine, subst (Fits (only 0 ∷ [])) (sym zero_held) (fits-zeros 1))
  comes when (Missing q) fine = barring (Missing q) NoGroup _ (is q No ∷ conditions_of when) refl fine
  comes when (Nothing o) fine = barring (Nothing o) NothingFollows _ (nothing_since o ∷ conditions_of when) refl fine

-- ---- elements, one after the other
-- those that come, and what may follow them
onward-holds : (c : Chance) (x : Shape) (l : List Laid) {known : List Known} {done : List ℕ} (bits others : ℕ) (follow : List Known → ℕ → ℕ)
    → Fits known done → Comes c x l
    → ((known' : List Known) (bits' : ℕ) → Fits known' (done ++ vals l) → bits' + others ≤ follow known' bits')
    → bits + (widths l + others) ≤ onward c x known bits follow
onward-holds absent x l {known} {done} bits others follow fits come later =
    let held = subst (Fits (replicate (span x) (only 0))) (sym come.1) (fits-zeros (span x)) in
    omega (arith, come.0, later (known ++ replicate (span x) (only 0)) bits (fits-append fits held))
onward-holds refuses x l bits others follow fits come later = absurd come
onward-holds (counts k) x l {known} {done} bits others follow fits come later =
    omega (arith, come.0, later (known ++ replicate (span x) k) (bits + longest_shape x) (fits-append fits come.1))
onward-holds (flag v) x l {known} {done} bits others follow fits come later = by_value come.1
  where
    most : ℕ → ℕ
    most u = follow (known ++ (only u ∷ [])) (bits + longest_shape x)

    with_value : (u : ℕ) → vals l ≡ u ∷ [] → bits + (widths l + others) ≤ most u
    with_value u e =
        let held = subst (Fits (only u ∷ [])) (sym e) (more refl none) in
        omega (arith, come.0, later (known ++ (only u ∷ [])) (bits + longest_shape x) (fits-append fits held))

    by_value : OneOf v (vals l) → bits + (widths l + others) ≤ max (most v) (most (suc v))
    by_value (inl e) = le_trans (with_value v e) (le-max_left (most v) (most (suc v)))
    by_value (inr e) = le_trans (with_value (suc v) e) (le-max_right (most v) (most (suc v)))

largest-holds : (s : List ℕ) (es : List Element) {known : List Known} {done : List ℕ} (p bits : ℕ) → Fits known done → length done ≡ p
    → T (all good (lay (unrolled es p) done (drop p s))) → bits + widths (lay (unrolled es p) done (drop p s)) ≤ largest_of es known bits
unfolding unrolled lay widths largest_of
largest-holds s [] p bits fits size fine = omega arith
largest-holds s (e ∷ es) {known} {done} p bits fits size fine =
    let own = rows_of e.1 (conditions_of e.0) p in
    let follow = unrolled es (p + span e.1) in
    let n = length-shape e.1 (conditions_of e.0) p in
    let fines = parts-good own follow done s p (span e.1) size n fine in
    let size' = parts-size own follow done s p (span e.1) size n in
    rw (parts-widths own follow done s p (span e.1) size n)
    (onward-holds (chance known e.0 e.1) e.1 (lay own done (drop p s)) bits _ (largest_of es) fits (comes fits s p size e.0 e.1 fines.0)
    (λ known' bits' fits'. largest-holds s es (p + span e.1) bits' fits' size' fines.1))

-- ---- a frame
pub length-largest : (kind : Kind) (s : List ℕ) → T (valid kind s) → length (write kind s) ≤ largest_length kind
unfolding write valid rows largest
length-largest kind s fine =
    let bound = largest-holds s (table_of kind) 0 head_bits none refl fine in
    omega (arith, bound, largest-is kind, length-append (head kind) (emit (laid kind s)), head-length kind, length-emit (laid kind s))

-- so the formula is at most that
pub formula-largest : (kind : Kind) (s : List ℕ) → T (valid kind s) → frame_length kind s ≤ largest_length kind
formula-largest kind s fine = subst (λ (n : ℕ). n ≤ largest_length kind) (length-written kind s fine) (length-largest kind s fine)

-- of every kind, in bits and in bytes
largest-most : (kind : Kind) → largest_length kind ≤ most_bits
unfolding largest_length
largest-most kind = leb→le _ _ (every-test (λ kind. leb (largest_length kind) most_bits) tt kind)

pub written-most : (kind : Kind) (s : List ℕ) → T (valid kind s) → length (write kind s) ≤ most_bits
written-most kind s fine = le_trans (length-largest kind s fine) (largest-most kind)

pub largest-bytes : (kind : Kind) → bytes_for (largest_length kind) ≤ most_bytes
unfolding largest_length
largest-bytes kind = leb→le _ _ (every-test (λ kind. leb (bytes_for (largest_length kind)) most_bytes) tt kind)
