-- An element that is not there: none of its rows is, so it is laid as no bits, and 0 at its places.
-- Assumes nothing.
use Prim.Native.Nat.{ℕ, zero, suc, ◌+◌, ◌-◌, ◌≤◌, ◌<◌}
use mathlib.Core.Path.{◌≡◌, refl, ap, sym, ◌∙◌, subst}
use mathlib.Core.Bool.{Bool, true, false, cond}
use mathlib.Core.List.{List, [], ◌∷◌, ◌++◌, tail}
use native.Mathlib.Nat.{add-zero, zero-add, min-le_left}
use native.Mathlib.Numerals.{add-one}
use native.Mathlib.Omega.{arith}
use native.Mathlib.Decide.{dec_lt}
use borrow.Author.Tests.{lt-leb, ne_eqb}
use lib.Dec.{ltb}
use lib.ListN.{length, take, get_or, replicate, length-append, length-take, length-replicate, get_or-eq_default}
use lib.Seq.{get_or-take, get_or-append-add, take-suc, take_at}
use Rattle.layout.specs.Row.{Clear, Row, Condition, is, at_least, nothing_since, holds, present}
use Rattle.layout.specs.Shape.{identity, No, least, times, item, stride, repeated, rows_of, span}
use Rattle.layout.specs.Write.{lay, vals}
use Rattle.layout.specs.declared.Items.{Items}
use Rattle.layout.specs.declared.Items.TheVariants.{Numbers, Letters}
use Rattle.layout.specs.declared.Shape.{Shape}
use Rattle.layout.specs.declared.Shape.TheVariants.{Number, Choice, Identity, Ending, Missing, Nothing}
use Rattle.layout.specs.declared.Shape.TheVariants as shape
use Rattle.layout.proofs.Tests.{and-false}
use Rattle.layout.proofs.Laying.{seen-is, seen-from, length-item, length-shape, widths}

-- ---- places that hold 0
-- where all is 0
pub clear_none : (n p : ℕ) → Clear (replicate n 0) p
clear_none n p q h = go n q
  where
    go : (n q : ℕ) → get_or {A = ℕ} (replicate n 0) q 0 ≡ 0
    go zero q = refl
    go (suc n) zero = refl
    go (suc n) (suc q) = go n q

-- a place that holds 0 holds it in the record so far
pub zero-before : (vs : List ℕ) (n q : ℕ) → get_or vs q 0 ≡ 0 → get_or (take n vs) q 0 ≡ 0
zero-before vs n q z = go (dec_lt q n)
  where
    go : Dec (q < n) → get_or (take n vs) q 0 ≡ 0
    go (yes l) = get_or-take n vs q 0 l ∙ z
    go (no l) = get_or-eq_default (take n vs) 0 (omega (arith, length-take n vs, min-le_left n (length vs)))

-- ---- rows that are not there
-- none of the rows from the place p on is there
pub data Shut (vs : List ℕ) : ℕ → List Row → Type 0 where
  none : {p : ℕ} → Shut vs p []
  more : {p : ℕ} {r : Row} {rows : List Row} → present (take p vs) r.hang ≡ false → Shut vs (p + 1) rows → Shut vs p (r ∷ rows)

shut-append : (vs : List ℕ) (p : ℕ) (a b : List Row) → Shut vs p a → Shut vs (p + length a) b → Shut vs p (a ++ b)
shut-append vs p [] b none t = subst (λ (n : ℕ). Shut vs n b) (add-zero p) t
shut-append vs p (r ∷ a) b (more e s) t =
    let n : p + suc (length a) ≡ p + 1 + length a = omega arith in
    more e (shut-append vs (p + 1) a b s (subst (λ (n : ℕ). Shut vs n b) n t))

-- conditions on a place that holds 0
none_is : (done : List ℕ) (q v : ℕ) → get_or done q 0 ≡ 0 → 0 < v → present done (is q v ∷ []) ≡ false
none_is done q v z h = seen-is done q 0 v z ∙ ne_eqb 0 v (λ e. omega arith)

none-at_least : (done : List ℕ) (q v : ℕ) → get_or done q 0 < v → present done (at_least q v ∷ []) ≡ false
none-at_least done q v h = seen-from done q (get_or done q 0) v refl ∙ lt-leb v (get_or done q 0) h

-- an identity that is not there
module _ (vs : List ℕ) (p : ℕ) (z : Clear vs p) where
  shut-identity : (hang : List Condition) → present (take p vs) hang ≡ false → Shut vs p (identity hang p)
  shut-identity hang e =
      let form : (n : ℕ) → get_or (take n vs) p 0 ≡ 0 = λ n. zero-before vs n p (z p (omega arith)) in
      more e
      (more (none_is (take (p + 1) vs) p 1 (form (p + 1)) (omega arith))
      (more (none-at_least (take (p + 1 + 1) vs) p 2 (omega (arith, form (p + 1 + 1))))
      (more (none_is (take (p + 1 + 1 + 1) vs) p 3 (form (p + 1 + 1 + 1)) (omega arith)) none)))

  pub shut-item : (items : Items) (hang : List Condition) → present (take p vs) hang ≡ false → Shut vs p (item items hang p)
  shut-item Numbers hang e = shut-identity hang e
  shut-item Letters hang e = more e none

least-some : (items : Items) (i : ℕ) → 0 < least items i
least-some Numbers i = go (ltb i 2)
  where
    go : (t : Bool) → 0 < cond t (i + 1) (i + 2)
    go true = omega arith
    go false = omega arith
least-some Letters i = omega arith

-- the items of a list that is not there
shut-repeated : (vs : List ℕ) (items : Items) (t p i n : ℕ) → get_or vs t 0 ≡ 0 → Clear vs p → Shut vs p (repeated items t p i n)
unfolding repeated
shut-repeated vs items t p i zero y z = none
shut-repeated vs items t p i (suc n) y z =
    let hang : List Condition = at_least t (least items i) ∷ [] in
    let off : present (take p vs) hang ≡ false = none-at_least (take p vs) t (least items i) (omega (arith, zero-before vs p t y, least-some items i)) in
    shut-append vs p (item items hang p) (repeated items t (p + stride items) (i + 1) n) (shut-item vs p z items hang off)
    (subst (λ (m : ℕ). Shut vs m (repeated items t (p + stride items) (i + 1) n)) (ap (λ (m : ℕ). p + m) (sym (length-item items hang p)))
    (shut-repeated vs items t (p + stride items) (i + 1) n y (λ q l. z q (omega arith))))

-- one condition more does not help
none_more : (done : List ℕ) (c : Condition) (hang : List Condition) → present done hang ≡ false → present done (c ∷ hang) ≡ false
unfolding present
none_more done c hang e = rw (e, and-false (holds done c))

-- an element that is not there
pub shut-shape : (vs : List ℕ) (p : ℕ) → Clear vs p → (s : Shape) (hang : List Condition) → present (take p vs) hang ≡ false → Shut vs p (rows_of s hang p)
unfolding rows_of
shut-shape vs p z (Number w) hang e = more e none
shut-shape vs p z (Choice w n) hang e = more e none
shut-shape vs p z Identity hang e = shut-identity vs p z hang e
shut-shape vs p z (shape.List items) hang e =
    more e (shut-repeated vs items p (p + 1) 0 (times items) (z p (omega arith)) (λ q l. z q (omega arith)))
shut-shape vs p z Ending hang e = more e none
shut-shape vs p z (Missing place) hang e = more (none_more (take p vs) (is place No) hang e) none
shut-shape vs p z (Nothing o) hang e = more (none_more (take p vs) (nothing_since o) hang e) none

-- ---- rows that are not there, laid out
shut-laid : (vs : List ℕ) (p : ℕ) (rows : List Row) (s : List ℕ) → Shut vs p rows → Clear vs p → p + length rows ≤ length vs
    → (widths (lay rows (take p vs) s) ≡ 0) × (vals (lay rows (take p vs) s) ≡ replicate (length rows) 0)
unfolding lay vals widths
shut-laid vs p [] s none z h = (refl, refl)
shut-laid vs p (r ∷ rows) s (more e more-shut) z h =
    let front : take (p + 1) vs ≡ take p vs ++ (0 ∷ []) = rw (add-one p, take-suc vs p 0 (omega arith), z p (omega arith)) in
    let rest = shut-laid vs (p + 1) rows (tail s) more-shut (λ q l. z q (omega arith)) (omega arith) in
    rw (e, ← front) (zero-add _ ∙ rest.0, ap (λ (l : List ℕ). 0 ∷ l) rest.1)

-- a shape behind the places that are done
pub shape-absent : (x : Shape) (hang : List Condition) (done s : List ℕ) (p : ℕ) → length done ≡ p → present done hang ≡ false
    → (widths (lay (rows_of x hang p) done s) ≡ 0) × (vals (lay (rows_of x hang p) done s) ≡ replicate (span x) 0)
shape-absent x hang done s p size off =
    let vs = done ++ replicate (span x) 0 in
    let front : take p vs ≡ done = take_at done (replicate (span x) 0) p size in
    let gone = shut-laid vs p (rows_of x hang p) s (shut-shape vs p clear x hang (ap (λ (l : List ℕ). present l hang) front ∙ off)) clear
    (omega (arith, length-append done (replicate (span x) 0), length-replicate {A = ℕ} (span x) 0, length-shape x hang p)) in
    rw (← length-shape x hang p) (rw front at gone)
  where
    clear : Clear (done ++ replicate (span x) 0) p
    clear q l =
        let far : length done + (q - length done) ≡ q = omega (arith, size) in
        ap (λ (i : ℕ). get_or (done ++ replicate (span x) 0) i 0) (sym far)
        ∙ get_or-append-add done (replicate (span x) 0) (q - length done) 0 ∙ clear_none (span x) 0 (q - length done) (omega arith)
