-- Rows laid out, part after part: how many there are, what they leave, and that conditions which hold change nothing.
-- Assumes nothing.
use Prim.Native.Nat.{ℕ, zero, suc, ◌+◌, ◌-◌, ◌*◌, ◌^◌}
use mathlib.Core.Path.{◌≡◌, refl, ap, ap₂, sym, ◌∙◌, subst}
use mathlib.Core.Bool.{Bool, true}
use mathlib.Core.List.{List, [], ◌∷◌, ◌++◌, tail, append_assoc, append-nil}
use native.Mathlib.Nat.{add_assoc, mul-suc, zero-add}
use native.Mathlib.Omega.{arith}
use lib.Dec.{T, eqb, leb}
use lib.ListN.{length, drop, get_or, length-append}
use lib.Seq.{drop-drop, drop-nil}
use Rattle.refusal.specs.declared.Refusal.{Refusal}
use Rattle.refusal.specs.declared.Refusal.TheVariants.{Reserved, NoGroup, NothingFollows, TypeThree}
use Rattle.bits.specs.Bits.{digits}
use Rattle.bits.proofs.Laws.{length_digits}
use Rattle.layout.specs.declared.Items.{Items}
use Rattle.layout.specs.declared.Items.TheVariants.{Numbers, Letters}
use Rattle.layout.specs.declared.Shape.{Shape}
use Rattle.layout.specs.declared.Shape.TheVariants.{Number, Choice, Identity, Ending, Missing, Nothing}
use Rattle.layout.specs.declared.Shape.TheVariants as shape
use Rattle.layout.specs.Row.{Row, Condition, is, at_least, nothing_since, holds, all, present, there}
use Rattle.layout.specs.Shape.{row, No, codes_of, least, times, item, stride, repeated, rows_of, span}
use Rattle.layout.specs.Write.{Laid, held, lay, good, vals, emit}
use Rattle.layout.proofs.Tests.{left, right, all_append, and-true}

-- ---- what hangs on a place, by what that holds
pub seen-is : (done : List ℕ) (q held v : ℕ) → get_or done q 0 ≡ held → present done (is q v ∷ []) ≡ eqb held v
unfolding present
seen-is done q held v e = rw e (and-true (eqb held v))

pub seen-from : (done : List ℕ) (q held v : ℕ) → get_or done q 0 ≡ held → present done (at_least q v ∷ []) ≡ leb v held
unfolding present
seen-from done q held v e = rw e (and-true (leb v held))

-- ---- how many rows a shape has
pub length-item : (items : Items) (hang : List Condition) (p : ℕ) → length (item items hang p) ≡ stride items
length-item Numbers hang p = refl
length-item Letters hang p = refl

pub length-repeated : (items : Items) (t p i n : ℕ) → length (repeated items t p i n) ≡ stride items * n
unfolding repeated
length-repeated items t p i zero = omega arith
length-repeated items t p i (suc n) =
    length-append (item items (at_least t (least items i) ∷ []) p) (repeated items t (p + stride items) (i + 1) n)
    ∙ ap₂ ◌+◌ (length-item items (at_least t (least items i) ∷ []) p) (length-repeated items t (p + stride items) (i + 1) n)
    ∙ omega (arith, mul-suc (stride items) n)

pub length-shape : (s : Shape) (hang : List Condition) (p : ℕ) → length (rows_of s hang p) ≡ span s
unfolding rows_of span
length-shape (Number w) hang p = refl
length-shape (Choice w n) hang p = refl
length-shape Identity hang p = refl
length-shape (shape.List items) hang p = ap suc (length-repeated items p (p + 1) 0 (times items))
length-shape Ending hang p = refl
length-shape (Missing place) hang p = refl
length-shape (Nothing o) hang p = refl

-- ---- rows after rows
pub vals-append : (a b : List Laid) → vals (a ++ b) ≡ vals a ++ vals b
unfolding vals
vals-append [] b = refl
vals-append (x ∷ a) b = ap (λ (l : List ℕ). x.val ∷ l) (vals-append a b)

pub emit-append : (a b : List Laid) → emit (a ++ b) ≡ emit a ++ emit b
unfolding emit
emit-append [] b = refl
emit-append (x ∷ a) b =
    let d = digits x.row.width (x.val - x.row.first) in
    ap (λ (l : List Bool). d ++ l) (emit-append a b) ∙ sym (append_assoc d (emit a) (emit b))

drop-tail : (n : ℕ) (s : List ℕ) → drop n (tail s) ≡ drop (suc n) s
drop-tail n [] = drop-nil n
drop-tail n (x ∷ s) = refl

pub lay-append : (a b : List Row) (done s : List ℕ) → lay (a ++ b) done s ≡ lay a done s ++ lay b (done ++ vals (lay a done s)) (drop (length a) s)
unfolding lay vals
lay-append [] b done s = ap (λ (l : List ℕ). lay b l s) (sym (append-nil done))
lay-append (r ∷ a) b done s =
    let h = there done r in
    let v = held h (get_or s 0 0) in
    let more = lay a (done ++ (v ∷ [])) (tail s) in
    ap (λ (l : List Laid). record { row = h; val = v } ∷ l)
    (lay-append a b (done ++ (v ∷ [])) (tail s)
    ∙ ap (λ (l : List ℕ). more ++ lay b l (drop (length a) (tail s))) (append_assoc done (v ∷ []) (vals more))
    ∙ ap (λ (l : List ℕ). more ++ lay b (done ++ (v ∷ vals more)) l) (drop-tail (length a) s))

-- ---- how many bits rows have
unfoldable pub widths : List Laid → ℕ
widths [] = 0
widths (x ∷ xs) = x.row.width + widths xs

pub length-emit : (l : List Laid) → length (emit l) ≡ widths l
unfolding emit widths
length-emit [] = refl
length-emit (x ∷ xs) =
    let d = digits x.row.width (x.val - x.row.first) in
    length-append d (emit xs) ∙ ap₂ ◌+◌ (length_digits x.row.width (x.val - x.row.first)) (length-emit xs)

widths-append : (a b : List Laid) → widths (a ++ b) ≡ widths a + widths b
unfolding widths
widths-append [] b = sym (zero-add (widths b))
widths-append (x ∷ a) b = ap (λ (n : ℕ). x.row.width + n) (widths-append a b) ∙ sym (add_assoc x.row.width (widths a) (widths b))

-- each row has its place
pub length-vals : (rows : List Row) (done s : List ℕ) → length (vals (lay rows done s)) ≡ length rows
unfolding lay vals
length-vals [] done s = refl
length-vals (r ∷ rows) done s = ap suc (length-vals rows (done ++ (held (there done r) (get_or s 0 0) ∷ [])) (tail s))

-- ---- n rows behind those that are done, which are p, and more rows behind them
module _ (a b : List Row) (done s : List ℕ) (p n : ℕ) (size : length done ≡ p) (count : length a ≡ n) where
  abbrev here : List Laid
  here = lay a done (drop p s)

  abbrev rest : List Laid
  rest = lay b (done ++ vals here) (drop (p + n) s)

  pub parts : lay (a ++ b) done (drop p s) ≡ here ++ rest
  parts =
      lay-append a b done (drop p s)
      ∙ ap (λ (l : List ℕ). here ++ lay b (done ++ vals here) l) (drop-drop (length a) p s ∙ ap (λ (k : ℕ). drop (p + k) s) count)

  pub parts-size : length (done ++ vals here) ≡ p + n
  parts-size = length-append done (vals here) ∙ ap₂ ◌+◌ size (length-vals a done (drop p s) ∙ count)

  pub parts-widths : widths (lay (a ++ b) done (drop p s)) ≡ widths here + widths rest
  parts-widths = ap widths parts ∙ widths-append here rest

  pub parts-good : T (all good (lay (a ++ b) done (drop p s))) → T (all good here) × T (all good rest)
  parts-good fine =
      let both = subst T (all_append good here rest) (subst (λ (l : List Laid). T (all good l)) parts fine) in
      (left (all good here) (all good rest) both, right (all good here) (all good rest) both)

-- ---- a row is laid under more conditions, which hold, as it is laid without
pub lay-under : (w first codes : ℕ) (n : Refusal) (back : ℕ) (own hang : List Condition) (more : List Row) (done s : List ℕ) → present done hang ≡ true
    → lay (row w first codes n back (own ++ hang) ∷ more) done s ≡ lay (row w first codes n back own ∷ more) done s
unfolding lay present
lay-under w first codes n back own hang more done s e = rw (all_append (holds done) own hang, e, and-true (all (holds done) own))

-- so is a shape under its element's
pub lay-shape : (x : Shape) (hang : List Condition) (p : ℕ) (done s : List ℕ) → present done hang ≡ true
    → lay (rows_of x hang p) done s ≡ lay (rows_of x [] p) done s
unfolding rows_of
lay-shape (Number w) hang p done s e = lay-under w 0 (2 ^ w) Reserved 0 [] hang [] done s e
lay-shape (Choice w n) hang p done s e = lay-under w 1 n Reserved 0 [] hang [] done s e
lay-shape Identity hang p done s e = lay-under 2 1 3 Reserved 0 [] hang _ done s e
lay-shape (shape.List items) hang p done s e = lay-under 4 1 (codes_of items) Reserved 0 [] hang _ done s e
lay-shape Ending hang p done s e = lay-under 1 0 1 TypeThree 0 [] hang [] done s e
lay-shape (Missing q) hang p done s e = lay-under 0 0 0 NoGroup _ (is q No ∷ []) hang [] done s e
lay-shape (Nothing o) hang p done s e = lay-under 0 0 0 NothingFollows _ (nothing_since o ∷ []) hang [] done s e
