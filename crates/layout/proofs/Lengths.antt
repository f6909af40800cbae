-- What is written is as long as the formula says, for every record that has a frame.
-- Assumes nothing.
use Prim.Native.Nat.{ℕ, zero, suc, ◌+◌, ◌-◌, ◌*◌, ◌^◌, ◌≤◌, ◌<◌}
use mathlib.Core.Path.{◌≡◌, refl, ap, ap₂, sym, ◌∙◌, subst}
use mathlib.Core.Bool.{Bool, true, false, cond}
use mathlib.Core.List.{List, [], ◌∷◌, ◌++◌, tail, append_assoc}
use native.Mathlib.Nat.{add-zero, suc-mul, mul-le-mul_right}
use native.Mathlib.Omega.{arith}
use borrow.Author.Tests.{leb-true, leb-false, ltb-true, ltb-false}
use lib.Dec.{T, eqb, leb, ltb}
use lib.ListN.{length, take, drop, get_or, length-append}
use lib.Seq.{get_or-take, get_or-drop, get_or_at, take_all, take_at, take-append_seam}
use Rattle.layout.specs.declared.Kind.{Kind}
use Rattle.layout.specs.declared.Element.{Element}
use Rattle.layout.specs.declared.Items.{Items}
use Rattle.layout.specs.declared.Items.TheVariants.{Numbers, Letters}
use Rattle.layout.specs.declared.Shape.{Shape}
use Rattle.layout.specs.declared.Shape.TheVariants.{Number, Choice, Identity, Ending, Missing, Nothing}
use Rattle.layout.specs.declared.Shape.TheVariants as shape
use Rattle.layout.specs.Row.{Row, Condition, is, at_least, nothing_since, all, present, there}
use Rattle.refusal.specs.declared.Refusal.{Refusal}
use Rattle.refusal.specs.declared.Refusal.TheVariants.{Reserved, NoGroup, NothingFollows, TypeThree}
use Rattle.layout.specs.Shape.{row, refuse, choice, number, No, identity, codes_of, least, times, item, stride}
use Rattle.layout.specs.Shape.{repeated, rows_of, span, conditions_of, unrolled}
use Rattle.layout.specs.Write.{Laid, held, lay, good, vals, emit}
use Rattle.layout.specs.Length.{identity_length, many_items, item_length, items_length, list_length, shape_length}
use Rattle.layout.specs.Length.{element_length, elements_length, frame_length}
use Rattle.layout.specs.Longest.{longest_item, longest_shape}
use Rattle.layout.specs.Kinds.{table_of}
use Rattle.layout.specs.Frame.{rows, head, laid, clean, valid, write}
use Rattle.layout.specs.Chain.{chained_from}
use Rattle.layout.proofs.Tests.{left}
use Rattle.layout.proofs.RoundTrip.{good→}
use Rattle.layout.proofs.Frames.{head-length}
use Rattle.layout.proofs.Chains.{tables-chained, chain_first, looks-agree}
use Rattle.layout.proofs.Laying.{widths, length-emit, length-item, length-shape, seen-is, seen-from, vals-append, lay-shape}
use Rattle.layout.proofs.Laying.{parts, parts-size, parts-widths, parts-good}
use Rattle.layout.proofs.Absent.{shape-absent}

-- ---- one row
-- it has its bits where it is there, and the next rows theirs
first_width : (r : Row) (more : List Row) (done s : List ℕ) → widths (lay (r ∷ more) done s)
    ≡ cond (present done r.hang) r.width 0 + widths (lay more (done ++ (held (there done r) (get_or s 0 0) ∷ [])) (tail s))
unfolding lay widths
first_width r more done s = go (present done r.hang) refl
  where
    go : (b : Bool) → present done r.hang ≡ b → (there done r).width + widths (lay more (done ++ (held (there done r) (get_or s 0 0) ∷ [])) (tail s))
        ≡ cond b r.width 0 + widths (lay more (done ++ (held (there done r) (get_or s 0 0) ∷ [])) (tail s))
    go true e = rw e
    go false e = rw e

-- the places that are done stay what they are
done-stays : (done more : List ℕ) (q : ℕ) → q < length done → get_or (done ++ more) q 0 ≡ get_or done q 0
done-stays done more q h = sym (get_or-take (length done) (done ++ more) q 0 h) ∙ ap (λ (l : List ℕ). get_or l q 0) (take-append_seam done more)

-- ---- an identity, by its form
module _ (p form : ℕ) where
  sna : Row
  sna = number 8 (is p 1 ∷ [])

  ssi : Row
  ssi = number 24 (at_least p 2 ∷ [])

  extension : Row
  extension = number 24 (is p 3 ∷ [])

  -- what follows the form
  behind-form : (done s : List ℕ) → p < length done → get_or done p 0 ≡ form
      → widths (lay (drop 1 (identity [] p)) done s) ≡ cond (eqb form 1) 8 0 + (cond (leb 2 form) 24 0 + (cond (eqb form 3) 24 0 + 0))
  unfolding sna ssi extension widths lay
  behind-form done s h e =
      let done₁ = done ++ (held (there done sna) (get_or s 0 0) ∷ []) in
      let done₂ = done₁ ++ (held (there done₁ ssi) (get_or (tail s) 0 0) ∷ []) in
      let longer : p < length done₁ = rw length-append (omega arith) in
      let e₁ : get_or done₁ p 0 ≡ form = done-stays done _ p h ∙ e in
      let e₂ : get_or done₂ p 0 ≡ form = done-stays done₁ _ p longer ∙ e₁ in
      first_width sna (ssi ∷ extension ∷ []) done s
      ∙ ap₂ ◌+◌ (ap (λ (b : Bool). cond b 8 0) (seen-is done p form 1 e))
      (first_width ssi (extension ∷ []) done₁ (tail s)
      ∙ ap₂ ◌+◌ (ap (λ (b : Bool). cond b 24 0) (seen-from done₁ p form 2 e₁))
      (first_width extension [] done₂ (tail (tail s)) ∙ ap (λ (b : Bool). cond b 24 0 + 0) (seen-is done₂ p form 3 e₂)))

-- by the three forms that have a code
by_form : (form : ℕ) → 1 ≤ form → form < 4 → 2 + (cond (eqb form 1) 8 0 + (cond (leb 2 form) 24 0 + (cond (eqb form 3) 24 0 + 0))) ≡ identity_length form
by_form zero low high = absurd (omega arith)
by_form (suc zero) low high = refl
by_form (suc (suc zero)) low high = refl
by_form (suc (suc (suc zero))) low high = refl
by_form (suc (suc (suc (suc n)))) low high = absurd (omega arith)

identity-length : (done s : List ℕ) (p : ℕ) → length done ≡ p → T (all good (lay (identity [] p) done s))
    → widths (lay (identity [] p) done s) ≡ identity_length (get_or s 0 0)
unfolding lay present
identity-length done s p size fine =
    let form = get_or s 0 0 in
    let coded = good→ (choice 2 3 []) form (left (good (record { row = choice 2 3 []; val = form })) _ fine) in
    let inside : p < length (done ++ (form ∷ [])) = rw length-append (omega arith) in
    first_width (choice 2 3 []) (drop 1 (identity [] p)) done s
    ∙ ap (λ (n : ℕ). 2 + n) (behind-form p form (done ++ (form ∷ [])) (tail s) inside (get_or_at done form [] 0 p size))
    ∙ by_form form coded.low coded.high

-- ---- the items of a list
-- item i is there exactly where the list has more than i of them
item-there : (items : Items) (i count : ℕ) → (least items i ≤ count → i < many_items items count) × (count < least items i → many_items items count ≤ i)
item-there Letters i count = (λ h. omega arith, λ h. omega arith)
item-there Numbers i count = go (ltb i 2) (ltb count 3) refl refl
  where
    go : (a b : Bool) → ltb i 2 ≡ a → ltb count 3 ≡ b
        → (cond a (i + 1) (i + 2) ≤ count → i < cond b count (count - 1)) × (count < cond a (i + 1) (i + 2) → cond b count (count - 1) ≤ i)
    go true true d e = (λ h. omega arith, λ h. omega arith)
    go true false d e = (λ h. omega (arith, ltb-true i 2 d, ltb-false count 3 e), λ h. omega (arith, ltb-true i 2 d, ltb-false count 3 e))
    go false true d e = (λ h. omega (arith, ltb-false i 2 d, ltb-true count 3 e), λ h. omega (arith, ltb-false i 2 d, ltb-true count 3 e))
    go false false d e = (λ h. omega (arith, ltb-false i 2 d), λ h. omega (arith, ltb-false i 2 d))

-- an item under conditions, where they hold and where they do not
module _ (hang : List Condition) (done s : List ℕ) (p : ℕ) (size : length done ≡ p) where
  item-length : (items : Items) → present done hang ≡ true → T (all good (lay (item items hang p) done s))
      → widths (lay (item items hang p) done s) ≡ item_length items (get_or s 0 0)
  unfolding rows_of lay widths
  item-length Numbers on fine =
      let same = lay-shape Identity hang p done s on in
      ap widths same ∙ identity-length done s p size (subst (λ (l : List Laid). T (all good l)) same fine)
  item-length Letters on fine = first_width (number 8 hang) [] done s ∙ rw on

  item-absent : (items : Items) → present done hang ≡ false → widths (lay (item items hang p) done s) ≡ 0
  unfolding rows_of
  item-absent Numbers off = (shape-absent Identity hang done s p size off).0
  item-absent Letters off = (shape-absent (Number 8) hang done s p size off).0

-- n items from item i on, of the list whose count is at the place t
module _ (items : Items) (t count : ℕ) (s : List ℕ) where
  abbrev many : ℕ
  many = many_items items count

  -- one item, and those behind it
  items-turn : (p i : ℕ) (done : List ℕ) (one rest : ℕ) → length done ≡ p → get_or done t 0 ≡ count → let hang = at_least t (least items i) ∷ [] in
      T (all good (lay (item items hang p) done (drop p s))) → one ≡ widths (lay (item items hang p) done (drop p s))
      → rest ≡ items_length items s (p + stride items) (many - (i + 1)) → one + rest ≡ items_length items s p (many - i)
  unfolding items_length
  items-turn p i done one rest size e fine d more = go (leb (least items i) count) refl
    where
      hang : List Condition
      hang = at_least t (least items i) ∷ []

      go : (b : Bool) → leb (least items i) count ≡ b → one + rest ≡ items_length items s p (many - i)
      go true f =
          let next : many - i ≡ suc (many - (i + 1)) = omega (arith, (item-there items i count).0 (leb-true _ _ f)) in
          let own = item-length hang done (drop p s) p size items (seen-from done t count (least items i) e ∙ f) fine in
          ap₂ ◌+◌ (d ∙ own ∙ ap (item_length items) (get_or-drop p s 0 0 ∙ ap (λ (q : ℕ). get_or s q 0) (add-zero p))) more
          ∙ sym (ap (items_length items s p) next)
      go false f =
          let gone = (item-there items i count).1 (leb-false _ _ f) in
          let none : many - i ≡ 0 = omega arith in
          let last : many - (i + 1) ≡ 0 = omega arith in
          let own = item-absent hang done (drop p s) p size items (seen-from done t count (least items i) e ∙ f) in
          ap₂ ◌+◌ (d ∙ own) (more ∙ ap (items_length items s (p + stride items)) last) ∙ sym (ap (items_length items s p) none)

  items-length : (p i n : ℕ) (done : List ℕ) → length done ≡ p → t < p → get_or done t 0 ≡ count → many ≤ i + n
      → T (all good (lay (repeated items t p i n) done (drop p s)))
      → widths (lay (repeated items t p i n) done (drop p s)) ≡ items_length items s p (many - i)
  unfolding repeated lay widths items_length
  items-length p i zero done size before e few fine =
      let none : many - i ≡ 0 = omega arith in
      sym (ap (items_length items s p) none)
  items-length p i (suc n) done size before e few fine =
      let hang : List Condition = at_least t (least items i) ∷ [] in
      let one = item items hang p in
      let more = repeated items t (p + stride items) (i + 1) n in
      let rows = length-item items hang p in
      let fines = parts-good one more done s p (stride items) size rows fine in
      let found = vals (lay one done (drop p s)) in
      let later = items-length (p + stride items) (i + 1) n (done ++ found) (parts-size one more done s p (stride items) size rows) (omega arith)
      (done-stays done found t (omega (arith, size)) ∙ e) (omega arith) fines.1 in
      parts-widths one more done s p (stride items) size rows
      ∙ items-turn p i done _ _ size e fines.0 refl later

-- a list: its count, and its items
many-few : (items : Items) (count : ℕ) → count < 1 + codes_of items → many_items items count ≤ times items
many-few Letters count h = omega arith
many-few Numbers count h = go (ltb count 3) refl
  where
    go : (b : Bool) → ltb count 3 ≡ b → cond b count (count - 1) ≤ 10
    go true e = omega (arith, ltb-true count 3 e)
    go false e = omega arith

-- its bits, and that it has no more items than its count can say
list_length_lem : (items : Items) (done s : List ℕ) (p : ℕ) → length done ≡ p → T (all good (lay (rows_of (shape.List items) [] p) done (drop p s)))
    → (widths (lay (rows_of (shape.List items) [] p) done (drop p s)) ≡ list_length items s p) × (many_items items (get_or s p 0) ≤ times items)
unfolding rows_of lay present vals widths
list_length_lem items done s p size fine =
    let first = choice 4 (codes_of items) [] in
    let count = get_or (drop p s) 0 0 in
    let same : count ≡ get_or s p 0 = get_or-drop p s 0 0 ∙ ap (λ (q : ℕ). get_or s q 0) (add-zero p) in
    let all_of : many_items items count - 0 ≡ many_items items count = omega arith in
    let more = repeated items p (p + 1) 0 (times items) in
    let fines = parts-good (first ∷ []) more done s p 1 size refl fine in
    let coded = good→ first count (left (good (record { row = first; val = count })) true fines.0) in
    let few = many-few items count coded.high in
    let behind = items-length items p count s (p + 1) 0 (times items) (done ++ (count ∷ [])) (parts-size (first ∷ []) more done s p 1 size refl) (omega arith)
    (get_or_at done count [] 0 p size) (omega (arith, few)) fines.1 in (
      parts-widths (first ∷ []) more done s p 1 size refl
          ∙ ap (λ (n : ℕ). 4 + n) (behind ∙ ap (items_length items s (p + 1)) (all_of ∙ ap (many_items items) same)),
      subst (λ (n : ℕ). many_items items n ≤ times items) same few,
    )

-- ---- no more than these
identity-most : (form : ℕ) → identity_length form ≤ 50
identity-most form = go (eqb form 1) (eqb form 2) (eqb form 3)
  where
    go : (a b c : Bool) → cond a 10 (cond b 26 (cond c 50 0)) ≤ 50
    go true b c = omega arith
    go false true c = omega arith
    go false false true = omega arith
    go false false false = omega arith

item-most : (items : Items) (v : ℕ) → item_length items v ≤ longest_item items
item-most Numbers form = identity-most form
item-most Letters letter = omega arith

items-most : (items : Items) (s : List ℕ) (p n : ℕ) → items_length items s p n ≤ n * longest_item items
unfolding items_length
items-most items s p zero = omega arith
items-most items s p (suc n) =
    omega (arith, item-most items (get_or s p 0), items-most items s (p + stride items) n, suc-mul n (longest_item items))

-- ---- a shape, under its element's conditions
-- a row of no bits has none, whether it is there or not
pub no-width : (n : Refusal) (back : ℕ) (hang : List Condition) (done s : List ℕ) → widths (lay (refuse n back hang ∷ []) done s) ≡ 0
unfolding lay widths
no-width n back hang done s = first_width (refuse n back hang) [] done s ∙ go (present done hang)
  where
    go : (b : Bool) → cond b 0 0 + 0 ≡ 0
    go true = refl
    go false = refl

module _ (hang : List Condition) (done s : List ℕ) (p : ℕ) (size : length done ≡ p) (on : present done hang ≡ true) where
  -- a row that hangs on them alone
  row-width : (w first codes : ℕ) (n : Refusal) → widths (lay (row w first codes n 0 hang ∷ []) done (drop p s)) ≡ w
  unfolding lay widths
  row-width w first codes n = first_width (row w first codes n 0 hang) [] done (drop p s) ∙ rw on (add-zero w)

  pub shape-length : (x : Shape) → T (all good (lay (rows_of x hang p) done (drop p s)))
      → widths (lay (rows_of x hang p) done (drop p s)) ≡ shape_length x s p
  unfolding rows_of shape_length
  shape-length (Number w) fine = row-width w 0 (2 ^ w) Reserved
  shape-length (Choice w n) fine = row-width w 1 n Reserved
  shape-length Identity fine =
      let same = lay-shape Identity hang p done (drop p s) on in
      ap widths same ∙ identity-length done (drop p s) p size (subst (λ (l : List Laid). T (all good l)) same fine)
      ∙ ap identity_length (get_or-drop p s 0 0 ∙ ap (λ (q : ℕ). get_or s q 0) (add-zero p))
  shape-length (shape.List items) fine =
      let same = lay-shape (shape.List items) hang p done (drop p s) on in
      ap widths same ∙ (list_length_lem items done s p size (subst (λ (l : List Laid). T (all good l)) same fine)).0
  shape-length Ending fine = row-width 1 0 1 TypeThree
  shape-length (Missing q) fine = no-width NoGroup _ (is q No ∷ hang) done (drop p s)
  shape-length (Nothing o) fine = no-width NothingFollows _ (nothing_since o ∷ hang) done (drop p s)

  -- and no longer than its shape can be
  pub shape-most : (x : Shape) → T (all good (lay (rows_of x hang p) done (drop p s))) → shape_length x s p ≤ longest_shape x
  unfolding shape_length longest_shape
  shape-most (Number w) fine = omega arith
  shape-most (Choice w n) fine = omega arith
  shape-most Identity fine = identity-most (get_or s p 0)
  shape-most (shape.List items) fine =
      let same = lay-shape (shape.List items) hang p done (drop p s) on in
      let few = (list_length_lem items done s p size (subst (λ (l : List Laid). T (all good l)) same fine)).1 in
      let many = many_items items (get_or s p 0) in
      omega (arith, items-most items s (p + 1) many, mul-le-mul_right (longest_item items) few)
  shape-most Ending fine = omega arith
  shape-most (Missing q) fine = omega arith
  shape-most (Nothing o) fine = omega arith

-- ---- a frame
module _ (kind : Kind) (s : List ℕ) where
  -- an element, told by the places that are done, or by the record itself
  element-length : (e : Element) (done : List ℕ) (p : ℕ) → length done ≡ p → let hang = conditions_of e.0 in
      present done hang ≡ present s hang → T (all good (lay (rows_of e.1 hang p) done (drop p s)))
      → widths (lay (rows_of e.1 hang p) done (drop p s)) ≡ element_length e s p
  element-length e done p size agree fine = go (present s (conditions_of e.0)) refl
    where
      hang : List Condition
      hang = conditions_of e.0

      go : (b : Bool) → present s hang ≡ b → widths (lay (rows_of e.1 hang p) done (drop p s)) ≡ cond b (shape_length e.1 s p) 0
      go true d = shape-length hang done s p size (agree ∙ d) e.1 fine
      go false d = (shape-absent e.1 hang done (drop p s) p size (agree ∙ d)).0

  elements-length : (es : List Element) (p : ℕ) (done : List ℕ) → length done ≡ p → clean kind s ≡ done ++ vals (lay (unrolled es p) done (drop p s))
      → T (chained_from (rows kind) es p) → T (all good (lay (unrolled es p) done (drop p s)))
      → widths (lay (unrolled es p) done (drop p s)) ≡ elements_length es s p
  unfolding unrolled lay widths elements_length
  elements-length [] p done size whole chain fine = refl
  elements-length (e ∷ es) p done size whole chain fine =
      let hang = conditions_of e.0 in
      let own = rows_of e.1 hang p in
      let more = unrolled es (p + span e.1) in
      let n = length-shape e.1 hang p in
      let found = vals (lay own done (drop p s)) in
      let others = lay more (done ++ found) (drop (p + span e.1) s) in
      let fines = parts-good own more done s p (span e.1) size n fine in
      let links = chain_first (rows kind) e es p chain in
      let front : take p done ≡ take p (clean kind s) =
      take_all p done (omega (arith, size)) ∙ sym (ap (take p) whole ∙ take_at done (vals (lay (own ++ more) done (drop p s))) p size) in
      let agree = (looks-agree kind s done p e links.0 links.1 front).0 in
      let whole' : clean kind s ≡ (done ++ found) ++ vals others =
      whole
      ∙ ap (λ (l : List Laid). done ++ vals l) (parts own more done s p (span e.1) size n)
      ∙ ap (λ (l : List ℕ). done ++ l) (vals-append (lay own done (drop p s)) others)
      ∙ sym (append_assoc done found (vals others)) in
      parts-widths own more done s p (span e.1) size n
      ∙ ap₂ ◌+◌ (element-length e done p size agree fines.0)
      (elements-length es (p + span e.1) (done ++ found) (parts-size own more done s p (span e.1) size n) whole' links.2 fines.1)

  -- what is written is as long as the formula says
  pub length-written : T (valid kind s) → length (write kind s) ≡ frame_length kind s
  unfolding write valid frame_length clean rows
  length-written fine =
      length-append (head kind) (emit (laid kind s))
      ∙ ap₂ ◌+◌ (head-length kind)
      (length-emit (laid kind s) ∙ elements-length (table_of kind) 0 [] refl refl (tables-chained kind) fine)
