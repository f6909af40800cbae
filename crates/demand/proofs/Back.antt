-- A ledger in the law's form, laid over contents with room, is read back from them, and they are in the written form.
use mathlib.Core.Path.{◌≡◌, refl, sym, ap, ◌∙◌}
use mathlib.Core.Bool.{true, false, not, ◌&&◌}
use mathlib.Core.List.{List, [], ◌∷◌, ◌++◌, map}
use Prim.Native.Nat.{ℕ, zero, suc, ◌+◌, ◌-◌, ◌≤◌}
use native.Mathlib.Omega.{arith}
use lib.Dec.{ltb, leb}
use lib.ListN.{length, get_or, take, drop, replicate, length-append, length-map, length-replicate}
use lib.Seq.{take_at, get_or_at, drop-append-add}
use borrow.Author.Tests.{leb-true, le-leb, not-true}
use Rattle.rules.specs.Lists.{all, rises}
use Rattle.rules.specs.Number.{wide_key}
use Rattle.rules.specs.Parameters.{Parameters, bad_name, bad_parameters}
use Rattle.rules.specs.Refusals.{max_groups, max_pairs}
use Rattle.rules.specs.Mark.{Mark}
use Rattle.rules.specs.Ledger.{Group, Pair, Ledger}
use Rattle.rules.specs.Written.{max_owners, good_owners, good_group, good_pair, written}
use Rattle.rules.proofs.Tests.{and_in, and_l, and_r}
use Rattle.rules.proofs.Ranges.{in-range}
use Rattle.rules.proofs.Written.{written-form}
use Rattle.order.specs.Walks.{onto}
use Rattle.store.specs.Lists.{Plain}
use Rattle.store.specs.Storage.{Contents, pair_of, pair_row, group_of, group_row, counted, group_count, placing, ledger_of, laid}
use Rattle.order.specs.Row.{letters_of}
use Rattle.store.specs.Form.{blank, tidy, roomy, within, is_written, Sound}
use Rattle.order.proofs.Walks.{onto-length}
use Rattle.store.proofs.FormLaws.{room_of, sound}
use Rattle.store.proofs.Groups.{name-few, group-back}

-- ---- a group in the law's form ----

module _ (e : ℕ × Group) (good : good_group placing e ≡ true) where
  abbrev os : List ℕ
  os = e.1.owners

  abbrev p : Parameters
  p = e.1.parameters

  own : good_owners placing os && not (bad_parameters p) ≡ true
  own = and_r (not (wide_key e.0)) (good_owners placing os && not (bad_parameters p)) good

  name-fine : bad_name p.name ≡ false
  name-fine = (in-range p (not-true (bad_parameters p) (and_r (good_owners placing os) (not (bad_parameters p)) own))).name

  owners-few : length os ≤ max_owners
  owners-few =
      let rest = rises ltb os && all (λ a. not (wide_key a)) os in
      let k = and_r (ltb 0 (length os)) (leb (length os) max_owners && rest) (and_l (good_owners placing os) (not (bad_parameters p)) own) in
      leb-true (length os) max_owners (and_l (leb (length os) max_owners) rest k)

  good-back : group_of (group_row e) ≡ e
  good-back = group-back e.0 os p name-fine owners-few

  -- its row is tidy
  good-tidy : tidy (group_row e) ≡ true
  unfolding group_row
  good-tidy =
      let l = letters_of p.name in
      let few = name-few p.name name-fine in
      let z16 : List ℕ = replicate (16 - length l) 0 in
      let spare : List ℕ = replicate (max_owners - length os) 0 in
      let n : length (l ++ z16) ≡ 16 = rw (length-append l z16, length-replicate {A = ℕ} (16 - length l) 0) (omega (arith, few)) in
      let named : take 16 ((l ++ z16) ++ counted max_owners os) ≡ l ++ z16 = take_at (l ++ z16) (counted max_owners os) 16 n in
      let count : get_or ((l ++ z16) ++ counted max_owners os) 16 0 ≡ length os = get_or_at (l ++ z16) (length os) (os ++ spare) 0 16 n in
      let rest : drop 17 ((l ++ z16) ++ counted max_owners os) ≡ os ++ spare = ap (λ (k : ℕ). drop (k + 1) ((l ++ z16) ++ counted max_owners os)) (sym n)
      ∙ drop-append-add (l ++ z16) (counted max_owners os) 1 in
      rw (named, count, rest, le-leb (length l) 16 few, le-leb (length os) max_owners owners-few)
      (and_in (ends l (16 - length l)) (ends os (max_owners - length os)))
    where
      zeros : (k : ℕ) → blank (replicate k 0) ≡ true
      zeros zero = refl
      zeros (suc k) = zeros k

      ends : (l : List ℕ) (k : ℕ) → blank (drop (length l) (l ++ replicate k 0)) ≡ true
      ends [] k = zeros k
      ends (x ∷ l) k = ends l k

-- ---- all of them ----

pairs-back : (l : List (Pair × Mark)) → map pair_of (map pair_row l) ≡ l
pairs-back [] = refl
pairs-back (e ∷ l) = ap (λ (z : List (Pair × Mark)). e ∷ z) (pairs-back l)

groups-back : (l : List (ℕ × Group)) → all (good_group placing) l ≡ true → map group_of (map group_row l) ≡ l
groups-back [] h = refl
groups-back (e ∷ l) h =
    let good = and_l (good_group placing e) (all (good_group placing) l) h in
    let rest = and_r (good_group placing e) (all (good_group placing) l) h in
    λ i. good-back e good i ∷ groups-back l rest i

groups-tidy : (l : List (ℕ × Group)) → all (good_group placing) l ≡ true → all tidy (map group_row l) ≡ true
groups-tidy [] h = refl
groups-tidy (e ∷ l) h =
    let good = and_l (good_group placing e) (all (good_group placing) l) h in
    let rest = and_r (good_group placing e) (all (good_group placing) l) h in
    and_in (good-tidy e good) (groups-tidy l rest)

-- ---- the ledger, laid ----

groups-good : (l : Ledger) → written placing l ≡ true → all (good_group placing) l.groups ≡ true
groups-good l h =
    let good = all (good_group placing) l.groups && all (good_pair l) l.pairs in
    let groups_stand = placing.groups.form l.groups in
    let pairs_stand = placing.pairs.form l.pairs in
    let once = groups_stand && (pairs_stand && good) in
    let h₁ = and_r (leb (length l.groups) max_groups) (leb (length l.pairs) max_pairs && once) h in
    let h₂ = and_r (leb (length l.pairs) max_pairs) once h₁ in
    let h₃ = and_r groups_stand (pairs_stand && good) h₂ in
    and_l (all (good_group placing) l.groups) (all (good_pair l) l.pairs) (and_r pairs_stand good h₃)

-- rows from which everything is read back
rows-plain : {X : Type 0} (item_of : List ℕ → X) (row_of : X → List ℕ) (l : List X) (rest : List (List ℕ)) → map item_of (map row_of l) ≡ l
    → Plain item_of row_of (length l) (map row_of l ++ rest)
rows-plain item_of row_of [] rest e i h = absurd (omega arith)
rows-plain item_of row_of (x ∷ l) rest e zero h = let q : item_of (row_of x) ≡ x = cc in ap row_of q
rows-plain item_of row_of (x ∷ l) rest e (suc i) h = let q : map item_of (map row_of l) ≡ l = cc in rows-plain item_of row_of l rest q i (omega arith)

module _ (l : Ledger) (c : Contents) (fine : written placing l ≡ true) where
  -- the groups' rows are those in use
  rows-in-use : take (length l.groups) (onto (map group_row l.groups) c.groups) ≡ map group_row l.groups
  rows-in-use = take_at (map group_row l.groups) (drop (length (map group_row l.groups)) c.groups) (length l.groups) (length-map l.groups group_row)

  pub back : ledger_of (laid l c) ≡ l
  back =
      let g : map group_of (take (length l.groups) (onto (map group_row l.groups) c.groups)) ≡ l.groups =
      ap (map group_of) rows-in-use ∙ groups-back l.groups (groups-good l fine) in
      let p : map pair_of (take (length l.pairs) (onto (map pair_row l.pairs) c.pairs)) ≡ l.pairs =
      ap (map pair_of) (take_at (map pair_row l.pairs) (drop (length (map pair_row l.pairs)) c.pairs) (length l.pairs)
      (length-map l.pairs pair_row)) ∙ pairs-back l.pairs in
      λ i. record { groups = g i; pairs = p i }

  -- the room stays
  laid-roomy : roomy c ≡ true → roomy (laid l c) ≡ true
  laid-roomy r =
      let f = written-form placing l fine in
      let s = room_of c r in
      let n : length (map group_row l.groups) ≤ length c.groups = rw (length-map l.groups group_row) (omega (arith, f.few-groups, s.groups)) in
      let m : length (map pair_row l.pairs) ≤ length c.pairs = rw (length-map l.pairs pair_row) (omega (arith, f.few-pairs, s.pairs)) in
      and_in (le-leb 2 (length (onto (length l.groups ∷ length l.pairs ∷ []) c.head))
      (rw (onto-length (length l.groups ∷ length l.pairs ∷ []) c.head s.head) s.head))
      (and_in (le-leb 320 (length (onto (map group_row l.groups) c.groups)) (rw (onto-length (map group_row l.groups) c.groups n) s.groups))
      (le-leb 2048 (length (onto (map pair_row l.pairs) c.pairs)) (rw (onto-length (map pair_row l.pairs) c.pairs m) s.pairs)))

  laid-written : roomy c ≡ true → is_written (laid l c) ≡ true
  unfolding is_written
  laid-written r =
      let f = written-form placing l fine in
      and_in (laid-roomy r)
      (and_in (and_in (le-leb (length l.groups) 320 f.few-groups) (le-leb (length l.pairs) 2048 f.few-pairs))
      (and_in (ap (all tidy) rows-in-use ∙ groups-tidy l.groups (groups-good l fine)) (ap (written placing) back ∙ fine)))

  -- and the rows in use are the rows of what they say
  pub laid-sound : roomy c ≡ true → Sound (laid l c)
  laid-sound r =
      let f = written-form placing l fine in
      sound (laid l c) (laid-written r) (room_of (laid l c) (laid-roomy r)) (record { groups = f.few-groups; pairs = f.few-pairs })
      (rows-plain group_of group_row l.groups (drop (length (map group_row l.groups)) c.groups) (groups-back l.groups (groups-good l fine)))
      (rows-plain pair_of pair_row l.pairs (drop (length (map pair_row l.pairs)) c.pairs) (pairs-back l.pairs))

-- ---- what the written form holds ----

pub form-parts : (c : Contents) → is_written c ≡ true → (roomy c ≡ true) × (written placing (ledger_of c) ≡ true)
unfolding is_written
form-parts c h =
    let rest = all tidy (take (group_count c) c.groups) && written placing (ledger_of c) in
    let h₁ = and_r (roomy c) (within c && rest) h in
    (and_l (roomy c) (within c && rest) h, and_r (all tidy (take (group_count c) c.groups)) (written placing (ledger_of c)) (and_r (within c) rest h₁))
