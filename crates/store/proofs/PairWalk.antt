-- Laws of the walk over the pairs beside the groups: its steps, and that it tells whether the pairs rise and each is in its form, its group there.
use mathlib.Core.Path.{◌≡◌, refl, sym, ap, ◌∙◌}
use mathlib.Core.Bool.{Bool, true, false, not, ◌&&◌, ◌||◌}
use mathlib.Core.List.{List, [], ◌∷◌, map}
use Prim.Native.Nat.{ℕ, ◌+◌, ◌≤◌, ◌<◌}
use native.Mathlib.Numerals.{add-one}
use native.Mathlib.Omega.{arith}
use lib.Dec.{eqb, leb, ltb, leb-zero}
use lib.ListN.{length, get_or, drop, drop_of_length-le}
use lib.Seq.{drop-cons}
use borrow.Author.Tests.{eqb-true, eq-eqb, ne_eqb, ltb-true, lt-ltb, le-ltb}
use Rattle.rules.specs.Lists.{all, mem, ahead, rises, Above, Rising}
use Rattle.rules.specs.Mark.{Mark}
use Rattle.rules.specs.Ledger.{Pair}
use Rattle.rules.specs.Number.{key_limit, wide_key}
use Rattle.rules.specs.Written.{good_mark}
use Rattle.rules.specs.ByNumber.{lower, below_pair}
use Rattle.rules.proofs.Tests.{split, clash, and_in, and_l, and_r, and-false, both_ways}
use Rattle.rules.proofs.ListLaws.{eqb-flip}
use Rattle.rules.proofs.ByNumber.{pair-cases}
use Rattle.store.specs.Storage.{pair_of}
use Rattle.store.specs.Form.{key_in, good_next, good_pairs}
use Rattle.store.proofs.Tests.{all-carries, and-turn, narrow}

-- ---- the steps ----

pub pairs_end : (gs : List ℕ) (least : ℕ) → good_pairs gs least [] ≡ true
unfolding good_pairs
pairs_end [] least = refl
pairs_end (g ∷ gs) least = refl

pairs-out : (least : ℕ) (e : Pair × Mark) (l : List (Pair × Mark)) → good_pairs [] least (e ∷ l) ≡ false
unfolding good_pairs
pairs-out least e l = refl

module _ (g : ℕ) (gs : List ℕ) (least : ℕ) (e : Pair × Mark) (l : List (Pair × Mark)) where
  pairs-past : eqb g e.0.0 ≡ false → good_pairs (g ∷ gs) least (e ∷ l) ≡ good_pairs gs 0 (e ∷ l)
  unfolding good_pairs
  pairs-past h = rw h

  pairs_next : eqb g e.0.0 ≡ true → good_pairs (g ∷ gs) least (e ∷ l) ≡ (good_next least e && good_pairs (g ∷ gs) (e.0.1 + 1) l)
  unfolding good_pairs
  pairs_next h = rw h

pub radio-narrow : (least : ℕ) (e : Pair × Mark) → good_next least e ≡ true → e.0.1 < key_limit
radio-narrow least e h = narrow e.0.1 (and_l (not (wide_key e.0.1)) (good_mark e.1)
    (and_r (leb least e.0.1) (not (wide_key e.0.1) && good_mark e.1) h))

-- ---- the walk ----

-- a pair is in its form, its group among these
abbrev pub good_in : List ℕ → Pair × Mark → Bool
good_in gs e = not (wide_key e.0.1) && (good_mark e.1 && mem e.0.0 gs)

-- the first is of a group above g, or it is of g and its radio is not below `least`
abbrev reaches : ℕ → ℕ → List (Pair × Mark) → Bool
reaches g least [] = true
reaches g least (e ∷ l) = ltb g e.0.0 || (eqb g e.0.0 && leb least e.0.1)

above_in : (g x : ℕ) (gs : List ℕ) → Above g gs → mem x gs ≡ true → g < x
above_in g x [] a h = clash (sym h)
above_in g x (y ∷ gs) a h = split (eqb x y)
    (λ e. let q = eqb-true x y e in let b = a.0 in omega arith)
    (λ e. above_in g x gs a.1 (cc))

-- the first pair's group is among them
group-in : (gs : List ℕ) (e : Pair × Mark) (l : List (Pair × Mark)) → all (good_in gs) (e ∷ l) ≡ true → mem e.0.0 gs ≡ true
group-in gs e l = go (not (wide_key e.0.1)) (good_mark e.1) (mem e.0.0 gs) (all (good_in gs) l)
  where
    go : (a b m d : Bool) → ((a && (b && m)) && d) ≡ true → m ≡ true
    go true true m d k = and_l m d k
    go true false m d k = clash (sym k)
    go false b m d k = clash (sym k)

-- the groups a pair may be of, changed
among : (gs hs : List ℕ) (e : Pair × Mark) → (mem e.0.0 gs ≡ true → mem e.0.0 hs ≡ true) → good_in gs e ≡ true → good_in hs e ≡ true
among gs hs e h k = go (not (wide_key e.0.1)) (good_mark e.1) (mem e.0.0 gs) (mem e.0.0 hs) h k
  where
    go : (a b m n : Bool) → (m ≡ true → n ≡ true) → (a && (b && m)) ≡ true → (a && (b && n)) ≡ true
    go true true m n h k = h k
    go true false m n h k = k
    go false b m n h k = k

module _ (g : ℕ) (gs : List ℕ) (a : Above g gs) where
  member : (x : ℕ) → mem x gs ≡ true → mem x (g ∷ gs) ≡ true
  member x h = split (eqb x g) (λ e. cc) (λ e. cc)

  member-past : (x : ℕ) → g < x → mem x (g ∷ gs) ≡ true → mem x gs ≡ true
  member-past x h k = cc (ne_eqb x g (λ q. omega arith))

  -- rising pairs whose first is of a group above g are of the groups after g
  past : (e : Pair × Mark) (l : List (Pair × Mark)) → g < e.0.0 → rises (lower below_pair) (e ∷ l) ≡ true → all (good_in (g ∷ gs)) (e ∷ l) ≡ true
      → all (good_in gs) (e ∷ l) ≡ true
  past e [] h r k = and_in (among (g ∷ gs) gs e (member-past e.0.0 h) (and_l (good_in (g ∷ gs) e) true k)) refl
  past e (f ∷ l) h r k = and_in (among (g ∷ gs) gs e (member-past e.0.0 h) (and_l (good_in (g ∷ gs) e) (all (good_in (g ∷ gs)) (f ∷ l)) k))
      (past f l further (and_r (below_pair e.0 f.0) (rises (lower below_pair) (f ∷ l)) r) (and_r (good_in (g ∷ gs) e) (all (good_in (g ∷ gs)) (f ∷ l)) k))
    where
      further : g < f.0.0
      further = pair-cases e.0 f.0 (and_l (below_pair e.0 f.0) (rises (lower below_pair) (f ∷ l)) r)
          (λ p. let q = ltb-true e.0.0 f.0.0 p in omega arith)
          (λ q p. omega arith)

  -- a first pair of another group: those of g are behind
  beyond : (least : ℕ) (e : Pair × Mark) (l : List (Pair × Mark)) → eqb g e.0.0 ≡ false
      → (rises (lower below_pair) (e ∷ l) && all (good_in gs) (e ∷ l))
      ≡ (reaches g least (e ∷ l) && (rises (lower below_pair) (e ∷ l) && all (good_in (g ∷ gs)) (e ∷ l)))
  beyond least e l h = both_ways (r && all (good_in gs) (e ∷ l)) (reaches g least (e ∷ l) && (r && all (good_in (g ∷ gs)) (e ∷ l)))
      (λ t. let k = and_r r (all (good_in gs) (e ∷ l)) t in
      and_in (first k) (and_in (and_l r (all (good_in gs) (e ∷ l)) t)
      (all-carries (good_in gs) (good_in (g ∷ gs)) (e ∷ l) (λ x. among gs (g ∷ gs) x (member x.0.0)) k)))
      (λ t. let u = and_r (reaches g least (e ∷ l)) (r && all (good_in (g ∷ gs)) (e ∷ l)) t in
      let s = and_l r (all (good_in (g ∷ gs)) (e ∷ l)) u in
      and_in s (past e l (ahead_of (and_l (reaches g least (e ∷ l)) (r && all (good_in (g ∷ gs)) (e ∷ l)) t)) s (and_r r (all (good_in (g ∷ gs)) (e ∷ l)) u)))
    where
      r : Bool
      r = rises (lower below_pair) (e ∷ l)

      first : all (good_in gs) (e ∷ l) ≡ true → reaches g least (e ∷ l) ≡ true
      first k = cc (lt-ltb g e.0.0 (above_in g e.0.0 gs a (group-in gs e l k)))

      ahead_of : reaches g least (e ∷ l) ≡ true → g < e.0.0
      ahead_of k = ltb-true g e.0.0 (split (ltb g e.0.0) (λ p. p) (λ p. clash (cc)))

  -- by what is left behind the group: the whole
  level : (least : ℕ) (l : List (Pair × Mark))
      → ((k : List (Pair × Mark)) → good_pairs gs 0 k ≡ (rises (lower below_pair) k && all (good_in gs) k))
      → good_pairs (g ∷ gs) least l ≡ (reaches g least l && (rises (lower below_pair) l && all (good_in (g ∷ gs)) l))
  level least [] rest = pairs_end (g ∷ gs) least
  level least (e ∷ l) rest = split (eqb g e.0.0)
      (λ h. pairs_next g gs least e l h ∙ ap (λ (z : Bool). good_next least e && z) (level (e.0.1 + 1) l rest)
      ∙ joined (eqb-true g e.0.0 h) h)
      (λ h. pairs-past g gs least e l h ∙ rest (e ∷ l) ∙ beyond least e l h)
    where
      next : g ≡ e.0.0 → (l : List (Pair × Mark)) → reaches g (e.0.1 + 1) l ≡ ahead (lower below_pair) e l
      next q [] = refl
      next q (f ∷ l) = rw (q, add-one e.0.1)

      order : (a b d h r k : Bool) → ((a && (b && d)) && (h && (r && k))) ≡ (a && ((h && r) && ((b && (d && true)) && k)))
      order true true true h r k = sym (and_assoc h r k)
        where
          and_assoc : (a b d : Bool) → ((a && b) && d) ≡ (a && (b && d))
          and_assoc true b d = refl
          and_assoc false b d = refl
      order true true false h r k = sym (and-false (h && r))
      order true false d h r k = sym (and-false (h && r))
      order false b d h r k = refl

      joined : g ≡ e.0.0 → eqb g e.0.0 ≡ true
          → (good_next least e && (reaches g (e.0.1 + 1) l && (rises (lower below_pair) l && all (good_in (g ∷ gs)) l)))
          ≡ (reaches g least (e ∷ l) && (rises (lower below_pair) (e ∷ l) && all (good_in (g ∷ gs)) (e ∷ l)))
      joined q h = rw (next q l, le-ltb g e.0.0 (omega arith), h, eqb-flip e.0.0 g, h)
          (order (leb least e.0.1) (not (wide_key e.0.1)) (good_mark e.1) (ahead (lower below_pair) e l) (rises (lower below_pair) l)
          (all (good_in (g ∷ gs)) l))

-- from the first group on, where the groups rise
pub pairs-good : (gs : List ℕ) → Rising gs → (l : List (Pair × Mark)) → good_pairs gs 0 l ≡ (rises (lower below_pair) l && all (good_in gs) l)
pairs-good [] r [] = pairs_end [] 0
pairs-good [] r (e ∷ l) = pairs-out 0 e l ∙ sym (go (rises (lower below_pair) (e ∷ l)) (not (wide_key e.0.1)) (good_mark e.1) (all (good_in []) l))
  where
    go : (a b d f : Bool) → (a && ((b && (d && false)) && f)) ≡ false
    go a true d f = rw (and-false d, and-false a)
    go a false d f = and-false a
pairs-good (g ∷ gs) r l = level g gs r.0 0 l (pairs-good gs r.1) ∙ start l
  where
    start : (l : List (Pair × Mark))
        → (reaches g 0 l && (rises (lower below_pair) l && all (good_in (g ∷ gs)) l)) ≡ (rises (lower below_pair) l && all (good_in (g ∷ gs)) l)
    start [] = refl
    start (e ∷ l) = both_ways (reaches g 0 (e ∷ l) && (s && all (good_in (g ∷ gs)) (e ∷ l))) (s && all (good_in (g ∷ gs)) (e ∷ l))
        (and_r (reaches g 0 (e ∷ l)) (s && all (good_in (g ∷ gs)) (e ∷ l)))
        (λ t. and_in (first (group-in (g ∷ gs) e l (and_r s (all (good_in (g ∷ gs)) (e ∷ l)) t))) t)
      where
        s : Bool
        s = rises (lower below_pair) (e ∷ l)

        first : mem e.0.0 (g ∷ gs) ≡ true → reaches g 0 (e ∷ l) ≡ true
        first k = split (eqb g e.0.0)
            (λ h. split (ltb g e.0.0) (λ p. cc) (λ p. cc (leb-zero e.0.1)))
            (λ h. cc (lt-ltb g e.0.0 (above_in g e.0.0 gs r.0 (cc (eqb-flip g e.0.0)))))

-- ---- its turns: what is left of the groups and of the pairs tells the whole ----

drop-turn : (l : List (List ℕ)) (i : ℕ) → i < length l → drop i l ≡ get_or l i [] ∷ drop (i + 1) l
drop-turn l i h = rw add-one (drop-cons l i [] h)

module _ (groups pairs : List (List ℕ)) (group i least : ℕ) (w : Bool) (h : i < length pairs)
    (e : good_pairs (map key_in (drop group groups)) least (map pair_of (drop i pairs)) ≡ w) where
  -- no group is left
  pub turn-out : length groups ≤ group → false ≡ w
  turn-out p = rw (drop_of_length-le groups p, drop-turn pairs i h, pairs-out) at e

  module _ (k : group < length groups) where
    -- the pair is of a later group
    pub turn-past : (key_in (get_or groups group []) ≡ (pair_of (get_or pairs i [])).0.0 → ⊥)
        → good_pairs (map key_in (drop (group + 1) groups)) 0 (map pair_of (drop i pairs)) ≡ w
    turn-past d =
        let g = key_in (get_or groups group []) in
        let x = pair_of (get_or pairs i []) in
        let rest = map pair_of (drop (i + 1) pairs) in
        let s = drop-turn pairs i h in
        rw s (sym (pairs-past g (map key_in (drop (group + 1) groups)) least x rest (ne_eqb g x.0.0 d)) ∙ rw (drop-turn groups group k, s) at e)

    -- the pair is of the group: it is good, and the walk goes on behind it, or it is not
    pub turn-next : key_in (get_or groups group []) ≡ (pair_of (get_or pairs i [])).0.0 → (ok : Bool) → ok ≡ good_next least (pair_of (get_or pairs i []))
        → (not ok ≡ false → good_pairs (map key_in (drop group groups)) ((pair_of (get_or pairs i [])).0.1 + 1) (map pair_of (drop (i + 1) pairs)) ≡ w)
        × (not ok ≡ true → false ≡ w)
    turn-next d ok f =
        let g = key_in (get_or groups group []) in
        let x = pair_of (get_or pairs i []) in
        let rest = map pair_of (drop (i + 1) pairs) in
        let gs = map key_in (drop (group + 1) groups) in
        let c = drop-turn groups group k in
        rw c (and-turn ok (good_pairs (g ∷ gs) (x.0.1 + 1) rest) w
        (ap (λ (z : Bool). z && good_pairs (g ∷ gs) (x.0.1 + 1) rest) f ∙ sym (pairs_next g gs least x rest (eq-eqb g x.0.0 d))
        ∙ rw (c, drop-turn pairs i h) at e))
