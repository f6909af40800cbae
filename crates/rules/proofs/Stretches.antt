-- A ledger that is written by number stands in stretches.
use Prim.Native.Nat.{ℕ, ◌≤◌, ◌<◌}
use mathlib.Core.Path.{◌≡◌, refl, sym, ◌∙◌, ap}
use mathlib.Core.Bool.{Bool, true, false, not, ◌&&◌}
use mathlib.Core.List.{List, [], ◌∷◌, ◌++◌, map}
use lib.Dec.{eqb, ltb}
use native.Mathlib.Omega.{arith}
use borrow.Author.Tests.{eqb-true, ltb-true, ne_eqb}
use Rattle.rules.specs.Lists.{all, keep, join, mem, present, Above, Rising}
use Rattle.rules.specs.Number.{wide_key}
use Rattle.rules.specs.Mark.{Mark}
use Rattle.rules.specs.Ledger.{Group, Pair, Ledger, group}
use Rattle.rules.specs.ByNumber.{lower, below_pair, by_number}
use Rattle.rules.specs.Stretches.{stretch, group_numbers, InStretches}
use Rattle.rules.specs.Written.{good_mark, good_pair, written}
use Rattle.rules.specs.History.{History}
use Rattle.rules.specs.Run.{run}
use Rattle.rules.proofs.Tests.{split, clash, and_in, and_l, and_r}
use Rattle.rules.proofs.ListLaws.{eqb-flip}
use Rattle.rules.proofs.EntryLaws.{mem-keys}
use Rattle.rules.proofs.Rises.{Over, Climbs, climbs-rising, rises-rising}
use Rattle.rules.proofs.ByKey.{key-climbs}
use Rattle.rules.proofs.ByNumber.{by_number_lem, numbers-linear, pairs-linear, pair-cases, above-radio}
use Rattle.rules.proofs.Written.{written-form, run-written, pairs-good, good-owners}

-- the pairs of other groups
abbrev rest : ℕ → List (Pair × Mark) → List (Pair × Mark)
rest g l = keep (λ (e : Pair × Mark). not (eqb g e.0.0)) l

-- every pair's group is among these
abbrev within : List ℕ → List (Pair × Mark) → Bool
within gs l = all (λ (e : Pair × Mark). mem e.0.0 gs) l

-- ---- rising pairs, those of the least group first ----

group-rises : (a b : Pair) → below_pair a b ≡ true → a.0 ≤ b.0
group-rises a b h = pair-cases a b h
    (λ p. let q = ltb-true a.0 b.0 p in omega arith)
    (λ q r. omega arith)

past : (g : ℕ) (x : Pair × Mark) (l : List (Pair × Mark)) → g < x.0.0 → Over (lower below_pair) x l → (stretch g l ≡ []) × (rest g l ≡ l)
past g x [] h o = (refl, refl)
past g x (e ∷ l) h o =
    let k = group-rises x.0 e.0 o.0 in
    let n : eqb g e.0.0 ≡ false = ne_eqb g e.0.0 (λ q. omega arith) in
    let r = past g x l h o.1 in
    (rw n r.0, rw n (ap (λ (z : List (Pair × Mark)). e ∷ z) r.1))

least_first : (g : ℕ) (gs : List ℕ) (l : List (Pair × Mark)) → Above g gs → Climbs (lower below_pair) l → within (g ∷ gs) l ≡ true → stretch g l ++ rest g l ≡ l
least_first g gs [] a c w = refl
least_first g gs (e ∷ l) a c w = split (eqb g e.0.0)
    (λ q. rw q (ap (λ (z : List (Pair × Mark)). e ∷ z) (least_first g gs l a c.1 (and_r (mem e.0.0 (g ∷ gs)) (within (g ∷ gs) l) w))))
    (λ q. let h = above gs a (other q (and_l (mem e.0.0 (g ∷ gs)) (within (g ∷ gs) l) w)) in
    let p = past g e l h c.0 in
    rw (q, p.0, p.1) refl)
  where
    other : eqb g e.0.0 ≡ false → mem e.0.0 (g ∷ gs) ≡ true → mem e.0.0 gs ≡ true
    other q m = cc (eqb-flip e.0.0 g)

    above : (gs : List ℕ) → Above g gs → mem e.0.0 gs ≡ true → g < e.0.0
    above [] a m = clash (sym m)
    above (x ∷ gs) a m = split (eqb e.0.0 x)
        (λ p. let r = eqb-true e.0.0 x p in let h = a.0 in omega arith)
        (λ p. above gs a.1 (cc))

-- ---- what is left of them ----

climbs-rest : (g : ℕ) (l : List (Pair × Mark)) → Climbs (lower below_pair) l → Climbs (lower below_pair) (rest g l)
climbs-rest g [] c = tt
climbs-rest g (e ∷ l) c = split (eqb g e.0.0)
    (λ q. rw q (climbs-rest g l c.1))
    (λ q. rw q (over l c.0, climbs-rest g l c.1))
  where
    over : (l : List (Pair × Mark)) → Over (lower below_pair) e l → Over (lower below_pair) e (rest g l)
    over [] o = tt
    over (x ∷ l) o = split (eqb g x.0.0) (λ q. rw q (over l o.1)) (λ q. rw q (o.0, over l o.1))

within-rest : (g : ℕ) (gs : List ℕ) (l : List (Pair × Mark)) → within (g ∷ gs) l ≡ true → within gs (rest g l) ≡ true
within-rest g gs [] w = refl
within-rest g gs (e ∷ l) w =
    let m = and_l (mem e.0.0 (g ∷ gs)) (within (g ∷ gs) l) w in
    let r = within-rest g gs l (and_r (mem e.0.0 (g ∷ gs)) (within (g ∷ gs) l) w) in
    split (eqb g e.0.0)
    (λ q. rw q r)
    (λ q. let n : mem e.0.0 gs ≡ true = cc (eqb-flip e.0.0 g) in rw q (and_in n r))

stretch-rest : (g x : ℕ) (l : List (Pair × Mark)) → g < x → stretch x (rest g l) ≡ stretch x l
stretch-rest g x [] h = refl
stretch-rest g x (e ∷ l) h = split (eqb g e.0.0)
    (λ q. let n : eqb x e.0.0 ≡ false = ne_eqb x e.0.0 (let r = eqb-true g e.0.0 q in λ p. omega arith) in rw (q, n) (stretch-rest g x l h))
    (λ q. split (eqb x e.0.0)
    (λ p. rw (q, p) (ap (λ (z : List (Pair × Mark)). e ∷ z) (stretch-rest g x l h)))
    (λ p. rw (q, p) (stretch-rest g x l h)))

join-rest : (g : ℕ) (gs : List ℕ) (l : List (Pair × Mark)) → Above g gs → join (λ x. stretch x (rest g l)) gs ≡ join (λ x. stretch x l) gs
join-rest g [] l a = refl
join-rest g (x ∷ gs) l a = λ i. stretch-rest g x l a.0 i ++ join-rest g gs l a.1 i

joined : (gs : List ℕ) (l : List (Pair × Mark)) → Rising gs → Climbs (lower below_pair) l → within gs l ≡ true → join (λ g. stretch g l) gs ≡ l
joined [] [] r c w = refl
joined [] (e ∷ l) r c w = clash (sym w)
joined (g ∷ gs) l r c w =
    ap (λ (z : List (Pair × Mark)). stretch g l ++ z)
    (sym (join-rest g gs l r.0) ∙ joined gs (rest g l) r.1 (climbs-rest g l c) (within-rest g gs l w))
    ∙ least_first g gs l r.0 c w

-- ---- the radios of a stretch ----

radios-rise : (g : ℕ) (l : List (Pair × Mark)) → Climbs (lower below_pair) l → Rising (map (λ (e : Pair × Mark). e.0.1) (stretch g l))
radios-rise g [] c = tt
radios-rise g (e ∷ l) c = split (eqb g e.0.0)
    (λ q. rw q (above q l c.0, radios-rise g l c.1))
    (λ q. rw q (radios-rise g l c.1))
  where
    above : eqb g e.0.0 ≡ true → (l : List (Pair × Mark)) → Over (lower below_pair) e l → Above e.0.1 (map (λ (x : Pair × Mark). x.0.1) (stretch g l))
    above q [] o = tt
    above q (x ∷ l) o = split (eqb g x.0.0)
        (λ p. rw p (above-radio e.0 x.0 (sym (eqb-true g e.0.0 q) ∙ eqb-true g x.0.0 p) o.0, above q l o.1))
        (λ p. rw p (above q l o.1))

-- ---- the ledger ----

groups-rising : (l : List (ℕ × Group)) → Climbs (lower ltb) l → Rising (map (λ (e : ℕ × Group). e.0) l)
groups-rising l c = climbs-rising (map (λ (e : ℕ × Group). e.0) l) (keys l c)
  where
    keys : (l : List (ℕ × Group)) → Climbs (lower ltb) l → Climbs ltb (map (λ (e : ℕ × Group). e.0) l)
    keys [] c = tt
    keys (e ∷ l) c = (over l c.0, keys l c.1)
      where
        over : (l : List (ℕ × Group)) → Over (lower ltb) e l → Over ltb e.0 (map (λ (e : ℕ × Group). e.0) l)
        over [] o = tt
        over (x ∷ l) o = (o.0, over l o.1)

good-within : (l : Ledger) (ps : List (Pair × Mark)) → all (good_pair l) ps ≡ true → within (group_numbers l) ps ≡ true
good-within l [] h = refl
good-within l (e ∷ ps) h =
    let g = and_l (good_pair l e) (all (good_pair l) ps) h in
    let narrow = not (wide_key e.0.1) in
    let stands = present (group l e.0.0) in
    and_in (mem-keys e.0.0 l.groups ∙ and_r (good_mark e.1) stands (and_r narrow (good_mark e.1 && stands) g))
    (good-within l ps (and_r (good_pair l e) (all (good_pair l) ps) h))

-- any ledger in the written form
pub in-stretches : (l : Ledger) → written by_number l ≡ true → InStretches l
in-stretches l h =
    let f = written-form by_number l h in
    let c = key-climbs pairs-linear l.pairs f.standing.pairs in
    let rising = groups-rising l.groups (key-climbs numbers-linear l.groups f.standing.groups) in
    record {
      groups = rising;
      unbroken = joined (group_numbers l) l.pairs rising c (good-within l l.pairs (pairs-good by_number l h));
      radios = λ g. radios-rise g l.pairs c;
      owners = λ g x e. rises-rising x.owners (good-owners by_number l f g x e).form;
    }

-- so after every operation of any run
pub run-in-stretches : (h : History) → InStretches (run by_number h)
run-in-stretches h = in-stretches (run by_number h) (run-written by_number by_number_lem h)
