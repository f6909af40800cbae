-- Pairs' keys: when they are the same, and every group with every radio.
use Prim.Native.Nat.{ℕ, suc, ◌+◌, ◌*◌}
use mathlib.Core.Path.{◌≡◌, refl, sym, ◌∙◌, ap}
use mathlib.Core.Bool.{Bool, true, false, ◌&&◌}
use mathlib.Core.List.{List, [], ◌∷◌, ◌++◌, map}
use lib.Dec.{eqb}
use lib.ListN.{length, length-append, length-map}
use native.Mathlib.Nat.{suc-mul}
use native.Mathlib.Omega.{arith}
use borrow.Author.Tests.{eqb-true}
use Rattle.rules.specs.Lists.{any, keep, mem, sum}
use Rattle.rules.specs.Ledger.{Pair, same_pair}
use Rattle.rules.specs.Steps.{product}
use Rattle.rules.proofs.Tests.{split, clash, and-false}
use Rattle.rules.proofs.ListLaws.{any_append, eqb_same, Apart, Once}
use Rattle.rules.proofs.Walks.{keep_append}

pub pair-sound : (a b : Pair) → same_pair a b ≡ true → a ≡ b
pair-sound a b e = split (eqb a.0 b.0)
    (λ p. split (eqb a.1 b.1)
    (λ q. λ i. (eqb-true a.0 b.0 p i, eqb-true a.1 b.1 q i))
    (λ q. clash (cc)))
    (λ p. clash (cc))

pub pair-itself : (a : Pair) → same_pair a a ≡ true
pair-itself a = cc (eqb_same a.0, eqb_same a.1)

-- ---- every group with every radio ----

pub any-row : (g r x : ℕ) (rs : List ℕ) → any (same_pair (g, r)) (map (λ (y : ℕ). (x, y)) rs) ≡ (eqb g x && mem r rs)
any-row g r x [] = sym (and-false (eqb g x))
any-row g r x (y ∷ rs) = split (eqb g x) (λ e. cc (any-row g r x rs)) (λ e. cc (any-row g r x rs))

pub any-product : (g r : ℕ) (gs rs : List ℕ) → any (same_pair (g, r)) (product gs rs) ≡ (mem g gs && mem r rs)
any-product g r [] rs = refl
any-product g r (x ∷ gs) rs = split (eqb g x)
    (λ e. split (mem r rs)
    (λ f. cc (any_append (same_pair (g, r)) (map (λ (y : ℕ). (x, y)) rs) (product gs rs), any-row g r x rs))
    (λ f. cc (any_append (same_pair (g, r)) (map (λ (y : ℕ). (x, y)) rs) (product gs rs), any-row g r x rs, any-product g r gs rs, and-false (mem g gs))))
    (λ e. cc (any_append (same_pair (g, r)) (map (λ (y : ℕ). (x, y)) rs) (product gs rs), any-row g r x rs, any-product g r gs rs))

row_apart : (g : ℕ) (rs : List ℕ) (rest : List Pair) → Once rs → ((r : ℕ) → any (same_pair (g, r)) rest ≡ false) → Apart same_pair rest
    → Apart same_pair (map (λ (r : ℕ). (g, r)) rs ++ rest)
row_apart g [] rest o h a = a
row_apart g (r ∷ rs) rest o h a = (
  any_append (same_pair (g, r)) (map (λ (x : ℕ). (g, x)) rs) rest ∙ cc (h r, any-row g r g rs, o.0, and-false (eqb g g)),
  row_apart g rs rest o.1 h a,
)

pub product-apart : (gs rs : List ℕ) → Once gs → Once rs → Apart same_pair (product gs rs)
product-apart [] rs o p = tt
product-apart (g ∷ gs) rs o p = row_apart g rs (product gs rs) p
    (λ r. any-product g r gs rs ∙ ap (λ (b : Bool). b && mem r rs) o.0) (product-apart gs rs o.1 p)

-- what passes among all pairs, counted group by group
pub length-product : (p : Pair → Bool) (gs rs : List ℕ) → length (keep p (product gs rs)) ≡ sum (λ g. length (keep (λ r. p (g, r)) rs)) gs
length-product p [] rs = refl
length-product p (g ∷ gs) rs =
    ap length (keep_append p (map (λ (r : ℕ). (g, r)) rs) (product gs rs))
    ∙ length-append (keep p (map (λ (r : ℕ). (g, r)) rs)) (keep p (product gs rs))
    ∙ (λ i. row rs i + length-product p gs rs i)
  where
    row : (rs : List ℕ) → length (keep p (map (λ (r : ℕ). (g, r)) rs)) ≡ length (keep (λ r. p (g, r)) rs)
    row [] = refl
    row (r ∷ rs) = split (p (g, r)) (λ e. cc (row rs)) (λ e. cc (row rs))

-- every group with every radio
pub product-length : (gs rs : List ℕ) → length (product gs rs) ≡ length gs * length rs
product-length [] rs = omega arith
product-length (g ∷ gs) rs =
    let row : List Pair = map (λ (r : ℕ). (g, r)) rs in
    let n : length row ≡ length rs = length-map rs (λ (r : ℕ). (g, r)) in
    let all : length (product gs rs) ≡ length gs * length rs = product-length gs rs in
    let m : suc (length gs) * length rs ≡ length gs * length rs + length rs = suc-mul (length gs) (length rs) in
    length-append row (product gs rs) ∙ (λ i. n i + all i) ∙ omega (arith, m)
