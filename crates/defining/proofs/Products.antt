-- Every group with every radio: rising where both rise, and the pair at each place.
use mathlib.Core.Path.{◌≡◌, refl, ap, ◌∙◌}
use mathlib.Core.List.{List, [], ◌∷◌, ◌++◌, map}
use Prim.Native.Nat.{ℕ, zero, suc, ◌+◌, ◌*◌, ◌<◌}
use native.Mathlib.Nat.{suc-mul}
use native.Mathlib.Omega.{arith}
use lib.Dec.{ltb}
use lib.ListN.{length, get_or, length-map, get_or-append}
use lib.Seq.{get_or-append-add}
use Rattle.rules.specs.Ledger.{Pair}
use Rattle.rules.specs.ByNumber.{below_pair}
use Rattle.rules.specs.Steps.{product}
use Rattle.rules.proofs.Rises.{Over, Climbs}
use Rattle.rules.proofs.ByNumber.{pair-low, pair-level}

-- a group's pairs, and those of the groups above it
row-over : (g r : ℕ) (rs : List ℕ) (rest : List Pair) → Over ltb r rs → Over below_pair (g, r) rest
    → Over below_pair (g, r) (map (λ (x : ℕ). (g, x)) rs ++ rest)
row-over g r [] rest h o = o
row-over g r (x ∷ rs) rest h o = (pair-level (g, r) (g, x) refl h.0, row-over g r rs rest h.1 o)

row-climbs : (g : ℕ) (rs : List ℕ) (rest : List Pair) → Climbs ltb rs → ((r : ℕ) → Over below_pair (g, r) rest) → Climbs below_pair rest
    → Climbs below_pair (map (λ (x : ℕ). (g, x)) rs ++ rest)
row-climbs g [] rest c o d = d
row-climbs g (r ∷ rs) rest c o d = (row-over g r rs rest c.0 (o r), row-climbs g rs rest c.1 o d)

above-over : (g r : ℕ) (gs rs : List ℕ) → Over ltb g gs → Over below_pair (g, r) (product gs rs)
above-over g r [] rs h = tt
above-over g r (x ∷ gs) rs h = row rs (above-over g r gs rs h.1)
  where
    row : (ys : List ℕ) → Over below_pair (g, r) (product gs rs) → Over below_pair (g, r) (map (λ (y : ℕ). (x, y)) ys ++ product gs rs)
    row [] o = o
    row (y ∷ ys) o = (pair-low (g, r) (x, y) h.0, row ys o)

pub product-climbs : (gs rs : List ℕ) → Climbs ltb gs → Climbs ltb rs → Climbs below_pair (product gs rs)
product-climbs [] rs c d = tt
product-climbs (g ∷ gs) rs c d = row-climbs g rs (product gs rs) d (λ r. above-over g r gs rs c.0) (product-climbs gs rs c.1 d)

row_at : (g : ℕ) (rs : List ℕ) (j : ℕ) → j < length rs → ◌≡◌ {A = Pair} (get_or (map (λ (r : ℕ). (g, r)) rs) j (0, 0)) (g, get_or rs j 0)
row_at g [] j q = absurd (omega arith)
row_at g (r ∷ rs) zero q = refl
row_at g (r ∷ rs) (suc j) q = row_at g rs j (omega arith)

-- the pair at the place of a group and a radio: so many radios a group
pub product_at : (gs rs : List ℕ) (j k : ℕ) → j < length gs → k < length rs
    → ◌≡◌ {A = Pair} (get_or (product gs rs) (j * length rs + k) (0, 0)) (get_or gs j 0, get_or rs k 0)
product_at [] rs j k h q = absurd (omega arith)
product_at (g ∷ gs) rs zero k h q =
    let row : List Pair = map (λ (r : ℕ). (g, r)) rs in
    let n : length row ≡ length rs = length-map rs (λ (r : ℕ). (g, r)) in
    let e : zero * length rs + k ≡ k = omega arith in
    ap (λ (x : ℕ). get_or (row ++ product gs rs) x (0, 0)) e ∙ get_or-append row (product gs rs) (0, 0) k (omega (arith, n)) ∙ row_at g rs k q
product_at (g ∷ gs) rs (suc j) k h q =
    let row : List Pair = map (λ (r : ℕ). (g, r)) rs in
    let n : length row ≡ length rs = length-map rs (λ (r : ℕ). (g, r)) in
    let e : suc j * length rs + k ≡ length row + (j * length rs + k) = omega (arith, n, suc-mul j (length rs)) in
    ap (λ (x : ℕ). get_or (row ++ product gs rs) x (0, 0)) e ∙ get_or-append-add row (product gs rs) (j * length rs + k) (0, 0)
    ∙ product_at gs rs j k (omega arith) q
