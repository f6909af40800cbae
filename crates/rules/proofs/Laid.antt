-- What the frame half's judgement says of each place: where every laid row is good, a row that is there has a value with a code.
use Prim.Native.Nat.{ℕ, zero, suc, ◌+◌, ◌≤◌, ◌<◌}
use mathlib.Core.Path.{◌≡◌, refl, sym, ◌∙◌, ap, subst}
use mathlib.Core.Bool.{Bool, true, cond}
use mathlib.Core.List.{List, [], ◌∷◌, ◌++◌, tail, append-nil, append_assoc}
use lib.Dec.{ltb, leb}
use lib.ListN.{length, get_or, take}
use native.Mathlib.Omega.{arith}
use borrow.Author.Tests.{ltb-true, leb-true}
use Rattle.layout.specs.Row.{Row, all, present, bare, there, nothing}
use Rattle.layout.specs.Write.{held, lay, good, vals}
use Rattle.rules.proofs.Tests.{and_l, and_r}

-- a row that is there, with the record's value and the value laid
pub record Coded (r : Row) (value laid : ℕ) : Type 0 where
  pub same : laid ≡ held r value
  pub least : r.first ≤ laid
  pub most : laid < r.first + r.codes

get_or-tail : (s : List ℕ) (k : ℕ) → get_or (tail s) k 0 ≡ get_or s (suc k) 0
get_or-tail [] k = refl
get_or-tail (x ∷ s) k = refl

pub coded : (rows : List Row) (done s : List ℕ) → all good (lay rows done s) ≡ true → (k : ℕ) → k < length rows
    → present (done ++ take k (vals (lay rows done s))) (get_or rows k nothing).hang ≡ true
    → Coded (get_or rows k nothing) (get_or s k 0) (get_or (vals (lay rows done s)) k 0)
unfolding lay vals
coded [] done s g k h p = absurd (omega arith)
coded (r ∷ rows) done s g zero h p =
    let v = held (there done r) (get_or s 0 0) in
    let q : present done r.hang ≡ true = ap (λ (d : List ℕ). present d r.hang) (sym (append-nil done)) ∙ p in
    let e : there done r ≡ bare r = ap (λ (b : Bool). cond b (bare r) nothing) q in
    let i = and_l (good (record { row = there done r; val = v })) (all good (lay rows (done ++ (v ∷ [])) (tail s))) g in
    let here = there done r in
    let above = leb here.first v in
    let below = ltb v (here.first + here.codes) in
    let low = leb-true here.first v (and_l above below i) in
    let high = ltb-true v (here.first + here.codes) (and_r above below i) in
    record {
      same = ap (λ (x : Row). held x (get_or s 0 0)) e;
      least = subst (λ (x : Row). x.first ≤ v) e low;
      most = subst (λ (x : Row). v < x.first + x.codes) e high;
    }
coded (r ∷ rows) done s g (suc k) h p =
    let v = held (there done r) (get_or s 0 0) in
    let rest = lay rows (done ++ (v ∷ [])) (tail s) in
    let i = and_r (good (record { row = there done r; val = v })) (all good rest) g in
    let q : present ((done ++ (v ∷ [])) ++ take k (vals rest)) (get_or rows k nothing).hang ≡ true
    = ap (λ (d : List ℕ). present d (get_or rows k nothing).hang) (append_assoc done (v ∷ []) (take k (vals rest))) ∙ p in
    subst (λ (x : ℕ). Coded (get_or rows k nothing) x (get_or (vals rest) k 0)) (get_or-tail s k) (coded rows (done ++ (v ∷ [])) (tail s) i k (omega arith) q)
