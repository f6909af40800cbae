-- A place looked for by halving, among entries of any kind. Where the entries rise it is the place of the key (proofs/HalvingLaws.antt).
use Rattle.std.specs.Prelude.{ℕ, zero, suc, ◌+◌, ◌-◌, ◌/◌, Bool, false, cond, List, [], ◌∷◌, eqb, length}
use Rattle.std.proofs.Math.Option.{Option, none, some}

-- the middle of so many places from a place on: where it passes, those behind it are gone on with, else those before it
unfoldable pub halving : (ℕ → Bool) → ℕ → ℕ → ℕ → ℕ
halving passes zero from left = from
halving passes (suc turns) from left =
    cond (eqb left 0) from
    (cond (passes (from + left / 2))
    (halving passes turns (from + (left / 2 + 1)) (left - (left / 2 + 1)))
    (halving passes turns from (left / 2)))

-- the element at a place, none past the last
abbrev pub element_at : {A : Type 0} → ℕ → List A → Option A
element_at i [] = none
element_at zero (x ∷ l) = some x
element_at (suc i) (x ∷ l) = element_at i l

module _ {K X : Type 0} (below : K → K → Bool) where
  -- whether an entry comes before a key
  abbrev pub before : K → Option (K × X) → Bool
  before k none = false
  before k (some e) = below e.0 k

  -- the place of a key: as many turns as entries are enough
  abbrev pub place_in : List (K × X) → K → ℕ
  place_in l k = halving (λ i. before k (element_at i l)) (length l) 0 (length l)
