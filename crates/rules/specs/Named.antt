-- The numbers that a list names: those of its identities, or all of a range (document 02, P5); and what a list is refused for because of
-- them. `home` is the asker's extension.
use Rattle.std.specs.Prelude.{ℕ, zero, suc, ◌-◌, Bool, false, cond, not, ◌&&◌, ◌||◌, List, [], ◌∷◌, map, eqb, ltb, length}
use Rattle.std.proofs.Math.Option.{Option, none, some}
use Rattle.rules.specs.Lists.{once}
use Rattle.rules.specs.Number.{Number, Numbers, used, identified, identity_key}

-- so many keys in a row, from the first on
abbrev pub consecutive : ℕ → ℕ → List ℕ
consecutive first zero = []
consecutive first (suc n) = first ∷ consecutive (suc first) n

-- how many there are from a first to a last: "both ends count"
abbrev pub span : ℕ → ℕ → ℕ
span first last = suc last - first

-- a range, by its first and its last: all of these, "in rising order"
abbrev pub range : List ℕ → List ℕ
range [] = []
range (first ∷ []) = []
range (first ∷ last ∷ more) = consecutive first (span first last)

-- what a list says of its keys: number type 1 names all of a range, any other the keys themselves
abbrev pub spelled : ℕ → List ℕ → List ℕ
spelled code keys = cond (eqb code 1) (range keys) keys

-- the keys of a list: "A number listed twice counts once, at its first place"
unfoldable pub numbers : ℕ → Numbers → List ℕ
numbers home n = once (spelled n.code (map (identity_key home) (used n)))

-- those of a list that may be missing
abbrev pub numbers_in : ℕ → Option Numbers → List ℕ
numbers_in home none = []
numbers_in home (some n) = numbers home n

-- ---- what is refused: 19 and 20 ----

-- "first above last or extensions differ"
abbrev pub crossed : List Number → Bool
crossed [] = false
crossed (first ∷ []) = false
crossed (first ∷ last ∷ more) = ltb last.ssi first.ssi || not (eqb first.extension last.extension)

abbrev pub bad_range : ℕ → Option Numbers → Bool
bad_range home none = false
bad_range home (some n) = eqb n.code 1 && crossed (map (identified home) (used n))

-- "At most 64 numbers for groups and radios, 10 for owners"
abbrev pub max_numbers : ℕ
max_numbers = 64

abbrev pub max_listed_owners : ℕ
max_listed_owners = 10

-- "too many numbers"
abbrev pub too_many : ℕ → ℕ → Option Numbers → Bool
too_many most home l = ltb most (length (numbers_in home l))
