-- Ranges by computation: what they name, where their ends are bad, and how many are too many. The asker's extension is 7.
use Prim.Native.Nat.{ℕ}
use mathlib.Core.Path.{◌≡◌, refl}
use mathlib.Core.Bool.{true, false}
use mathlib.Core.List.{[], ◌∷◌}
use mathlib.Core.Option.{Option, some}
use Rattle.rules.specs.Number.{Identity, Numbers, key, plain}
use Rattle.rules.specs.Named.{numbers, numbers_in, bad_range, too_many, max_numbers, max_listed_owners}

-- an identity that is a plain SSI, and one with its extension
abbrev short : ℕ → Identity
short ssi = record { form = 1; sna = 0; ssi = ssi; extension = 0 }

abbrev long : ℕ → ℕ → Identity
long ssi extension = record { form = 2; sna = 0; ssi = ssi; extension = extension }

-- a range, from its first to its last
abbrev from_to : Identity → Identity → Option Numbers
from_to first last = some (record { code = 1; places = first ∷ last ∷ [] })

-- ---- "both ends count, in rising order" ----

-- a plain end and one with the asker's own extension
pub four-in-a-row : numbers_in 7 (from_to (short 5) (long 8 7)) ≡ key (plain 7 5) ∷ key (plain 7 6) ∷ key (plain 7 7) ∷ key (plain 7 8) ∷ []
unfolding numbers key
four-in-a-row = refl

-- a range of one: the last SSI there is, FFFFFF
pub one-at-the-end : numbers_in 7 (from_to (short 16777215) (short 16777215)) ≡ key (plain 7 16777215) ∷ []
unfolding numbers key
one-at-the-end = refl

-- ---- "first above last or extensions differ" ----

pub mixed-ends : bad_range 7 (from_to (short 5) (long 8 7)) ≡ false
mixed-ends = refl

pub first-above-last : bad_range 7 (from_to (short 5) (short 4)) ≡ true
first-above-last = refl

pub extensions-differ : bad_range 7 (from_to (short 5) (long 8 6)) ≡ true
extensions-differ = refl

-- ---- "At most 64 numbers for groups and radios, 10 for owners" ----

pub sixty-four : too_many max_numbers 7 (from_to (short 1) (short 64)) ≡ false
unfolding numbers key
sixty-four = refl

pub sixty-five : too_many max_numbers 7 (from_to (short 1) (short 65)) ≡ true
unfolding numbers key
sixty-five = refl

pub ten-owners : too_many max_listed_owners 7 (from_to (short 1) (short 10)) ≡ false
unfolding numbers key
ten-owners = refl

pub eleven-owners : too_many max_listed_owners 7 (from_to (short 1) (short 11)) ≡ true
unfolding numbers key
eleven-owners = refl
