-- Characters and digits, as the numbers of their bytes: a quoted text; hexadecimal digits, as house text has them.
use Rattle.std.specs.Prelude.{List, [], ◌∷◌, ◌++◌, ℕ, zero, suc, ◌/◌, ◌%◌}
use Prim.Native.Char.{code}
use Prim.Native.String.{String, [] as end, ◌∷◌ as ◌then◌}
use Rattle.house.specs.Hex.{digit_of}

-- a quoted text
abbrev pub quoted : String → List ℕ
quoted end = []
quoted (character then more) = code character ∷ quoted more

-- so many digits of a value, its lowest
abbrev pub digits_text : ℕ → ℕ → List ℕ
digits_text value zero = []
digits_text value (suc width) = digits_text (value / 16) width ++ (digit_of (value % 16) ∷ [])
