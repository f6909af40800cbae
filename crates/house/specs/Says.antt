-- What a line's heading says in document 01's terms: 0, the kind's number and the bit count; or 9.
use Rattle.std.specs.Prelude.{ℕ, ◌+◌, ◌*◌, Bool, false, ◌&&◌, ◌||◌, List, [], ◌∷◌, leb, eqb, length, get_or, Option, Some, None}
use Rattle.bits.specs.Bits.{bytes_for}
use Rattle.refusal.specs.Says.{Says, accepted, refused_with}
use Rattle.refusal.specs.declared.Refusal.TheVariants.{BadLine}
use Rattle.layout.specs.declared.Kind.{Kind}
use Rattle.layout.specs.Kinds.{kinds, kind_number}
use Rattle.house.specs.Hex.{all_digits, bytes_from}
use Rattle.house.specs.Heading.{bit_count}

abbrev pub line_says : Option (Kind × ℕ) → Says
line_says (Some heading) = accepted (kind_number heading.0 ∷ heading.1 ∷ [])
line_says None = refused_with BadLine

-- a number is one of these kinds'
abbrev pub known : List Kind → ℕ → Bool
known [] number = false
known (kind ∷ more) number = eqb number (kind_number kind) || known more number

-- a line in house text: digits alone, at most 432, as many as its bit count asks for, of a kind that is known
abbrev pub good_line : List ℕ → Bool
good_line line =
    let bytes = bytes_from line in
    all_digits line && leb (length line) 432 && eqb (length line) (6 + 2 * bytes_for (bit_count bytes)) && known kinds (get_or bytes 0 0)
