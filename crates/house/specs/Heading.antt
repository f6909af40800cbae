-- The heading of a line of house text: one byte of kind, two of bit count, then the frame's bytes, all in digits.
use Rattle.std.specs.Prelude.{cond, ◌&&◌, List, [], ℕ, ◌+◌, ◌*◌, leb, eqb, length, get_or, drop, Option, Some, None, Result, Ok, Err}
use Rattle.bits.specs.Bits.{bytes_for}
use Rattle.layout.specs.declared.Kind.{Kind}
use Rattle.layout.specs.declared.UnknownKind.{UnknownKind}
use Rattle.layout.specs.Kinds.{kind_named}
use Rattle.house.specs.Hex.{all_digits, bytes_from}

-- the two bytes behind the kind's
abbrev pub bit_count : List ℕ → ℕ
bit_count bytes = get_or bytes 1 0 * 256 + get_or bytes 2 0

-- a kind with the bit count; nothing where the number is no kind's
abbrev pub with_bits : Result Kind UnknownKind → ℕ → Option (Kind × ℕ)
with_bits (Ok kind) bits = Some (kind, bits)
with_bits (Err unknown) bits = None

-- the heading of a line's bytes, if the line has six digits for kind and bit count, and two for each byte that holds the bits
abbrev pub headed : List ℕ → ℕ → Option (Kind × ℕ)
headed bytes digits = cond (eqb digits (6 + 2 * bytes_for (bit_count bytes))) (with_bits (kind_named (get_or bytes 0 0)) (bit_count bytes)) None

-- digits alone, at most 432 of them
unfoldable pub heading_of : List ℕ → Option (Kind × ℕ)
heading_of line = cond (all_digits line && leb (length line) 432) (headed (bytes_from line) (length line)) None

-- the part that holds the frame's digits
abbrev pub part_of : Option (Kind × ℕ) → List ℕ → List ℕ
part_of (Some heading) line = drop 6 line
part_of None line = []

-- the part of a line; nothing where the line is bad
unfoldable pub split_of : List ℕ → List ℕ
split_of line = part_of (heading_of line) line
