-- The whole bytes that a field lies in, as one number.
-- Assumes nothing.
use Rattle.std.specs.Prelude.{ℕ, zero, suc, ◌+◌, ◌-◌, ◌/◌, ◌%◌, ◌^◌, List, [], ◌∷◌, ◌++◌, take, drop}
use Rattle.bits.specs.Bits.{digits, value, bits_of}

-- the number in the `width` bits from `at` on
abbrev pub value_at : List ℕ → ℕ → ℕ → ℕ
value_at bytes at width = value (take width (drop at (bits_of bytes)))

-- the highest `from` bits of a byte, the lowest `width` of v, and the lowest `after` of another byte, as a number
abbrev pub joined_bits : ℕ → ℕ → ℕ → ℕ → ℕ → ℕ → ℕ
joined_bits first from v width last after = value (digits from (first / 2 ^ (8 - from)) ++ digits width v ++ digits after last)

-- the lowest `count` bytes of a number
unfoldable pub bytes_in : ℕ → ℕ → List ℕ
bytes_in zero n = []
bytes_in (suc count) n = bytes_in count (n / 256) ++ (n % 256 ∷ [])

-- bytes with a number in the `count` of them from `first` on
abbrev pub laid : List ℕ → ℕ → ℕ → ℕ → List ℕ
laid out first count n = take first out ++ bytes_in count n ++ drop (first + count) out
