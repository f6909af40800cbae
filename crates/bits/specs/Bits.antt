-- Bits, highest first: a number as a run of bits, and bytes as one; each with its way back.
-- Assumes nothing.
use Rattle.std.specs.Prelude.{ℕ, zero, suc, ◌+◌, ◌-◌, ◌*◌, ◌/◌, ◌%◌, ◌^◌, ◌<◌, Bool, true, false, List, [], ◌∷◌, ◌++◌, eqb, length, get_or, take, drop, replicate}

-- whether a number's lowest bit is 1
abbrev pub odd : ℕ → Bool
odd n = eqb (n % 2) 1

-- a bit as a number
abbrev pub bit : Bool → ℕ
bit false = 0
bit true = 1

-- the lowest w bits of n
unfoldable pub digits : ℕ → ℕ → List Bool
digits zero n = []
digits (suc w) n = odd (n / 2 ^ w) ∷ digits w (n % 2 ^ w)

-- the number that a run of bits stands for
unfoldable pub value : List Bool → ℕ
value [] = 0
value (b ∷ bs) = bit b * 2 ^ length bs + value bs

-- the bits of bytes
unfoldable pub bits_of : List ℕ → List Bool
bits_of [] = []
bits_of (b ∷ bs) = digits 8 b ++ bits_of bs

-- how many bytes hold n bits
abbrev pub bytes_for : ℕ → ℕ
bytes_for n = (n + 7) / 8

-- the bits that are spare in the last of the bytes that hold n bits, each 0
abbrev pub spare : ℕ → List Bool
spare n = replicate (8 * bytes_for n - n) false

-- the first n bytes of a run of bits
unfoldable pub pack : ℕ → List Bool → List ℕ
pack zero bits = []
pack (suc n) bits = value (take 8 bits) ∷ pack n (drop 8 bits)

-- a run of bits as bytes, with 0 in the spare bits of the last
unfoldable pub bytes_of : List Bool → List ℕ
bytes_of bits = pack (bytes_for (length bits)) (bits ++ spare (length bits))

-- each of a list is a byte
abbrev pub Bytes : List ℕ → Type 0
Bytes xs = (i : ℕ) → get_or xs i 0 < 256
