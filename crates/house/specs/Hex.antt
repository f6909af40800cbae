-- Hexadecimal digits, upper case alone: a byte is two of them.
use Rattle.std.specs.Prelude.{Bool, true, cond, ◌&&◌, List, [], ◌∷◌, ℕ, ◌+◌, ◌-◌, ◌*◌, ◌/◌, ◌%◌, leb, ltb}

-- what a character stands for: 0 to 9, A to F; 16 where it is no digit
unfoldable pub digit_value : ℕ → ℕ
digit_value c = cond (leb 48 c && leb c 57) (c - 48) (cond (leb 65 c && leb c 70) (c - 55) 16)

-- the digit of a value below 16
unfoldable pub digit_of : ℕ → ℕ
digit_of v = cond (ltb v 10) (48 + v) (55 + v)

-- whether every character of a text is a digit
abbrev pub all_digits : List ℕ → Bool
all_digits [] = true
all_digits (c ∷ text) = ltb (digit_value c) 16 && all_digits text

-- the bytes that a run of digits stands for
abbrev pub bytes_from : List ℕ → List ℕ
bytes_from (high ∷ low ∷ text) = (digit_value high * 16 + digit_value low) ∷ bytes_from text
bytes_from (high ∷ []) = []
bytes_from [] = []

-- the digits of a run of bytes
abbrev pub digits_of : List ℕ → List ℕ
digits_of [] = []
digits_of (byte ∷ bytes) = digit_of (byte / 16) ∷ digit_of (byte % 16) ∷ digits_of bytes
