-- The characters of a line that are no digits, by their codes.
use Rattle.std.specs.Prelude.{ℕ}

abbrev pub blank : ℕ
blank = 32

abbrev pub comma : ℕ
comma = 44

abbrev pub hyphen : ℕ
hyphen = 45

abbrev pub dot : ℕ
dot = 46

abbrev pub slash : ℕ
slash = 47

abbrev pub colon : ℕ
colon = 58

abbrev pub letter_n : ℕ
letter_n = 78

abbrev pub letter_y : ℕ
letter_y = 89

abbrev pub letter_a : ℕ
letter_a = 97

abbrev pub letter_d : ℕ
letter_d = 100
