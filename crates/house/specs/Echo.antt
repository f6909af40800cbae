-- The reply to a line of house text: A and the line made anew; or R and the refusal's number, and behind it, where the reader refuses, the bit.
use Rattle.std.specs.Prelude.{cond, List, [], ◌∷◌, ◌++◌, ℕ, ◌/◌, ◌%◌, leb, length, take, replicate, Option, Some, None, Result, Ok, Err}
use Rattle.bits.specs.Bits.{bytes_for}
use Rattle.refusal.specs.Reply.{refused}
use Rattle.refusal.specs.declared.Refusal.{Refusal}
use Rattle.refusal.specs.declared.Refusal.TheVariants.{BadLine}
use Rattle.layout.specs.Kinds.{kind_number}
use Rattle.layout.specs.Frame.{reading_of, written_of, output_of}
use Rattle.layout.specs.declared.Kind.{Kind}
use Rattle.layout.specs.declared.Record.{Record}
use Rattle.layout.specs.declared.Refused.{Refused}
use Rattle.house.specs.Hex.{bytes_from, digits_of}
use Rattle.house.specs.Heading.{heading_of, split_of}

-- a reply where `space` bytes are lent for it: nothing where the longest, A and 432 digits, would not fit
abbrev pub within : ℕ → List ℕ → List ℕ
within space text = cond (leb 433 space) text []

-- a number of 16 bits in two bytes
abbrev pub two_bytes : ℕ → List ℕ
two_bytes n = (n / 256 % 256) ∷ (n % 256) ∷ []

-- R and the number, a blank, and the bit at which the refused element begins, in four digits
abbrev pub refused_at : Refusal → ℕ → List ℕ
refused_at refusal bit = refused refusal ++ (32 ∷ digits_of (two_bytes bit))

-- A and the line: kind, bit count, bytes
abbrev pub taken : Kind → ℕ → List ℕ → List ℕ
taken kind bits bytes = 65 ∷ digits_of (kind_number kind ∷ two_bytes bits ++ bytes)

-- the bytes that the writer is lent for the longest frame
abbrev pub room : List ℕ
room = replicate 213 0

-- what the writer answered, and the bytes that it made
abbrev pub made : Kind → List ℕ → Result ℕ Refusal → List ℕ
made kind place (Ok bits) = taken kind bits (take (bytes_for bits) (output_of kind place room 0))
made kind place (Err refusal) = refused refusal

-- the line of a record
abbrev pub anew : Kind → List ℕ → List ℕ
anew kind place = made kind place (written_of kind place (length room) 0)

-- by what the reader found
abbrev pub answer_to : Kind → Result Record Refused → List ℕ
answer_to kind (Ok values) = anew kind values.place
answer_to kind (Err e) = refused_at e.refusal e.bit

-- by the line's heading and the digits behind it; a bad line is refusal 9
abbrev pub reply : Option (Kind × ℕ) → List ℕ → List ℕ
reply (Some heading) digits = answer_to heading.0 (reading_of heading.0 (bytes_from digits) heading.1)
reply None digits = refused BadLine

unfoldable pub echo_line : List ℕ → List ℕ
echo_line line = reply (heading_of line) (split_of line)

-- the same where `space` bytes are lent for it
abbrev pub echo_within : ℕ → List ℕ → List ℕ
echo_within space line = within space (echo_line line)
