-- A frame of a kind, in bits and in lent bytes: what the reader and the writer answer for any input.
-- Assumes nothing.
use Rattle.std.specs.Prelude.{ℕ, ◌+◌, ◌-◌, ◌*◌, Bool, cond, not, ◌&&◌, List, [], ◌++◌, leb, ltb, eqb, length, take, drop, replicate, Result, Ok, Err, ⊤}
use Rattle.refusal.specs.declared.Refusal.{Refusal}
use Rattle.refusal.specs.declared.Refusal.TheVariants.{EndsInside, WrongKind, Reserved, NoGroup, NoSpace}
use Rattle.bits.specs.Bits.{digits, value, bits_of, bytes_for, bytes_of}
use Rattle.layout.specs.declared.Kind.{Kind}
use Rattle.layout.specs.declared.Record.{Record}
use Rattle.layout.specs.declared.Refused.{Refused}
use Rattle.layout.specs.Row.{Row, all}
use Rattle.layout.specs.Read.{Answer, frame, refused, read_rows}
use Rattle.layout.specs.Write.{Laid, lay, good, good_but_group, vals, emit}
use Rattle.layout.specs.Shape.{unrolled}
use Rattle.layout.specs.Kinds.{table_of, ss_type, action_type}

-- the rows of a kind's table, after the head
unfoldable pub rows : Kind → List Row
rows kind = unrolled (table_of kind) 0

unfoldable pub head : Kind → List Bool
head kind = digits 6 ss_type ++ digits 4 (action_type kind)

-- the bits of a head
abbrev pub head_bits : ℕ
head_bits = 10

-- the places of a record of any kind
abbrev pub places : ℕ
places = 166

-- ---- reading
-- the head first; WrongKind comes at its end
unfoldable pub read : Kind → List Bool → Answer
read kind bits =
    cond (ltb (length bits) 6) (refused EndsInside 0)
    (cond (ltb (length bits) head_bits) (refused EndsInside 6)
    (cond (not (eqb (value (take 6 bits)) ss_type)) (refused WrongKind 0)
    (cond (not (eqb (value (take 4 (drop 6 bits))) (action_type kind))) (refused WrongKind 6)
    (read_rows (rows kind) [] head_bits (drop head_bits bits)))))

-- a frame of `count` bits in lent bytes
unfoldable pub read_bytes : Kind → List ℕ → ℕ → Answer
read_bytes kind bytes count = cond (ltb (8 * length bytes) count) (refused EndsInside 0) (read kind (take count (bits_of bytes)))

-- a record with nothing in it
abbrev pub blank_of : Record
blank_of = record { place = replicate places 0 }

-- a record as the reader hands it over, filled up with 0
abbrev pub filled : List ℕ → List ℕ
filled s = s ++ replicate (places - length s) 0

-- the record, filled up; or the refusal and its bit
unfoldable pub as_reading : Answer → Result Record Refused
as_reading (frame s) = Ok (record { place = filled s })
as_reading (refused n at) = Err (record { refusal = n; bit = at })

unfoldable pub reading_of : Kind → List ℕ → ℕ → Result Record Refused
reading_of kind bytes count = as_reading (read_bytes kind bytes count)

-- ---- writing
abbrev pub laid : Kind → List ℕ → List Laid
laid kind s = lay (rows kind) [] s

-- the record with 0 at the places that are not used
unfoldable pub clean : Kind → List ℕ → List ℕ
clean kind s = vals (laid kind s)

unfoldable pub valid : Kind → List ℕ → Bool
valid kind s = all good (laid kind s)

unfoldable pub write : Kind → List ℕ → List Bool
write kind s = head kind ++ emit (laid kind s)

-- a value without a code anywhere is Reserved; NoGroup is told where nothing else is wrong
unfoldable pub judged_of : Kind → List ℕ → Result ⊤ Refusal
judged_of kind s =
    cond (all good (laid kind s)) (Ok tt)
    (cond (all good_but_group (laid kind s)) (Err NoGroup) (Err Reserved))

-- `bits` bits have their bytes among `size` bytes from the byte `start` on
abbrev pub room : ℕ → ℕ → ℕ → Bool
room bits size start = leb start size && leb (bytes_for bits) (size - start)

abbrev pub written_if : Result ⊤ Refusal → ℕ → ℕ → ℕ → Result ℕ Refusal
written_if (Ok _) bits size start = cond (room bits size start) (Ok bits) (Err NoSpace)
written_if (Err n) bits size start = Err n

unfoldable pub written_of : Kind → List ℕ → ℕ → ℕ → Result ℕ Refusal
written_of kind s size start = written_if (judged_of kind s) (length (write kind s)) size start

-- the bytes before and after the frame stay, and so does all on a refusal
abbrev pub output_if : Result ℕ Refusal → List Bool → List ℕ → ℕ → List ℕ
output_if (Ok n) bits out start = take start out ++ (bytes_of bits ++ drop (start + bytes_for n) out)
output_if (Err n) bits out start = out

unfoldable pub output_of : Kind → List ℕ → List ℕ → ℕ → List ℕ
output_of kind s out start = output_if (written_of kind s (length out) start) (write kind s) out start
