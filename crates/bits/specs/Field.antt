-- A field, a run of at most 32 bits: what is read of it in a frame, and what bytes hold once a number is put into it.
-- Assumes nothing.
use Rattle.std.specs.Prelude.{ℕ, ◌+◌, ◌*◌, cond, ◌||◌, List, ◌++◌, ltb, length, take, drop, Option, Some, None}
use Rattle.bits.specs.Bits.{digits, value, bits_of, bytes_of}

-- the `width` bits from `at` on of a frame's first `bits` bits, as a number
-- none where the bit count exceeds the lent bits, the field ends past the bit count, or it is wider than 32 bits
unfoldable pub field_at : List ℕ → ℕ → ℕ → ℕ → Option ℕ
field_at frame bits at width =
    cond (ltb (8 * length frame) bits || ltb bits (at + width) || ltb 32 width)
    None
    (Some (value (take width (drop at (take bits (bits_of frame))))))

-- the field of `first` bits at a frame's first bit, and behind it the field of `second` bits
abbrev pub first_two : List ℕ → ℕ → ℕ → ℕ → Option ℕ × Option ℕ
first_two frame bits first second = (field_at frame bits 0 first, field_at frame bits first second)

-- bytes with the lowest `width` bits of v in the bits from `at` on
-- as they were where the field ends past them, or is wider than 32 bits
unfoldable pub put_at : List ℕ → ℕ → ℕ → ℕ → List ℕ
put_at out at width v =
    cond (ltb 32 width || ltb (8 * length out) (at + width))
    out
    (bytes_of (take at (bits_of out) ++ digits width v ++ drop (at + width) (bits_of out)))
