-- What `take`, `field_from` and `first_two` answer of each field, in document 01's terms.
-- Assumes nothing.
use mathlib.Core.Path.{◌≡◌, refl}
use Prim.Native.Nat.{ℕ, ◌+◌, ◌*◌}
use mathlib.Core.Bool.{Bool, true, false, cond, ◌||◌}
use mathlib.Core.List.{List, [], ◌∷◌}
use lib.Dec.{ltb}
use lib.ListN.{length, take, drop}
use Rattle.bits.specs.Bits.{value, bits_of}
use Rattle.bits.specs.Field.{field_at}
use Rattle.bits.specs.Says.{taken_says}
use Rattle.std.specs.Prelude.{Option}
use Rattle.refusal.specs.declared.Refusal.TheVariants.{EndsInside}
use Rattle.refusal.specs.Says.{accepted, refused_with}

-- what either of two answers says
says-either : (t : Bool) (a b : Option ℕ) → taken_says (cond t a b) ≡ cond t (taken_says a) (taken_says b)
says-either true a b = refl
says-either false a b = refl

-- refusal 1 where the bit count exceeds the lent bits, the field ends past it or is wider than 32 bits; else the field's number
pub field-says : (frame : List ℕ) (bits at width : ℕ)
    → taken_says (field_at frame bits at width)
    ≡ cond (ltb (8 * length frame) bits || ltb bits (at + width) || ltb 32 width)
    (refused_with EndsInside)
    (accepted (value (take width (drop at (take bits (bits_of frame)))) ∷ []))
unfolding field_at
field-says frame bits at width = rw says-either
