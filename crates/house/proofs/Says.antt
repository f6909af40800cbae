-- What the heading of any line says: 9 exactly where the line is not in house text.
-- Assumes nothing.
use Prim.Native.Nat.{ℕ, ◌+◌, ◌*◌}
use mathlib.Core.Path.{◌≡◌, refl, sym, ap}
use mathlib.Core.Bool.{Bool, true, false, cond, ◌&&◌, ◌||◌}
use mathlib.Core.List.{List, [], ◌∷◌}
use borrow.Author.Tests.{eqb-true}
use lib.Dec.{leb, eqb}
use lib.ListN.{length, get_or}
use Rattle.bits.specs.Bits.{bytes_for}
use Rattle.refusal.specs.Says.{Says, accepted, refused_with}
use Rattle.refusal.specs.declared.Refusal.TheVariants.{BadLine}
use Rattle.layout.specs.declared.Kind.{Kind}
use Rattle.layout.specs.Kinds.{kinds, kind_number, kind_among}
use Rattle.std.specs.Prelude.{None, Ok}
use Rattle.house.specs.Hex.{all_digits, bytes_from}
use Rattle.house.specs.Heading.{bit_count, with_bits, heading_of}
use Rattle.house.specs.Says.{line_says, known, good_line}

-- by kinds: the one of that number, if it is among them
named-says : (list : List Kind) (number bits : ℕ)
    → line_says (with_bits (kind_among list number) bits) ≡ cond (known list number) (accepted (number ∷ bits ∷ [])) (refused_with BadLine)
named-says [] number bits = refl
named-says (kind ∷ list) number bits = go (eqb number (kind_number kind)) refl (named-says list number bits)
  where
    go : (b : Bool) → eqb number (kind_number kind) ≡ b
        → line_says (with_bits (kind_among list number) bits) ≡ cond (known list number) (accepted (number ∷ bits ∷ [])) (refused_with BadLine)
        → line_says (with_bits (cond b (Ok kind) (kind_among list number)) bits) ≡ cond (b || known list number) (accepted (number ∷ bits ∷ [])) (refused_with BadLine)
    go true e rest = ap (λ (n : ℕ). accepted (n ∷ bits ∷ [])) (sym (eqb-true number (kind_number kind) e))
    go false e rest = rest

pub heading-says : (line : List ℕ) → line_says (heading_of line)
    ≡ cond (good_line line) (accepted (get_or (bytes_from line) 0 0 ∷ bit_count (bytes_from line) ∷ [])) (refused_with BadLine)
unfolding heading_of
heading-says line = go (all_digits line) (leb (length line) 432) (eqb (length line) (6 + 2 * bytes_for (bit_count bytes)))
  where
    bytes : List ℕ
    bytes = bytes_from line

    says : Bool → Says
    says b = cond b (accepted (get_or bytes 0 0 ∷ bit_count bytes ∷ [])) (refused_with BadLine)

    go : (a b c : Bool) → line_says (cond (a && b) (cond c (with_bits (kind_among kinds (get_or bytes 0 0)) (bit_count bytes)) None) None)
        ≡ says (a && b && c && known kinds (get_or bytes 0 0))
    go true true true = named-says kinds (get_or bytes 0 0) (bit_count bytes)
    go true true false = refl
    go true false c = refl
    go false b c = refl
