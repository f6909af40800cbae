-- Laws of the reply: which it is by the line's heading; and that the digits behind a refusal tell its bit.
use mathlib.Core.Path.{◌≡◌}
use mathlib.Core.List.{List}
use Prim.Native.Nat.{ℕ, ◌+◌, ◌*◌, ◌/◌, ◌%◌}
use native.Mathlib.Omega.{arith}
use Rattle.refusal.specs.declared.Refusal.{Refusal}
use Rattle.refusal.specs.declared.Refusal.TheVariants.{BadLine}
use Rattle.refusal.specs.Reply.{refused}
use Rattle.layout.specs.Frame.{reading_of}
use Rattle.layout.specs.declared.Kind.{Kind}
use Rattle.std.specs.Prelude.{Some, None, Err}
use Rattle.layout.proofs.WhereLent.{refused-in, bit-within}
use Rattle.house.specs.Hex.{bytes_from}
use Rattle.house.specs.Heading.{heading_of, split_of}
use Rattle.house.specs.Echo.{answer_to, echo_line}
use Rattle.house.proofs.Headings.{few_bits}

pub reply-bad : (line : List ℕ) → heading_of line ≡ None → echo_line line ≡ refused BadLine
unfolding echo_line
reply-bad line known = rw known

pub reply-frame : (line : List ℕ) (kind : Kind) (bits : ℕ) (bytes : List ℕ) → heading_of line ≡ Some (kind, bits) → bytes ≡ bytes_from (split_of line)
    → echo_line line ≡ answer_to kind (reading_of kind bytes bits)
unfolding echo_line
reply-frame line kind bits bytes known same = rw (known, same)

-- the four digits behind a refusal tell its bit whole
pub bit-told : (line : List ℕ) (kind : Kind) (bits : ℕ) (n : Refusal) (bit : ℕ) → heading_of line ≡ Some (kind, bits)
    → reading_of kind (bytes_from (split_of line)) bits ≡ Err (record { refusal = n; bit = bit }) → bit / 256 % 256 * 256 + bit % 256 ≡ bit
bit-told line kind bits n bit known e =
    let bytes = bytes_from (split_of line) in
    let low = bit-within kind bytes bits n bit (refused-in kind bytes bits n bit e) in
    omega (arith, low, few_bits line (kind, bits) known)
