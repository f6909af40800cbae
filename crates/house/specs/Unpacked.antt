-- A line whose bytes were taken into a buffer: what is known by its heading.
use Rattle.std.specs.Prelude.{◌≡◌, List, ℕ, ◌+◌, ◌*◌, ◌≤◌, length, Option, Some, None}
use Rattle.std.proofs.lemmas.List.Edits.{sets}
use Rattle.bits.specs.Bits.{bytes_for}
use Rattle.layout.specs.declared.Kind.{Kind}
use Rattle.house.specs.Hex.{bytes_from}
use Rattle.house.specs.Heading.{heading_of}

-- a line of so many digits holds the bytes of its bits
abbrev pub Holds : ℕ → Option (Kind × ℕ) → Type 0
Holds digits (Some heading) = digits ≡ 6 + 2 * bytes_for heading.1
Holds digits None = Unit {0}

-- the front of the buffer holds the line's bytes
abbrev pub Filled : (line before after : List ℕ) → Option (Kind × ℕ) → Type 0
Filled line before after (Some heading) = (after ≡ sets before 0 (bytes_from line)) × (length line ≤ 432)
Filled line before after None = Unit {0}

pub record Unpacked (line before after : List ℕ) (heading : Option (Kind × ℕ)) : Type 0 where
  pub named : heading ≡ heading_of line
  pub holds : Holds (length line) heading
  pub filled : Filled line before after heading
