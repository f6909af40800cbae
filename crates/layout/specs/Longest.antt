-- All the bits that a shape can have, whatever its record holds.
-- Assumes nothing.
use Rattle.std.specs.Prelude.{ℕ, ◌+◌, ◌*◌}
use Rattle.layout.specs.declared.Items.{Items}
use Rattle.layout.specs.declared.Items.TheVariants.{Numbers, Letters}
use Rattle.layout.specs.declared.Shape.{Shape}
use Rattle.layout.specs.declared.Shape.TheVariants.{Number, Choice, Identity, Ending, Missing, Nothing}
use Rattle.layout.specs.declared.Shape.TheVariants as shape
use Rattle.layout.specs.Shape.{times}
use Rattle.layout.specs.Length.{identity_length}

-- an SSI and extension, a letter
abbrev pub longest_item : Items → ℕ
longest_item Numbers = identity_length 3
longest_item Letters = 8

-- as many items as a list can have
unfoldable pub longest_shape : Shape → ℕ
longest_shape (Number w) = w
longest_shape (Choice w n) = w
longest_shape Identity = longest_item Numbers
longest_shape (shape.List items) = 4 + times items * longest_item items
longest_shape Ending = 1
longest_shape (Missing place) = 0
longest_shape (Nothing o) = 0
