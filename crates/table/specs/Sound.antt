-- What the reader and the writer ask of a table: every element can be read and written at its place.
-- Assumes nothing.
use Rattle.std.specs.Prelude.{ℕ, ◌+◌, Bool, true, ◌&&◌, List, [], ◌∷◌, leb, ltb}
use Rattle.layout.specs.declared.Element.{Element}
use Rattle.layout.specs.declared.Shape.{Shape}
use Rattle.layout.specs.declared.Shape.TheVariants.{Number, Choice, Identity, Ending, Missing, Nothing}
use Rattle.layout.specs.declared.Shape.TheVariants as shape
use Rattle.layout.specs.Shape.{span}
pub use Rattle.layout.specs.Row.{Clear}

-- a shape that the code can read and write at a place: fields of 1 to 24 bits, and looks at earlier places only
unfoldable pub sound : Shape → ℕ → Bool
sound (Number w) p = ltb 0 w && leb w 24
sound (Choice w n) p = ltb 0 w && leb w 24
sound Identity p = true
sound (shape.List items) p = true
sound Ending p = true
sound (Missing q) p = ltb q p
sound (Nothing o) p = ltb o p

-- every element can be read and written at its place
unfoldable pub able : List Element → ℕ → Bool
able [] p = true
able (e ∷ es) p = sound e.1 p && able es (p + span e.1)
