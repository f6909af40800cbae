-- A walk over a record, between two of its steps: what it has passed, and what stays.
-- Assumes nothing.
use Rattle.std.specs.Prelude.{◌≡◌, ℕ, Option, ⊤, List}
use Rattle.layout.specs.Row.{Row}
use Rattle.writing.specs.declared.walk.Passed.{Passed}
use Rattle.writing.specs.declared.walk.Walk.{Walk}
use Rattle.writing.specs.Pass.{Pass}
use Rattle.writing.specs.Lay.{Lent, Writes, reached}
use Rattle.writing.specs.Found.{Puts}

-- rows, after whatever cleaned record is as the part has it, that begin at the place p of its record
abbrev pub Goes : {P : Type 0} → Pass → (P → Lent) → (List ℕ → Type 0) → List Row → ℕ → Walk P → Walk P → Option ⊤ → Type 0
Goes pass lent known rows p w w' r = Writes pass known rows w.values.now w.at p (lent w.pass.now) (lent w'.pass.now) (reached r w'.at)

-- an element's rows
abbrev pub GoesBy : {P : Type 0} → Pass → (P → Lent) → (List ℕ → Type 0) → List Row → ℕ → Walk P → Walk P → Option Passed → Type 0
GoesBy pass lent known rows p w w' r = Puts pass known rows w.values.now w.at p (lent w.pass.now) (lent w'.pass.now) w'.at r

-- its record, and the pass that is lent to it
abbrev pub SameWalk : {P : Type 0} → Walk P → Walk P → Type 0
SameWalk w w' = (w'.values ≡ w.values) × (w'.pass.ghost_name ≡ w.pass.ghost_name)
