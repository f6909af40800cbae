-- Rows put into a room from a place on.
use Rattle.std.specs.Prelude.{ℕ, ◌+◌, cond, leb, length}
use Rattle.std.proofs.Math.Seq.{paste}
use Rattle.store.specs.Storage.{Rows}

-- all of them or, where they do not fit, none
abbrev pub pushed : Rows → ℕ → Rows → Rows
pushed room at rows = cond (leb (at + length rows) (length room)) (paste room at rows (length rows)) room
