-- A law of the keys handed on: a list's keys are read back as they were placed.
use Prim.Native.Nat.{ℕ}
use mathlib.Core.Path.{◌≡◌}
use mathlib.Core.List.{List}
use lib.ListN.{length, take}
use lib.Seq.{take-append_seam}
use Rattle.order.specs.Keys.{placed}

pub keys-held : (n : ℕ) (l : List ℕ) → take (length l) (placed n l) ≡ l
keys-held n l = take-append_seam l _
