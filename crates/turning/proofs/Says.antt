-- What becomes of a pair, by the documents' states: one that stays has the state that its turn says, and one that leaves has none.
use mathlib.Core.Path.{◌≡◌, refl}
use mathlib.Core.Bool.{true}
use mathlib.Core.List.{List}
use Prim.Native.Nat.{ℕ}
use Rattle.std.specs.Prelude.{Option}
use Rattle.rules.specs.Mark.{Mark}
use Rattle.rules.specs.Ledger.{Pair}
use Rattle.store.proofs.Says.{mark_says}
use Rattle.turning.specs.Turns.{named, turn_of}
use Rattle.turning.specs.Says.{turn_says}
use Rattle.turning.specs.declared.Turn.{Turn}
use Rattle.turning.specs.declared.Turn.TheVariants.{Tick, Remove, Leave}

-- a pair that the order names
pub turn-says : (t : Turn) (groups : List ℕ) (radios : Option (List ℕ)) (k : Pair) (m : Mark) → named groups radios k ≡ true
    → mark_says (turn_of t groups radios k m) ≡ turn_says t m
turn-says Tick groups radios k m n = refl
turn-says Remove groups radios k m n = rw n
turn-says Leave groups radios k m n = rw n
