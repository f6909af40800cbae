-- The law of a walk that sums what it counts at each turn.
use mathlib.Core.Path.{◌≡◌}
use mathlib.Core.List.{List, [], ◌∷◌}
use Prim.Native.Nat.{ℕ, ◌+◌, ◌<◌}
use native.Mathlib.Numerals.{add-one}
use native.Mathlib.Omega.{arith}
use lib.ListN.{length, get_or, take}
use lib.Seq.{take-suc}
use Rattle.rules.specs.Lists.{sum}
use Rattle.rules.proofs.Walks.{sum-append}

pub sum-turn : (f : ℕ → ℕ) (xs : List ℕ) (i n m : ℕ) → i < length xs → n ≡ sum f (take i xs) → m ≡ f (get_or xs i 0) → n + m ≡ sum f (take (i + 1) xs)
sum-turn f xs i n m h e d = rw (add-one, take-suc xs i 0 h) (omega (arith, sum-append f (take i xs) (get_or xs i 0 ∷ [])))
