-- Sums over a list: no less than over its front, and no more than so many times the most.
use mathlib.Core.Path.{ap}
use mathlib.Core.List.{List, [], ◌∷◌}
use Prim.Native.Nat.{ℕ, ◌*◌, ◌≤◌}
use native.Mathlib.Nat.{suc-mul}
use native.Mathlib.Omega.{arith}
use lib.ListN.{length, take, drop, take-append-drop}
use Rattle.rules.specs.Lists.{sum}
use Rattle.rules.proofs.Walks.{sum-append}

pub sum-front : (f : ℕ → ℕ) (xs : List ℕ) (k : ℕ) → sum f (take k xs) ≤ sum f xs
sum-front f xs k = omega (arith, ap (sum f) (take-append-drop k xs), sum-append f (take k xs) (drop k xs))

pub sum-most : (f : ℕ → ℕ) (m : ℕ) → ((x : ℕ) → f x ≤ m) → (xs : List ℕ) → sum f xs ≤ length xs * m
sum-most f m h [] = omega arith
sum-most f m h (x ∷ xs) = omega (arith, suc-mul (length xs) m, h x, sum-most f m h xs)
