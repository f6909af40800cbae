-- The tests of every order stand in the law's order: their numbers are those of it that the order has, one after another. And tests behind tests.
use Prim.Native.Nat.{ℕ, zero, suc}
use mathlib.Core.Path.{◌≡◌, refl}
use mathlib.Core.Bool.{Bool, false}
use mathlib.Core.List.{List, [], ◌∷◌, ◌++◌, map}
use mathlib.Core.Option.{none}
use lib.ListN.{get_or}
use Rattle.refusal.specs.Number.{number_of}
use Rattle.refusal.specs.declared.Refusal.{Refusal}
use Rattle.refusal.specs.declared.Refusal.TheVariants.{NotWritten}
use Rattle.rules.specs.Lists.{keep, mem}
use Rattle.rules.specs.Number.{Number}
use Rattle.rules.specs.Order.{Step, define, delete, answer, handover, tick}
use Rattle.rules.specs.World.{World, Tally}
use Rattle.rules.specs.Refusals.{law_order, first, tests, list_tests}
use Rattle.rules.proofs.Tests.{split, clash}

abbrev numbers_of : List (Refusal × Bool) → List ℕ
numbers_of l = map (λ (t : Refusal × Bool). number_of t.0) l

-- so many of the law's order as a list has
abbrev in_law_order : List ℕ → List ℕ
in_law_order l = keep (λ n. mem n l) law_order

pub tests-rise : (w : World) (t : Tally) (s : Step) → numbers_of (tests w t s) ≡ in_law_order (numbers_of (tests w t s))
tests-rise w t (define o room) = refl
tests-rise w t (delete o room) = refl
tests-rise w t (answer a) = refl
tests-rise w t (handover o) = refl
tests-rise w t tick = refl

-- a show's tests are the first of a list's
pub list-tests-rise : (w : World) (asker g : Number) (radios : List ℕ) (room : ℕ)
    → numbers_of (list_tests w asker g radios room) ≡ in_law_order (numbers_of (list_tests w asker g radios room))
list-tests-rise w asker g radios room = refl

-- tests and further tests: where none of the first holds, the others tell
pub first-none : (a b : List (Refusal × Bool)) → first a ≡ none → first (a ++ b) ≡ first b
first-none [] b e = refl
first-none (t ∷ a) b e = split t.1 (λ q. clash (cc)) (λ q. rw q (first-none a b (cc)))

-- where none of the tests holds, each is passed
pub tests-pass : (l : List (Refusal × Bool)) → first l ≡ none → (i : ℕ) → (get_or l i (NotWritten, false)).1 ≡ false
tests-pass [] e i = refl
tests-pass (t ∷ l) e zero = split t.1 (λ q. clash (cc)) (λ q. q)
tests-pass (t ∷ l) e (suc i) = tests-pass l (split t.1 (λ q. clash (cc)) (λ q. cc)) i
