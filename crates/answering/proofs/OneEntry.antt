-- Of entries one is changed or taken out: the one that passes a test, where no other does.
use mathlib.Core.Path.{◌≡◌, refl}
use mathlib.Core.Bool.{Bool, true, false, cond}
use mathlib.Core.List.{List, [], ◌∷◌, ◌++◌}
use mathlib.Core.Option.{Option, some}
use Prim.Native.Nat.{ℕ, zero, suc, ◌<◌}
use native.Mathlib.Omega.{arith}
use lib.ListN.{length, get_or, take, drop}
use Rattle.rules.specs.Entries.{entry, alter}

module _ {K X : Type 0} (test : K → Bool) (o : Option X) (d : K × X) where
  alter-no-entry : (l : List (K × X)) → ((j : ℕ) → j < length l → test (get_or l j d).0 ≡ false) → alter (λ k x. cond (test k) o (some x)) l ≡ l
  alter-no-entry [] f = refl
  alter-no-entry (e ∷ l) f = rw (f 0 (omega arith), alter-no-entry l (λ j h. f (suc j) (omega arith)))

  pub alter-one-entry : (l : List (K × X)) (i : ℕ) → i < length l → ((j : ℕ) → j < i → test (get_or l j d).0 ≡ false) → test (get_or l i d).0 ≡ true
      → ((j : ℕ) → i < j → j < length l → test (get_or l j d).0 ≡ false)
      → alter (λ k x. cond (test k) o (some x)) l ≡ take i l ++ entry (get_or l i d).0 o (drop (suc i) l)
  alter-one-entry [] i h before at behind = absurd (omega arith)
  alter-one-entry (e ∷ l) zero h before at behind = rw (at, alter-no-entry l (λ j q. behind (suc j) (omega arith) (omega arith)))
  alter-one-entry (e ∷ l) (suc i) h before at behind =
      rw (
        before 0 (omega arith),
        alter-one-entry l i (omega arith) (λ j q. before (suc j) (omega arith)) at
            (λ j q m. behind (suc j) (omega arith) (omega arith)),
      )
