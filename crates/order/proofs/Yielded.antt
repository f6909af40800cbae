-- A run over the places of a list gives what stands at them: so keys are gone over one by one, as what they are keys of.
use Prim.Native.Nat.{ℕ}
use native.Mathlib.Omega.{arith}
use mathlib.Core.Path.{◌≡◌, refl, sym, ap, subst}
use mathlib.Core.List.{List, [], ◌∷◌, map}
use lib.ListN.{length, get_or}
use Rattle.std.specs.declared.ops.Range.{Range}
use Rattle.std.specs.Iterator.{AlwaysYields}
use Rattle.std.specs.List.{range_with_len}
use Rattle.std.specs.Prelude.{Option}
use Rattle.std.proofs.iter.Yields.{nat_range_steps}
use Rattle.std.proofs.lemmas.Iterator.{YieldsList, YieldsList-from_range}
use Rattle.std.proofs.lemmas.List.FromFn.{fill_by_all}

module _ {S A B : Type 0} (steps : S → Option A → S → Type 0) (v : A → B) where
  -- what a run gives, read by v
  read : (xs : List A) (s : S) → AlwaysYields steps (λ x. x) s xs → AlwaysYields steps v s (map v xs)
  read [] s e = e
  read (x ∷ xs) s e = (e.0, λ y t p. let m = e.1 y t p in (ap v m.0, read xs t m.1))

pub YieldsList-by_place : {s : Range ℕ} (xs : List ℕ) {n : ℕ} → n ≡ length xs → s ≡ record { start = 0; end = n }
    → YieldsList nat_range_steps (λ i. get_or xs i 0) s xs
YieldsList-by_place {s} xs {n} e r =
    let at = λ (i : ℕ). get_or xs i 0 in
    let all : xs ≡ map at (range_with_len 0 n) = fill_by_all at xs n 0 (sym e) (λ k h. refl) in
    let places = YieldsList-from_range 0 n n r (omega arith) in
    record { runs = subst (AlwaysYields nat_range_steps at s) (sym all) (read nat_range_steps at (range_with_len 0 n) s places.runs) }
