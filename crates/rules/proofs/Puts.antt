-- Putting one key after the other, by any lawful put.
use Prim.Native.Nat.{◌+◌}
use mathlib.Core.Path.{◌≡◌, refl, ◌∙◌}
use mathlib.Core.Bool.{Bool, true, false, cond, not}
use mathlib.Core.List.{List, [], ◌∷◌, ◌++◌}
use mathlib.Core.Option.{some}
use lib.ListN.{length}
use native.Mathlib.Omega.{arith}
use Rattle.rules.specs.Lists.{any, keep, present}
use Rattle.rules.specs.Entries.{find}
use Rattle.rules.specs.Placing.{Put, puts, LawfulPut}
use Rattle.rules.proofs.Tests.{split, clash}
use Rattle.rules.proofs.ListLaws.{Apart}
use Rattle.rules.proofs.EntryLaws.{flip-false}

module _ {K X : Type 0} (p : Put K X) where
  pub puts-append : (l : List (K × X)) (a b : List K) (f : K → X) → puts p l (a ++ b) f ≡ puts p (puts p l a f) b f
  puts-append l [] b f = refl
  puts-append l (k ∷ a) b f = puts-append (p.put l k (f k)) a b f

module _ {K X : Type 0} (same : K → K → Bool) (sound : (a b : K) → same a b ≡ true → a ≡ b) (itself : (a : K) → same a a ≡ true)
    (p : Put K X) (laws : LawfulPut same p) where
  pub form-puts : (l : List (K × X)) (ks : List K) (f : K → X) → p.form l ≡ true → p.form (puts p l ks f) ≡ true
  form-puts l [] f h = h
  form-puts l (k ∷ ks) f h = form-puts (p.put l k (f k)) ks f (laws.stays l k (f k) h)

  pub find-puts : (l : List (K × X)) (ks : List K) (f : K → X) → p.form l ≡ true
      → (j : K) → find same (puts p l ks f) j ≡ cond (any (same j) ks) (some (f j)) (find same l j)
  find-puts l [] f h j = refl
  find-puts l (k ∷ ks) f h j =
      let after = find-puts (p.put l k (f k)) ks f (laws.stays l k (f k) h) j in
      let put = laws.found l k (f k) h j in
      split (same j k)
      (λ e. split (any (same j) ks) (λ q. cc (after)) (λ q. cc (after, put, sound j k e)))
      (λ e. cc (after, put))

  -- what one key is given changes nothing that is found under another
  find-other : (l : List (K × X)) (k : K) (v : X) → p.form l ≡ true → (j : K) → same k j ≡ false → find same (p.put l k v) j ≡ find same l j
  find-other l k v h j q = cc (laws.found l k v h j, flip-false same sound itself k j q)

  -- one entry more for each key that is not there
  pub length-puts : (l : List (K × X)) (ks : List K) (f : K → X) → p.form l ≡ true → Apart same ks
      → length (puts p l ks f) ≡ length l + length (keep (λ k. not (present (find same l k))) ks)
  length-puts l [] f h a = omega arith
  length-puts l (k ∷ ks) f h a =
      length-puts (p.put l k (f k)) ks f (laws.stays l k (f k) h) a.1
      ∙ split (present (find same l k))
      (λ q. rw (rest ks a.0, laws.counted l k (f k) h, q) (omega arith))
      (λ q. rw (rest ks a.0, laws.counted l k (f k) h, q) (omega arith))
    where
      rest : (ks : List K) → any (same k) ks ≡ false
          → keep (λ j. not (present (find same (p.put l k (f k)) j))) ks ≡ keep (λ j. not (present (find same l j))) ks
      rest [] e = refl
      rest (j ∷ js) e = split (same k j)
          (λ q. clash (cc))
          (λ q. cc (find-other l k (f k) h j q, rest js (cc)))
