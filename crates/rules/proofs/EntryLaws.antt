-- Entries: what is found after a change at their places, and that no key stands twice.
use Prim.Native.Nat.{ℕ, ◌≤◌}
use mathlib.Core.Path.{◌≡◌, refl, sym, ◌∙◌, ap}
use mathlib.Core.Bool.{Bool, true, false, not}
use mathlib.Core.List.{List, [], ◌∷◌, map}
use mathlib.Core.Option.{Option, none, some}
use lib.Dec.{eqb}
use lib.ListN.{length}
use native.Mathlib.Omega.{arith}
use borrow.Author.Tests.{not-true}
use Rattle.rules.specs.Lists.{all, present, turned, mem}
use Rattle.rules.specs.Entries.{find, distinct, entry, alter}
use Rattle.rules.proofs.Tests.{split, clash, and_in, and_l, and_r}
use Rattle.rules.proofs.ListLaws.{Once}

module _ {K : Type 0} (same : K → K → Bool) (sound : (a b : K) → same a b ≡ true → a ≡ b) (itself : (a : K) → same a a ≡ true) where
  pub flip-false : (a b : K) → same a b ≡ false → same b a ≡ false
  flip-false a b e = split (same b a) (λ f. clash (sym (itself a) ∙ cc (sound b a f))) (λ f. f)

module _ {K X : Type 0} (same : K → K → Bool) where
  -- no key twice
  abbrev pub Single : List (K × X) → Type 0
  Single [] = Unit {0}
  Single (e ∷ l) = (present (find same l e.0) ≡ false) × Single l

module _ {K X : Type 0} (same : K → K → Bool) where
  -- nothing is found where the key is not there
  absent-alter : (f : K → X → Option X) (l : List (K × X)) (j : K) → present (find same l j) ≡ false → find same (alter f l) j ≡ none
  absent-alter f [] j h = refl
  absent-alter f (e ∷ l) j h = split (same j e.0)
      (λ a. clash (cc))
      (λ a. go (f e.0 e.1) a (absent-alter f l j (cc)))
    where
      go : (o : Option X) → same j e.0 ≡ false → find same (alter f l) j ≡ none → find same (entry e.0 o (alter f l)) j ≡ none
      go none a h = h
      go (some v) a h = cc

  pub single-alter : (f : K → X → Option X) (l : List (K × X)) → Single same l → Single same (alter f l)
  single-alter f [] s = tt
  single-alter f (e ∷ l) s = go (f e.0 e.1) (single-alter f l s.1)
    where
      go : (o : Option X) → Single same (alter f l) → Single same (entry e.0 o (alter f l))
      go none h = h
      go (some v) h = (ap present (absent-alter f l e.0 s.0), h)

module _ {K X : Type 0} (same : K → K → Bool) (sound : (a b : K) → same a b ≡ true → a ≡ b) where
  pub find-alter : (f : K → X → Option X) (l : List (K × X)) (j : K) → Single same l → find same (alter f l) j ≡ turned (f j) (find same l j)
  find-alter f [] j s = refl
  find-alter f (e ∷ l) j s = split (same j e.0)
      (λ a. at (sound j e.0 a) a (f e.0 e.1) refl)
      (λ a. off a (f e.0 e.1) (find-alter f l j s.1))
    where
      at : j ≡ e.0 → same j e.0 ≡ true → (o : Option X) → f e.0 e.1 ≡ o
          → find same (entry e.0 o (alter f l)) j ≡ turned (f j) (find same (e ∷ l) j)
      at q a none h = cc (absent-alter same f l e.0 s.0)
      at q a (some v) h = cc

      off : same j e.0 ≡ false → (o : Option X) → find same (alter f l) j ≡ turned (f j) (find same l j)
          → find same (entry e.0 o (alter f l)) j ≡ turned (f j) (find same (e ∷ l) j)
      off a none h = cc
      off a (some v) h = cc

-- ---- the numbers under which entries stand ----

module _ {X : Type 0} where
  abbrev pub keys : List (ℕ × X) → List ℕ
  keys l = map (λ (e : ℕ × X). e.0) l

  pub mem-keys : (n : ℕ) (l : List (ℕ × X)) → mem n (keys l) ≡ present (find eqb l n)
  mem-keys n [] = refl
  mem-keys n (e ∷ l) = split (eqb n e.0) (λ a. cc) (λ a. cc (mem-keys n l))

  pub once-keys : (l : List (ℕ × X)) → Single eqb l → Once (keys l)
  once-keys [] h = tt
  once-keys (e ∷ l) h = (mem-keys e.0 l ∙ h.0, once-keys l h.1)

-- ---- tests over all entries ----

module _ {K X : Type 0} (same : K → K → Bool) where
  pub distinct-single : (l : List (K × X)) → Single same l → distinct same l ≡ true
  distinct-single [] s = refl
  distinct-single (e ∷ l) s = cc (distinct-single l s.1, s.0)

  pub single-distinct : (l : List (K × X)) → distinct same l ≡ true → Single same l
  single-distinct [] h = tt
  single-distinct (e ∷ l) h = (
    not-true (present (find same l e.0)) (and_l (not (present (find same l e.0))) (distinct same l) h),
    single-distinct l (and_r (not (present (find same l e.0))) (distinct same l) h),
  )

module _ {K X : Type 0} (same : K → K → Bool) (sound : (a b : K) → same a b ≡ true → a ≡ b) where
  -- what holds of all entries holds of what is found
  pub found_all : (p : K × X → Bool) (l : List (K × X)) → all p l ≡ true → (k : K) (v : X) → find same l k ≡ some v → p (k, v) ≡ true
  found_all p [] h k v f = clash (cc)
  found_all p (e ∷ l) h k v f = split (same k e.0)
      (λ a. let q : e.1 ≡ v = cc in (λ i. p (sound k e.0 a i, sym q i)) ∙ and_l (p e) (all p l) h)
      (λ a. found_all p l (and_r (p e) (all p l) h) k v (cc))

  -- what holds of all that is found holds of all entries
  pub all_found : (itself : (a : K) → same a a ≡ true) (p : K × X → Bool) (l : List (K × X)) → Single same l
      → ((k : K) (v : X) → find same l k ≡ some v → p (k, v) ≡ true) → all p l ≡ true
  all_found itself p [] s h = refl
  all_found itself p (e ∷ l) s h = and_in (h e.0 e.1 (cc (itself e.0))) (all_found itself p l s.1 (λ k v f. h k v (later k v f)))
    where
      later : (k : K) (v : X) → find same l k ≡ some v → find same (e ∷ l) k ≡ some v
      later k v f = split (same k e.0) (λ a. clash (cc (sound k e.0 a, s.0))) (λ a. cc)

pub length-alter : {K X : Type 0} (f : K → X → Option X) (l : List (K × X)) → length (alter f l) ≤ length l
length-alter f [] = omega arith
length-alter f (e ∷ l) = go (f e.0 e.1) (length-alter f l)
  where
    go : (o : Option _) → length (alter f l) ≤ length l → length (entry e.0 o (alter f l)) ≤ length (e ∷ l)
    go none h = omega arith
    go (some v) h = omega arith
