-- Laws of a list's keys as they are made: two ends and all between them, or the identities' own; and no more than may be.
use Prim.Native.Nat.{ℕ, ◌-◌, ◌≤◌, ◌<◌}
use mathlib.Core.Path.{◌≡◌, refl, sym, ap, ◌∙◌}
use mathlib.Core.Bool.{Bool, true, false}
use mathlib.Core.List.{List, [], ◌∷◌, map}
use mathlib.Core.Option.{Option, some}
use native.Mathlib.Omega.{arith}
use lib.Dec.{eqb, ltb, leb}
use lib.ListN.{length, get_or, length-map, length-take}
use borrow.Author.Tests.{eqb-true, leb-true, leb-false, lt-ltb, le-ltb}
use Rattle.rules.specs.Number.{count, used, identity_key}
use Rattle.rules.specs.Named.{consecutive, numbers, numbers_in, too_many, span}
use Rattle.rules.specs.Number as number
use Rattle.rules.proofs.Tests.{split}
use Rattle.rules.proofs.ListLaws.{Once, length-once}
use Rattle.rules.proofs.Consecutive.{consecutive-length}
use Rattle.rules.proofs.InRange.{listed-numbers, range-numbers}
use Rattle.order.specs.Keys.{fitting}
use Rattle.order.specs.Lists.{identity_of, numbers_as}
use Rattle.order.specs.declared.Identity.{Identity}

-- ---- how many ----

pub longer : (first last most : ℕ) → first ≤ last → leb most (last - first) ≡ ltb most (span first last)
longer first last most h = split (leb most (last - first))
    (λ e. let p = leb-true most (last - first) e in e ∙ sym (lt-ltb most (span first last) (omega arith)))
    (λ e. let p = leb-false most (last - first) e in e ∙ sym (le-ltb most (span first last) (omega arith)))

pub fitting-all : (most : ℕ) (l : List ℕ) → length l ≤ most → fitting most l ≡ l
fitting-all most l h = rw (le-ltb most (length l) h)

pub fitting-none : (most : ℕ) (l : List ℕ) → most < length l → fitting most l ≡ []
fitting-none most l h = rw (lt-ltb most (length l) h)

-- a list that passed the test is handed on whole
pub passed-whole : (most home : ℕ) (l : Option number.Numbers) → too_many most home l ≡ false → fitting most (numbers_in home l) ≡ numbers_in home l
passed-whole most home l e = rw e

pub fitting-once : (most : ℕ) (l : List ℕ) → Once l → Once (fitting most l)
fitting-once most l h = split (ltb most (length l)) (λ e. rw e tt) (λ e. rw e h)

-- ---- which ----

module _ (home : ℕ) (l : List Identity) (d : Identity) (h : length l ≡ 10) where
  abbrev end : ℕ → number.Identity
  end i = identity_of (get_or l i d)

  ends-used : (l : List Identity) → 2 ≤ length l → used (numbers_as 1 l) ≡ identity_of (get_or l 0 d) ∷ identity_of (get_or l 1 d) ∷ []
  ends-used [] q = absurd (omega arith)
  ends-used (x ∷ []) q = absurd (omega arith)
  ends-used (x ∷ y ∷ l) q = refl

  -- number type 1 uses two identities
  pub range-ends : (code : ℕ) → eqb code 1 ≡ true → used (numbers_as code l) ≡ end 0 ∷ end 1 ∷ []
  range-ends code e = ap (λ (c : ℕ). used (numbers_as c l)) (eqb-true code 1 e) ∙ ends-used l (omega arith)

  -- and names all from the first to the last
  pub ends-numbers : (code : ℕ) → eqb code 1 ≡ true
      → numbers home (numbers_as code l) ≡ consecutive (identity_key home (end 0)) (span (identity_key home (end 0)) (identity_key home (end 1)))
  ends-numbers code e =
      range-numbers home (numbers_as code l) (identity_key home (end 0)) (identity_key home (end 1)) e (ap (map (identity_key home)) (range-ends code e))

  -- any other names no more than ten
  pub listed-few : (code : ℕ) → eqb code 1 ≡ false → length (numbers home (numbers_as code l)) ≤ 10
  listed-few code e =
      let keys = map (identity_key home) (used (numbers_as code l)) in
      let places = map identity_of l in
      let few : length keys ≤ 10 =
      rw (length-map (used (numbers_as code l)) (identity_key home), length-take (count code) places, length-map l identity_of, h) (omega arith) in
      rw (listed-numbers home (numbers_as code l) e) (let once = length-once keys in omega arith)

  -- ---- what is refused ----

  pub range-long : (code most : ℕ) (b : Bool) → eqb code 1 ≡ true → b ≡ ltb most (span (identity_key home (end 0)) (identity_key home (end 1)))
      → b ≡ too_many most home (some (numbers_as code l))
  range-long code most b e q = q ∙ ap (ltb most) (sym (ap length (ends-numbers code e) ∙ consecutive-length (identity_key home (end 0)) _))

  pub listed-short : (code most : ℕ) → 10 ≤ most → eqb code 1 ≡ false → false ≡ too_many most home (some (numbers_as code l))
  listed-short code most few e = sym (le-ltb most (length (numbers home (numbers_as code l))) (omega (arith, listed-few code e)))
