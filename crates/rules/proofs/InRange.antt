-- What a range names, by SSI and extension: "both ends count, in rising order, and both must have the same extension".
use Prim.Native.Nat.{ℕ, suc, ◌+◌, ◌-◌, ◌≤◌, ◌<◌}
use mathlib.Core.Path.{◌≡◌, refl, sym, ◌∙◌, ap, subst}
use mathlib.Core.Bool.{Bool, true, false, cond, not, ◌&&◌}
use mathlib.Core.List.{List, [], ◌∷◌, map}
use mathlib.Core.Option.{some}
use lib.Dec.{eqb, ltb, leb}
use lib.ListN.{length}
use native.Mathlib.Omega.{arith}
use borrow.Author.Tests.{eqb-true, ltb-false, leb-true, eq-eqb, le-leb, not-false}
use Rattle.rules.specs.Lists.{mem, once, Rising}
use Rattle.rules.specs.Number.{Number, Identity, Numbers, used, key, identified, identity_key}
use Rattle.rules.specs.Named.{consecutive, span, range, numbers, crossed, bad_range}
use Rattle.rules.specs.Number.{wide_number}
use Rattle.rules.proofs.Tests.{both_ways, and_in, and_l, and_r, or_l, or_r}
use Rattle.rules.proofs.Keys.{narrow}
use Rattle.rules.proofs.Consecutive.{consecutive-mem, consecutive-in, consecutive-length, consecutive-rises, consecutive-once}
use Rattle.rules.proofs.ListLaws.{eqb_same}

-- a range that may be taken, and the numbers that its two identities name
pub record Range (home : ℕ) (range : Numbers) (first last : Number) : Type 0 where
  pub is_range : eqb range.code 1 ≡ true
  pub ends : map (identified home) (used range) ≡ first ∷ last ∷ []
  pub narrow_first : wide_number first ≡ false
  pub narrow_last : wide_number last ≡ false
  pub rises : bad_range home (some range) ≡ false

-- ---- what a list names, by its keys ----

-- a list that is no range names the keys of its identities, each once
pub listed-numbers : (home : ℕ) (n : Numbers) → eqb n.code 1 ≡ false → numbers home n ≡ once (map (identity_key home) (used n))
unfolding numbers
listed-numbers home n e = rw e

-- a range names all keys from its first to its last
pub range-numbers : (home : ℕ) (n : Numbers) (first last : ℕ) → eqb n.code 1 ≡ true → map (identity_key home) (used n) ≡ first ∷ last ∷ []
    → numbers home n ≡ consecutive first (span first last)
unfolding numbers
range-numbers home n first last e k =
    ap (λ (b : Bool). once (cond b (range (map (identity_key home) (used n))) (map (identity_key home) (used n)))) e
    ∙ ap (λ (keys : List ℕ). once (range keys)) k ∙ consecutive-once first (span first last)

-- ---- and by its numbers ----

-- the keys of identities are those of the numbers that they name
keys-named : (home : ℕ) (l : List Identity) → map (identity_key home) l ≡ map key (map (identified home) l)
keys-named home [] = refl
keys-named home (i ∷ l) = ap (λ (ks : List ℕ). identity_key home i ∷ ks) (keys-named home l)

module _ (home : ℕ) (range : Numbers) (first last : Number) (h : Range home range first last) where
  -- "first above last or extensions differ" is refused
  uncrossed : crossed (first ∷ last ∷ []) ≡ false
  uncrossed = sym (ap crossed h.ends) ∙ sym (ap (λ (b : Bool). b && crossed (map (identified home) (used range))) h.is_range) ∙ h.rises

  one-extension : first.extension ≡ last.extension
  one-extension =
      let e = eqb first.extension last.extension in
      eqb-true first.extension last.extension (not-false e (or_r (ltb last.ssi first.ssi) (not e) uncrossed))

  in_order : first.ssi ≤ last.ssi
  in_order = ltb-false last.ssi first.ssi (or_l (ltb last.ssi first.ssi) (not (eqb first.extension last.extension)) uncrossed)

  -- how many numbers there are from the first to the last, by SSI
  abbrev size : ℕ
  size = suc last.ssi - first.ssi

  -- in one extension keys are as far apart as SSIs
  size-keys : span (key first) (key last) ≡ size
  unfolding key
  size-keys = let e = one-extension in omega arith

  -- the range as keys in a row
  in_a_row : numbers home range ≡ consecutive (key first) size
  in_a_row =
      range-numbers home range (key first) (key last) h.is_range (keys-named home (used range) ∙ ap (map key) h.ends)
      ∙ ap (consecutive (key first)) size-keys

  -- "both ends count", and the numbers between them, of the one extension: no other
  pub range-names : (n : Number) → wide_number n ≡ false
      → mem (key n) (numbers home range) ≡ (eqb n.extension first.extension && (leb first.ssi n.ssi && leb n.ssi last.ssi))
  unfolding key
  range-names n w = ap (mem (key n)) in_a_row ∙ both_ways (mem (key n) (consecutive (key first) size)) _
      (λ e. let k = consecutive-mem (key first) size (key n) e in
      let p = parts k.0 k.1 in
      and_in (eq-eqb n.extension first.extension p.0) (and_in (le-leb first.ssi n.ssi p.1) (le-leb n.ssi last.ssi p.2)))
      (λ e. let same = eqb-true n.extension first.extension (and_l (eqb n.extension first.extension) _ e) in
      let between = and_r (eqb n.extension first.extension) (leb first.ssi n.ssi && leb n.ssi last.ssi) e in
      let low = leb-true first.ssi n.ssi (and_l (leb first.ssi n.ssi) (leb n.ssi last.ssi) between) in
      let high = leb-true n.ssi last.ssi (and_r (leb first.ssi n.ssi) (leb n.ssi last.ssi) between) in
      consecutive-in (key first) size (key n) (omega arith) (omega arith))
    where
      -- SSIs have 24 bits, so a key from the first to the last is of their extension
      parts : key first ≤ key n → key n < key first + size → (n.extension ≡ first.extension) × (first.ssi ≤ n.ssi) × (n.ssi ≤ last.ssi)
      parts low high =
          let narrow-ssi = (narrow n w).ssi in
          let narrow-last = (narrow last h.narrow_last).ssi in
          let ordered = in_order in
          (omega arith, omega arith, omega arith)

  -- as many as from the first SSI to the last, and these are in order
  pub range-count : (length (numbers home range) ≡ suc last.ssi - first.ssi) × (first.ssi ≤ last.ssi)
  range-count = (ap length in_a_row ∙ consecutive-length (key first) size, in_order)

  -- "in rising order"
  pub range-rises : Rising (numbers home range)
  range-rises = subst Rising (sym in_a_row) (consecutive-rises (key first) size)

  -- "both ends count"
  pub range-ends : (mem (key first) (numbers home range) ≡ true) × (mem (key last) (numbers home range) ≡ true)
  range-ends = (
    range-names first h.narrow_first ∙ and_in (eqb_same first.extension) (and_in (leb-same first.ssi) ordered),
    range-names last h.narrow_last ∙ and_in (eq-eqb last.extension first.extension (sym one-extension)) (and_in ordered (leb-same last.ssi)),
  )
    where
      leb-same : (x : ℕ) → leb x x ≡ true
      leb-same x = le-leb x x (omega arith)

      ordered : leb first.ssi last.ssi ≡ true
      ordered = le-leb first.ssi last.ssi in_order
