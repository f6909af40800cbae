-- Keys and numbers: a key has both parts of its number, keys are the same where both parts are, and they rise by extension, then SSI.
use Prim.Native.Nat.{ℕ, ◌/◌, ◌%◌, ◌^◌, ◌<◌}
use mathlib.Core.Path.{◌≡◌}
use mathlib.Core.Bool.{false}
use lib.Dec.{eqb, ltb}
use native.Mathlib.Omega.{arith}
use borrow.Author.Tests.{eqb-true, eqb-false, ltb-true, ltb-false, leb-false, eq-eqb, ne_eqb, lt-ltb, le-ltb, lt-leb}
use Rattle.rules.specs.Number.{Number, key, ssi_of, extension_of, number_at, same_number, below_number, wide, wide_number, key_limit, wide_key}
use Rattle.rules.proofs.Tests.{split, or-in, or_l, or_r}

-- both parts have 24 bits
pub record Narrow (n : Number) : Type 0 where
  pub ssi : n.ssi < 2 ^ 24
  pub extension : n.extension < 2 ^ 24

pub narrow : (n : Number) → wide_number n ≡ false → Narrow n
narrow n h = record {
  ssi = leb-false (2 ^ 24) n.ssi (or_l (wide n.ssi) (wide n.extension) h);
  extension = leb-false (2 ^ 24) n.extension (or_r (wide n.ssi) (wide n.extension) h);
}

-- ---- a number and its key ----

-- the key of a number in range is in range
pub key-narrow : (n : Number) → wide_number n ≡ false → wide_key (key n) ≡ false
unfolding key
key-narrow n h = let b = narrow n h in let s = b.ssi in let e = b.extension in lt-leb key_limit (key n) (omega arith)

-- a number is told by its key
pub number-key : (n : Number) → wide_number n ≡ false → number_at (key n) ≡ n
unfolding key ssi_of extension_of
number-key n h = let b = narrow n h in λ i. record { ssi = low b.ssi i; extension = high b.ssi b.extension i }
  where
    low : n.ssi < 2 ^ 24 → ssi_of (key n) ≡ n.ssi
    low s = omega arith

    high : n.ssi < 2 ^ 24 → n.extension < 2 ^ 24 → extension_of (key n) ≡ n.extension
    high s e = omega arith

-- a key's number is in range
pub number-narrow : (k : ℕ) → wide_number (number_at k) ≡ false
unfolding ssi_of extension_of
number-narrow k =
    or-in (wide (k % 2 ^ 24)) (wide (k / 2 ^ 24 % 2 ^ 24)) (lt-leb (2 ^ 24) (k % 2 ^ 24) (omega arith)) (lt-leb (2 ^ 24) (k / 2 ^ 24 % 2 ^ 24) (omega arith))

-- and a key in range is told by its number
pub key-number : (k : ℕ) → wide_key k ≡ false → key (number_at k) ≡ k
unfolding key ssi_of extension_of
key-number k h = let b = leb-false key_limit k h in omega arith

-- ---- two numbers of one extension: their keys are as their SSIs ----

pub one-extension-same : (a b : Number) → a.extension ≡ b.extension → eqb (key a) (key b) ≡ eqb a.ssi b.ssi
unfolding key
one-extension-same a b h = split (eqb a.ssi b.ssi)
    (λ e. let p = eqb-true a.ssi b.ssi e in rw e (eq-eqb (key a) (key b) (omega arith)))
    (λ e. let p = eqb-false a.ssi b.ssi e in rw e (ne_eqb (key a) (key b) (λ s. p (omega arith))))

pub one-extension-rise : (a b : Number) → a.extension ≡ b.extension → ltb (key a) (key b) ≡ ltb a.ssi b.ssi
unfolding key
one-extension-rise a b h = split (ltb a.ssi b.ssi)
    (λ e. let p = ltb-true a.ssi b.ssi e in rw e (lt-ltb (key a) (key b) (omega arith)))
    (λ e. let p = ltb-false a.ssi b.ssi e in rw e (le-ltb (key a) (key b) (omega arith)))

-- ---- two numbers ----

-- "the same" is both parts
pub keys-same : (a b : Number) → wide_number a ≡ false → wide_number b ≡ false → eqb (key a) (key b) ≡ same_number a b
unfolding key
keys-same a b h k =
    let m = (narrow a h).ssi in
    let n = (narrow b k).ssi in
    split (eqb a.ssi b.ssi)
    (λ e. split (eqb a.extension b.extension)
    (λ f. let p = eqb-true a.ssi b.ssi e in let q = eqb-true a.extension b.extension f in rw (e, f) (eq-eqb (key a) (key b) (omega arith)))
    (λ f. let q = eqb-false a.extension b.extension f in rw (e, f) (ne_eqb (key a) (key b) (λ s. q (omega arith)))))
    (λ e. let q = eqb-false a.ssi b.ssi e in rw e (ne_eqb (key a) (key b) (λ s. q (omega arith))))

-- "by extension, then SSI"
pub keys-rise : (a b : Number) → wide_number a ≡ false → wide_number b ≡ false → ltb (key a) (key b) ≡ below_number a b
unfolding key
keys-rise a b h k =
    let m = (narrow a h).ssi in
    let n = (narrow b k).ssi in
    split (ltb a.extension b.extension)
    (λ e. let p = ltb-true a.extension b.extension e in rw e (lt-ltb (key a) (key b) (omega arith)))
    (λ e. let p = ltb-false a.extension b.extension e in split (eqb a.extension b.extension)
    (λ f. let q = eqb-true a.extension b.extension f in rw (e, f) (one-extension-rise a b q))
    (λ f. let q = eqb-false a.extension b.extension f in rw (e, f) (le-ltb (key a) (key b) (omega arith))))
