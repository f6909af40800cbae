-- The placing by number is lawful.
use Prim.Native.Nat.{ℕ, ◌≤◌, ◌<◌}
use mathlib.Core.Path.{◌≡◌, sym, ◌∙◌, ap}
use mathlib.Core.Bool.{true, false, ◌&&◌}
use lib.Dec.{eqb, ltb}
use native.Mathlib.Omega.{arith}
use borrow.Author.Tests.{eqb-true, ltb-true, ltb-false, le-ltb}
use Rattle.rules.specs.Lists.{once, rising}
use Rattle.rules.specs.Ledger.{Pair, same_pair}
use Rattle.rules.specs.Placing.{LawfulRoll, Lawful}
use Rattle.rules.specs.ByNumber.{below_pair, rising_roll, by_number}
use Rattle.rules.proofs.Tests.{split, clash, or_l, or_r}
use Rattle.rules.proofs.ListLaws.{eqb_same, mem-rising, rising-rising, once-rising, unique-once, length-order}
use Rattle.rules.proofs.Pairs.{pair-sound, pair-itself}
use Rattle.rules.proofs.Rises.{below-trans, rises-rising, rising-rises}
use Rattle.rules.proofs.ByKey.{Linear, by_key_lem}

not-below : (a : ℕ) → ltb a a ≡ false
not-below a = le-ltb a a (omega arith)

level : (a b : ℕ) → ltb a b ≡ false → ltb b a ≡ false → a ≡ b
level a b h k = equal a b (ltb-false a b h) (ltb-false b a k)
  where
    equal : (a b : ℕ) → b ≤ a → a ≤ b → a ≡ b
    equal a b h k = omega arith

pub numbers-linear : Linear eqb ltb
numbers-linear = record { sound = eqb-true; itself = eqb_same; strict = not-below; carries = below-trans; total = level }

-- ---- pairs: by group, then radio ----

-- one pair below another: its group is, or the groups are the same and its radio is
module _ {P : Type 0} (a b : Pair) where
  pub pair-cases : below_pair a b ≡ true → (ltb a.0 b.0 ≡ true → P) → (a.0 ≡ b.0 → ltb a.1 b.1 ≡ true → P) → P
  pair-cases h low level = split (ltb a.0 b.0)
      low
      (λ p. split (eqb a.0 b.0)
      (λ q. level (eqb-true a.0 b.0 q) (cc))
      (λ q. clash (cc)))

pub pair-low : (a b : Pair) → ltb a.0 b.0 ≡ true → below_pair a b ≡ true
pair-low a b h = cc

pub pair-level : (a b : Pair) → a.0 ≡ b.0 → ltb a.1 b.1 ≡ true → below_pair a b ≡ true
pair-level a b q h = cc (not-below a.0, eqb_same a.0)

pair-carries : (a b c : Pair) → below_pair a b ≡ true → below_pair b c ≡ true → below_pair a c ≡ true
pair-carries a b c h k = pair-cases a b h
    (λ p. pair-cases b c k
    (λ q. pair-low a c (below-trans a.0 b.0 c.0 p q))
    (λ q r. pair-low a c (ap (ltb a.0) (sym q) ∙ p)))
    (λ p r. pair-cases b c k
    (λ q. pair-low a c (ap (λ (x : ℕ). ltb x c.0) p ∙ q))
    (λ q s. pair-level a c (p ∙ q) (below-trans a.1 b.1 c.1 r s)))

pair-total : (a b : Pair) → below_pair a b ≡ false → below_pair b a ≡ false → a ≡ b
pair-total a b h k =
    let q = level a.0 b.0 (or_l (ltb a.0 b.0) (eqb a.0 b.0 && ltb a.1 b.1) h)
    (or_l (ltb b.0 a.0) (eqb b.0 a.0 && ltb b.1 a.1) k) in
    let x = or_r (ltb a.0 b.0) (eqb a.0 b.0 && ltb a.1 b.1) h in
    let y = or_r (ltb b.0 a.0) (eqb b.0 a.0 && ltb b.1 a.1) k in
    let r = level a.1 b.1 (cc (eqb_same a.0)) (cc (eqb_same a.0)) in
    λ i. (q i, r i)

pub pairs-linear : Linear same_pair below_pair
pairs-linear = record {
  sound = pair-sound;
  itself = pair-itself;
  strict = λ a. cc (not-below a.0, not-below a.1, eqb_same a.0);
  carries = pair-carries;
  total = pair-total;
}

-- of one group's pairs the lower has the lower radio
pub above-radio : (a b : Pair) → a.0 ≡ b.0 → below_pair a b ≡ true → a.1 < b.1
above-radio a b q h = pair-cases a b h
    (λ p. clash (sym p ∙ ap (ltb a.0) (sym q) ∙ not-below a.0))
    (λ p r. ltb-true a.1 b.1 r)

-- ---- the owners ----

rising-lawful : LawfulRoll rising_roll
rising-lawful = record {
  holds = mem-rising;
  stays = λ l. rising-rises (rising l) (rising-rising l);
  single = λ l h. unique-once l (once-rising l (rises-rising l h));
  counted = λ l. length-order (once l);
}

pub by_number_lem : Lawful by_number
by_number_lem = record { groups = by_key_lem numbers-linear; pairs = by_key_lem pairs-linear; owners = rising-lawful }
