-- The parts of the writer, one behind the other: a field, then rows that look at it; what the next part starts from.
-- Assumes nothing.
use Rattle.std.proofs.Common.{◌≡◌, ℕ, suc, ◌+◌, ◌*◌, ◌<◌, ◌≤◌, Option, Some, None, List, [], ◌∷◌, length, get_or, set, ◌∙◌, subst, arith, length-set}
use Rattle.std.proofs.Common.{get_or-set_other, get_or-set_same}
use Rattle.writing.specs.Pass.{Pass}
use Rattle.layout.specs.Row.{Row}
use Rattle.layout.specs.Frame.{places}
use Rattle.layout.specs.Write.{held}
use Rattle.table.specs.declared.Field.{Field}
use Rattle.table.specs.Fields.{row_for}
use Rattle.table.specs.Sound.{Clear}
use Rattle.writing.specs.Lay.{Lent, most_bits, reached, Within, Ready, Passes, Lays, Known, Writes}
use Rattle.writing.proofs.LayLaws.{kept, laying, stays_on}

-- ---- where a walk goes on, by what a match has told
pub goes_on : {A : Type 0} {r : Option A} {x : A} {at : ℕ} → r ≡ Some x → reached r at ≡ Some at
goes_on e = rw e

pub goes-off : {A : Type 0} {r : Option A} (at : ℕ) → r ≡ None → reached r at ≡ None
goes-off at e = rw e

-- ---- what the next part starts from
pub ready-most : {at p n : ℕ} → Ready at p n → at ≤ most_bits
ready-most now = omega (arith, now.low, now.room)

pub ready-few : {at p n : ℕ} (m : ℕ) → Ready at p n → m ≤ n → Ready at p m
ready-few m now h = record { room = omega (arith, now.room); low = now.low }

pub within_on : (r : Option ℕ) (at at₁ n k m : ℕ) → n + k ≡ m → at₁ ≤ at + 32 * n → Within r (at₁ + 32 * k) → Within r (at + 32 * m)
within_on (Some at₂) at at₁ n k m e h w = omega arith
within_on None at at₁ n k m e h w = tt

-- ---- a value put into the cleaned record
pub clear-set : (vs : List ℕ) (p q v : ℕ) → Clear vs p → p ≤ q → Clear (set vs q v) (q + 1)
clear-set vs p q v z h i l = get_or-set_other vs q i v 0 (λ e. omega arith) ∙ z i (omega arith)

module _ {pass : Pass} {f : Field} {v at : ℕ} {out out₁ : Lent} {r₁ : Option ℕ} (passed : Passes pass f v at out out₁ r₁) {s : List ℕ} {p : ℕ}
    (inside : p < places) (is : v ≡ held (row_for f []) (get_or s p 0)) where
  here : (vs : List ℕ) → length vs ≡ places → Lays pass (row_for f [] ∷ []) s at p vs (set vs p v) out out₁ r₁
  here vs size = passed.lays s vs p (omega arith) is

  -- a field alone
  pub field-writes : {known : List ℕ → Type 0} → Writes pass known (row_for f [] ∷ []) s at p out out₁ r₁
  field-writes = record { lent = passed.lent; within = passed.within; lays = λ vs size z k. (set vs p v, here vs size) }

  -- a field, and rows that know its value
  pub field-then : {at₁ : ℕ} {more : List Row} {out₂ : Lent} {r : Option ℕ} {known : List ℕ → Type 0} → v ≡ get_or s p 0 → r₁ ≡ Some at₁
      → Writes pass (Known s p) more s at₁ (p + 1) out₁ out₂ r → Writes pass known (row_for f [] ∷ more) s at p out out₂ r
  field-then {at₁} {more} {out₂} {r} d e g =
      record {
        lent = stays_on passed.lent g.lent;
        within = within_on r at at₁ 1 (length more) (suc (length more)) (omega arith) (subst (λ (x : Option ℕ). Within x (at + 32)) e passed.within) g.within;
        lays = λ vs size z k.
            let vs₁ = set vs p v in
            let rest = g.lays vs₁ (length-set vs p v ∙ size) (clear-set vs p p v z (omega arith)) (get_or-set_same vs p v 0 (omega arith) ∙ d) in (
              rest.0,
              (laying pass s).join (row_for f [] ∷ []) more at at₁ p (kept vs out) (kept vs₁ out₁) (kept rest.0 out₂) r
                  (subst (Lays pass (row_for f [] ∷ []) s at p vs vs₁ out out₁) e (here vs size)) rest.1,
            );
      }

  -- a field that is bad stops what would follow
  pub field-stop : {more : List Row} {known : List ℕ → Type 0} → r₁ ≡ None → Writes pass known (row_for f [] ∷ more) s at p out out₁ None
  field-stop {more} e =
      record {
        lent = passed.lent;
        within = tt;
        lays = λ vs size z k. (
          set vs p v,
          (laying pass s).stop (row_for f [] ∷ []) more at p (kept vs out) (kept (set vs p v) out₁) None tt
              (subst (Lays pass (row_for f [] ∷ []) s at p vs (set vs p v) out out₁) e (here vs size)),
        );
      }
