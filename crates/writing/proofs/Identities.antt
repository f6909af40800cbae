-- An identity and an item of a list, passed: which rows are there is asked of the caller's record, which the cleaned one agrees with at the place asked.
-- Assumes nothing.
use Rattle.std.proofs.Common.{◌≡◌, ℕ, zero, suc, ◌+◌, ◌*◌, ◌<◌, ◌≤◌, Option, Some, None, List, [], ◌∷◌, get_or, drop, set, sym, refl, ◌∙◌, subst}
use Rattle.std.proofs.Common.{arith, length-set, get_or-set_other}
use Rattle.writing.specs.Pass.{Pass}
use Rattle.layout.specs.Row.{at_least}
use Rattle.layout.specs.Shape.{identity, item, stride}
use Rattle.layout.specs.Frame.{places}
use Rattle.layout.specs.declared.Items.{Items}
use Rattle.table.specs.Fields.{number_field}
use Rattle.table.specs.Sound.{Clear}
use Rattle.table.proofs.Absent.{length-item}
use Rattle.table.proofs.IdentityLaws.{extension-on, extension-off, form-sna, form-none, form-ssi, form-stop}
use Rattle.table.proofs.ListLaws.{item_on, item-off}
use Rattle.writing.specs.Lay.{Lent, Within, Passes, Any, Known, Writes}
use Rattle.writing.proofs.LayLaws.{kept, laying, stays_none, stays_on}
use Rattle.writing.proofs.Parts.{within_on, clear-set}

-- ---- after the form at the place p
module _ {pass : Pass} {s : List ℕ} {at : ℕ} (p : ℕ) (room : p + 4 ≤ places) where
  -- a number of 24 or 8 bits, by its value
  module _ {out out₁ : Lent} {r : Option ℕ} where
    pub extension-there : get_or s p 0 ≡ 3 → Passes pass (number_field 24) (get_or s (p + 3) 0) at out out₁ r
        → Writes pass (Known s p) (drop 3 (identity [] p)) s at (p + 3) out out₁ r
    extension-there e f =
        record {
          lent = f.lent;
          within = f.within;
          lays = λ vs size z k.
              let w = set vs (p + 3) (get_or s (p + 3) 0) in
              (w, extension-on (laying pass s) p (kept vs out) (omega arith) at (kept w out₁) r (k ∙ e) (f.lays s vs (p + 3) (omega arith) refl));
        }

    pub sna-there : get_or s p 0 ≡ 1 → Passes pass (number_field 8) (get_or s (p + 1) 0) at out out₁ r
        → Writes pass (Known s p) (drop 1 (identity [] p)) s at (p + 1) out out₁ r
    sna-there e f =
        record {
          lent = f.lent;
          within = within_on r at (at + 32) 1 2 3 (omega arith) (omega arith) (longer r f.within);
          lays = λ vs size z k.
              let w = set vs (p + 1) (get_or s (p + 1) 0) in
              (w, form-sna (laying pass s) p (kept vs out) (omega arith) at (kept w out₁) r (k ∙ e) z (f.lays s vs (p + 1) (omega arith) refl));
        }
      where
        longer : (r : Option ℕ) → Within r (at + 32) → Within r (at + 32 + 32 * 2)
        longer (Some x) h = omega arith
        longer None h = tt

  pub no-extension : (out : Lent) → (get_or s p 0 ≡ 3 → ⊥) → Writes pass (Known s p) (drop 3 (identity [] p)) s at (p + 3) out out (Some at)
  no-extension out e =
      record {
        lent = stays_none;
        within = omega arith;
        lays = λ vs size z k. (vs, extension-off (laying pass s) p (kept vs out) (omega arith) at (λ d. e (sym k ∙ d)) z);
      }

  -- a form of 0 has nothing behind it; 1 was an SNA
  pub no-form : (out : Lent) → get_or s p 0 < 2 → (get_or s p 0 ≡ 1 → ⊥) → Writes pass (Known s p) (drop 1 (identity [] p)) s at (p + 1) out out (Some at)
  no-form out l e =
      let none : get_or s p 0 ≡ 0 = zero_left (get_or s p 0) l e in
      record {
        lent = stays_none;
        within = omega arith;
        lays = λ vs size z k. (vs, form-none (laying pass s) p (kept vs out) (omega arith) at (k ∙ none) z);
      }
    where
      zero_left : (n : ℕ) → n < 2 → (n ≡ 1 → ⊥) → n ≡ 0
      zero_left zero l e = refl
      zero_left (suc zero) l e = absurd (e refl)
      zero_left (suc (suc n)) l e = omega arith

  -- a form from 2 on has an SSI, and what its extension's row says
  module _ {out out₁ : Lent} {r₁ : Option ℕ} (from : 2 ≤ get_or s p 0) (f : Passes pass (number_field 24) (get_or s (p + 2) 0) at out out₁ r₁) where
    pub ssi-then : {at₁ : ℕ} {out₂ : Lent} {r : Option ℕ} → r₁ ≡ Some at₁ → Writes pass (Known s p) (drop 3 (identity [] p)) s at₁ (p + 3) out₁ out₂ r
        → Writes pass (Known s p) (drop 1 (identity [] p)) s at (p + 1) out out₂ r
    ssi-then {at₁} {out₂} {r} e g =
        record {
          lent = stays_on f.lent g.lent;
          within = within_on r at at₁ 2 1 3 (omega arith) (longer (subst (λ (x : Option ℕ). Within x (at + 32)) e f.within)) g.within;
          lays = λ vs size z k.
              let v = get_or s (p + 2) 0 in
              let w = set vs (p + 2) v in
              let clear : Clear w (p + 3) = λ q l. clear-set vs (p + 1) (p + 2) v z (omega arith) q (omega arith) in
              let rest = g.lays w (length-set vs (p + 2) v ∙ size) clear (get_or-set_other vs (p + 2) p v 0 (λ d. omega arith) ∙ k) in (
                rest.0,
                form-ssi (laying pass s) p (kept vs out) (omega arith) at (kept w out₁) r₁ (omega arith) z (f.lays s vs (p + 2) (omega arith) refl) at₁
                    (kept rest.0 out₂) r e rest.1,
              );
        }
      where
        longer : at₁ ≤ at + 32 → at₁ ≤ at + 32 * 2
        longer h = omega arith

    pub ssi-stop : r₁ ≡ None → Writes pass (Known s p) (drop 1 (identity [] p)) s at (p + 1) out out₁ None
    ssi-stop e =
        record {
          lent = f.lent;
          within = tt;
          lays = λ vs size z k. (
            set vs (p + 2) (get_or s (p + 2) 0),
            form-stop (laying pass s) p (kept vs out) (omega arith) at (kept (set vs (p + 2) (get_or s (p + 2) 0)) out₁) r₁ (omega arith) z
                (f.lays s vs (p + 2) (omega arith) refl) None e tt,
          );
        }

-- ---- an item of the list whose count is at the place t
module _ {pass : Pass} (items : Items) {s : List ℕ} {at : ℕ} (t p v : ℕ) (before : t < p) (room : p + stride items ≤ places) where
  pub item-there : {out out₁ : Lent} {r : Option ℕ} → v ≤ get_or s t 0 → Writes pass Any (item items [] p) s at p out out₁ r
      → Writes pass (Known s t) (item items (at_least t v ∷ []) p) s at p out out₁ r
  item-there {out} {out₁} {r} h f =
      record {
        lent = f.lent;
        within = subst (λ (n : ℕ). Within r (at + 32 * n)) (length-item items [] p ∙ sym (length-item items (at_least t v ∷ []) p)) f.within;
        lays = λ vs size z k.
            let rest = f.lays vs size z tt in
            (rest.0, item_on (laying pass s) items t p v (kept vs out) before at (kept rest.0 out₁) r (omega (arith, k)) rest.1);
      }

  pub item-absent : (out : Lent) → get_or s t 0 < v → Writes pass (Known s t) (item items (at_least t v ∷ []) p) s at p out out (Some at)
  item-absent out h =
      record {
        lent = stays_none;
        within = omega arith;
        lays = λ vs size z k. (vs, item-off (laying pass s) items t p v (kept vs out) before at (omega (arith, k)) z (omega arith));
      }
