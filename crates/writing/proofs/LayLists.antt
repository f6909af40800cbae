-- The writer's loop over the items of a list: what it keeps from turn to turn, after whatever cleaned record holds the count as the caller's does.
-- Assumes nothing.
use Rattle.std.proofs.Common.{◌≡◌, ℕ, ◌+◌, ◌*◌, ◌<◌, ◌≤◌, Option, Some, None, List, [], ◌∷◌, length, get_or, refl, ◌∙◌, subst, mul-zero, mul-suc, add-one, arith}
use Rattle.writing.specs.Pass.{Pass}
use Rattle.layout.specs.Row.{Row, at_least}
use Rattle.layout.specs.Shape.{least, times, stride, item, repeated, rows_of}
use Rattle.layout.specs.Frame.{places}
use Rattle.layout.specs.declared.Items.{Items}
use Rattle.layout.specs.declared.Shape.TheVariants as shape
use Rattle.table.specs.declared.Field.{Field}
use Rattle.table.specs.Fields.{count_field}
use Rattle.table.specs.Sound.{Clear}
use Rattle.table.proofs.Walks.{value_before}
use Rattle.table.proofs.Absent.{length-item, length-repeated}
use Rattle.table.proofs.ListLaws.{Listing, listing_none, listing-more, listing-stop}
use Rattle.writing.specs.Lay.{Lent, Stays, Within, Passes, Any, Known, Writes}
use Rattle.writing.proofs.LayLaws.{kept, laying, stays_none, stays_on}
use Rattle.writing.proofs.Parts.{field-then, field-stop}

-- item i of the list whose count is at the place t
abbrev item_at : Items → ℕ → ℕ → ℕ → List Row
item_at items t p i = item items (at_least t (least items i) ∷ []) p

-- i items are passed, and the next begins at the place p
pub record Listed (pass : Pass) (items : Items) (s : List ℕ) (from t : ℕ) (out₀ out : Lent) (at p i : ℕ) : Type 0 where
  pub place : p ≡ t + 1 + stride items * i
  pub lent : Stays out₀ out
  pub low : at ≤ from + 32 * (stride items * i)
  pub so_far : (vs₀ : List ℕ) → length vs₀ ≡ places → Clear vs₀ (t + 1) → Known s t vs₀
      → (vs : List ℕ) × Listing (laying pass s) items from t (kept vs₀ out₀) (kept vs out) at p i

module _ {pass : Pass} {items : Items} {s : List ℕ} {from t : ℕ} {out₀ : Lent} where
  pub listed-none : Listed pass items s from t out₀ out₀ from (t + 1) 0
  listed-none =
      record {
        place = omega (arith, mul-zero (stride items));
        lent = stays_none;
        low = omega arith;
        so_far = λ vs size z k. (vs, listing_none (laying pass s) items from t (kept vs out₀) z);
      }

  module _ {out : Lent} {at p i : ℕ} (now : Listed pass items s from t out₀ out at p i) where
    -- all of them, where no more are to come
    pub listed-all : Writes pass (Known s t) (repeated items t (t + 1) 0 i) s from (t + 1) out₀ out (Some at)
    listed-all =
        record {
          lent = now.lent;
          within = omega (arith, now.low, length-repeated items t (t + 1) 0 i);
          lays = λ vs₀ size z k. let rest = now.so_far vs₀ size z k in (rest.0, rest.1.goes);
        }

    -- an item more, or one that stops the list
    module _ {out₁ : Lent} {r : Option ℕ} (f : Writes pass (Known s t) (item_at items t p i) s at p out out₁ r) where
      next : (vs₀ : List ℕ) → length vs₀ ≡ places → Clear vs₀ (t + 1) → Known s t vs₀
          → (vs vs₁ : List ℕ) × Listing (laying pass s) items from t (kept vs₀ out₀) (kept vs out) at p i
          × (laying pass s).Goes (item_at items t p i) at p (kept vs out) (kept vs₁ out₁) r
      next vs₀ size z k =
          let rest = now.so_far vs₀ size z k in
          let vs = rest.0 in
          let rows = repeated items t (t + 1) 0 i in
          let same = value_before (laying pass s) rows from at (t + 1) (kept vs₀ out₀) (kept vs out) (Some at) refl rest.1.goes t (omega arith) in
          let one = f.lays vs (rest.1.size ∙ size) rest.1.clear (same ∙ k) in
          (vs, one.0, rest.1, one.1)

      pub listed_more : {at₁ w : ℕ} → r ≡ Some at₁ → w ≡ stride items → Listed pass items s from t out₀ out₁ at₁ (p + w) (i + 1)
      listed_more {at₁} {w} e l =
          let on : at₁ ≤ at + 32 * length (item_at items t p i) = subst (λ (x : Option ℕ). Within x (at + 32 * length (item_at items t p i))) e f.within in
          record {
            place = omega (arith, now.place, add-one i, mul-suc (stride items) i);
            lent = stays_on now.lent f.lent;
            low = omega (arith, now.low, length-item items (at_least t (least items i) ∷ []) p, add-one i, mul-suc (stride items) i);
            so_far = λ vs₀ size z k.
                let n = next vs₀ size z k in
                (n.1, listing-more (laying pass s) items from t (kept vs₀ out₀) (kept n.0 out) (kept n.1 out₁) at p i r n.2 n.3 at₁ w e l);
          }

      pub listed-stop : (m : ℕ) → r ≡ None → i < m → Writes pass (Known s t) (repeated items t (t + 1) 0 m) s from (t + 1) out₀ out₁ None
      listed-stop m e h =
          record {
            lent = stays_on now.lent f.lent;
            within = tt;
            lays = λ vs₀ size z k.
                let n = next vs₀ size z k in
                (n.1, listing-stop (laying pass s) items from t (kept vs₀ out₀) (kept n.0 out) (kept n.1 out₁) at p i r n.2 n.3 None m e tt h);
          }

-- ---- the count, then the items
module _ (items : Items) (s : List ℕ) (p : ℕ) {pass : Pass} {at : ℕ} {out out₁ : Lent} {r₁ : Option ℕ} {f : Field} (count : f ≡ count_field items)
    (passed : Passes pass f (get_or s p 0) at out out₁ r₁) (inside : p < places) where
  counted : Passes pass (count_field items) (get_or s p 0) at out out₁ r₁
  counted = subst (λ (g : Field). Passes pass g (get_or s p 0) at out out₁ r₁) count passed

  pub list-then : {at₁ : ℕ} {out₂ : Lent} {r : Option ℕ} → r₁ ≡ Some at₁
      → Writes pass (Known s p) (repeated items p (p + 1) 0 (times items)) s at₁ (p + 1) out₁ out₂ r
      → Writes pass Any (rows_of (shape.List items) [] p) s at p out out₂ r
  unfolding rows_of
  list-then = field-then counted inside refl refl

  pub list-bad : r₁ ≡ None → Writes pass Any (rows_of (shape.List items) [] p) s at p out out₁ None
  unfolding rows_of
  list-bad = field-stop counted inside refl
