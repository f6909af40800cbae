-- A record that is being filled: what its reading promises, from the laws of rows.
-- Assumes nothing.
use Prim.Native.Nat.{ℕ, ◌+◌}
use mathlib.Core.Path.{◌≡◌, refl, ap, sym, ◌∙◌, subst}
use mathlib.Core.Bool.{Bool}
use mathlib.Core.List.{List, ◌++◌}
use native.Mathlib.Omega.{arith}
use lib.ListN.{length, length-append}
use Rattle.std.specs.Prelude.{Result, Ok, Err, OnOk, IsErrAnd}
use Rattle.std.proofs.lemmas.Result.{IfOk-at_ok, on_ok_weaker, err_from_is_err_and}
use Rattle.layout.specs.declared.Refused.{Refused}
use Rattle.layout.specs.Row.{Row}
use Rattle.reading.specs.declared.parts.Filling.{Filling}
use Rattle.reading.specs.Reads.{Reads, Fills}
use Rattle.reading.proofs.ReadLaws.{reads_on, reads-stop}

module _ {rows : List Row} {bits : List Bool} {at : ℕ} {x y : Filling} {s t : Result ℕ Refused} where
  -- what is read, where the next row's place, the values and the result are known by other names
  pub reads_as : (p : ℕ) {v : List ℕ} → x.place ≡ p → x.values ≡ v → s ≡ t → Fills rows bits at x y s → Reads rows bits at p v y.values t
  reads_as p {v} e d q f =
      subst (Reads rows bits at p v y.values) q
      (subst (λ (l : List ℕ). Reads rows bits at p l y.values s) d (subst (λ (n : ℕ). Reads rows bits at n x.values y.values s) e f.reads))

  pub fills : (p : ℕ) {w : List ℕ} → x.place ≡ p → y.values ≡ w → s ≡ t → OnOk t (y.place ≡ x.place + length rows)
      → Reads rows bits at p x.values w t → Fills rows bits at x y s
  fills p {w} e d q m f =
      let same : Reads rows bits at p x.values y.values t = subst (λ (l : List ℕ). Reads rows bits at p x.values l t) (sym d) f in
      subst (Fills rows bits at x y) (sym q)
      (record { reads = subst (λ (n : ℕ). Reads rows bits at n x.values y.values t) (sym e) same; moved = m })

-- the exit of a `?`
pub left_by : {X : Type 0} (s : Result X Refused) {r : Refused} → IsErrAnd s (λ y. y ≡ r) → s ≡ Err r
left_by s e = let p = err_from_is_err_and s e in p.1 ∙ ap Err p.2

module _ {a : List Row} {bits : List Bool} {at : ℕ} {x y : Filling} {s : Result ℕ Refused} (f : Fills a bits at x y s) where
  -- rows after rows
  pub fills-then : {b : List Row} {at₁ : ℕ} {z : Filling} {t : Result ℕ Refused} → s ≡ Ok at₁ → Fills b bits at₁ y z t → Fills (a ++ b) bits at x z t
  fills-then {b} {at₁} {z} {t} e g =
      let first : Reads a bits at x.place x.values y.values (Ok at₁) = subst (Reads a bits at x.place x.values y.values) e f.reads in
      let moved : y.place ≡ x.place + length a = IfOk-at_ok _ e f.moved in
      let second : Reads b bits at₁ (x.place + length a) y.values z.values t = reads_as (x.place + length a) moved refl refl g in
      record {
        reads = reads_on a b bits at x.place x.values y.values at₁ z.values t first second;
        moved = on_ok_weaker t (λ m. omega (arith, m, moved, length-append a b)) g.moved;
      }

  -- a refusal, and no rows after it
  pub fills-stop : (b : List Row) {r : Refused} {t : Result ℕ Refused} → s ≡ Err r → t ≡ Err r → Fills (a ++ b) bits at x y t
  fills-stop b {r} {t} e d =
      let stopped : Reads a bits at x.place x.values y.values (Err r) = subst (Reads a bits at x.place x.values y.values) e f.reads in
      subst (Fills (a ++ b) bits at x y) (sym d)
      (record { reads = reads-stop a b bits at x.place x.values y.values r stopped; moved = tt })
