-- The two refusals that a table itself states, as they are read: 5 and 6.
-- Assumes nothing.
use Prim.Native.Nat.{ℕ, suc, ◌+◌, ◌≤◌, ◌<◌}
use mathlib.Core.Path.{◌≡◌, ap, sym, ◌∙◌, subst}
use mathlib.Core.Bool.{Bool, true, false}
use mathlib.Core.List.{List, [], ◌∷◌}
use native.Mathlib.Omega.{arith}
use borrow.Author.Tests.{le-ltb}
use lib.Dec.{eqb}
use lib.ListN.{length, take, drop, get_or}
use lib.Seq.{get_or-take}
use Rattle.refusal.specs.declared.Refusal.{Refusal}
use Rattle.refusal.specs.declared.Refusal.TheVariants.{NoGroup, NothingFollows}
use Rattle.bits.specs.Bits.{value}
use Rattle.layout.specs.declared.Shape.{Shape}
use Rattle.layout.specs.declared.Shape.TheVariants.{Missing, Nothing}
use Rattle.layout.specs.Row.{Row, Condition, is, nothing_since, all, present}
use Rattle.layout.specs.Shape.{refuse, No, rows_of, span}
use Rattle.layout.proofs.Tests.{and-true}
use Rattle.table.specs.Sound.{Clear}
use Rattle.layout.specs.declared.Refused.{Refused}
use Rattle.std.specs.Prelude.{Result}
use Rattle.reading.specs.Reads.{Reads, barred_at}
use Rattle.reading.proofs.ReadLaws.{row-off, row-stop}

-- ---- a refusal's row: of no bits, and refused where it is there
module _ (n : Refusal) (c : Condition) (bits : List Bool) (at p : ℕ) (vs : List ℕ) (inside : p < length vs) (z : Clear vs p) where
  pub bar-reads : (t : Bool) → present (take p vs) (c ∷ []) ≡ t → Reads (refuse n 1 (c ∷ []) ∷ []) bits at p vs vs (barred_at t n at)
  unfolding value
  bar-reads false e = row-off (refuse n 1 (c ∷ [])) bits at p vs inside e (z p (omega arith))
  bar-reads true e = row-stop (refuse n 1 (c ∷ [])) bits at p vs inside e n 1 (rw (le-ltb (length (drop at bits)) 0 (omega arith)))

-- the two refusals
module _ (s : Shape) (bits : List Bool) (at p : ℕ) (vs : List ℕ) (room : p + span s ≤ length vs) (z : Clear vs p) where
  barred : (n : Refusal) (c : Condition) (t : Bool) (r : Result ℕ Refused)
      → rows_of s [] p ≡ refuse n 1 (c ∷ []) ∷ [] → 1 ≡ span s → present (take p vs) (c ∷ []) ≡ t → r ≡ barred_at t n at
      → Reads (rows_of s [] p) bits at p vs vs r
  barred n c t r e some on d =
      subst (λ (l : List Row). Reads l bits at p vs vs r) (sym e)
      (subst (λ (x : Result ℕ Refused). Reads (refuse n 1 (c ∷ []) ∷ []) bits at p vs vs x) (sym d) (bar-reads n c bits at p vs (omega arith) z t on))

  pub shape-missing : (q : ℕ) (t : Bool) (r : Result ℕ Refused) → s ≡ Missing q → q < p → t ≡ eqb (get_or vs q 0) No → r ≡ barred_at t NoGroup at
      → Reads (rows_of s [] p) bits at p vs vs r
  unfolding rows_of span present
  shape-missing q t r e before h d =
      barred NoGroup (is q No) t r (ap (λ (x : Shape). rows_of x [] p) e) (sym (ap span e))
      (rw (get_or-take p vs q 0 before, and-true (eqb (get_or vs q 0) 2)) (sym h)) d

  pub shape-nothing : (o : ℕ) (t : Bool) (r : Result ℕ Refused) → s ≡ Nothing o → t ≡ all (λ v. eqb v 0) (drop (suc o) (take p vs)) → r ≡ barred_at t NothingFollows at
      → Reads (rows_of s [] p) bits at p vs vs r
  unfolding rows_of span present
  shape-nothing o t r e h d =
      barred NothingFollows (nothing_since o) t r (ap (λ (x : Shape). rows_of x [] p) e) (sym (ap span e))
      (and-true (all (λ v. eqb v 0) (drop (suc o) (take p vs))) ∙ sym h) d
