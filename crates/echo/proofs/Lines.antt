-- Laws of the lines of a text: where the first of them ends, and what is unfinished behind it.
use mathlib.Core.Path.{◌≡◌, refl, sym}
use mathlib.Core.Bool.{Bool, true, false, cond, ◌||◌, true≢false}
use mathlib.Core.List.{List, [], ◌∷◌}
use Prim.Native.Nat.{ℕ, zero, suc, ◌+◌, ◌<◌}
use native.Mathlib.Numerals.{add-one}
use native.Mathlib.Omega.{arith}
use lib.Dec.{eqb}
use lib.ListN.{length, get_or, drop}
use Rattle.std.proofs.Common.{Option, Some, None}
use Rattle.memchr.specs.Find.{IsFirstByte, is_byte}
use Rattle.echo.specs.Line.{newline, has_newline, until_newline, newline_at, unfinished}

not-true : (t : Bool) → (t ≡ true → ⊥) → t ≡ false
not-true true h = absurd (h refl)
not-true false h = refl

-- no byte of a text is a newline
none-found : (text : List ℕ) → ((k : ℕ) → k < length text → eqb (get_or text k 0) newline ≡ true → ⊥) → has_newline text ≡ false
none-found [] none = refl
none-found (byte ∷ text) none =
    let other : eqb byte newline ≡ false = not-true _ (none 0 (omega arith)) in
    rw other (none-found text (λ k fits found. none (suc k) (omega arith) found))

-- one is, and none before it
one-found : (text : List ℕ) (k : ℕ) → k < length text → eqb (get_or text k 0) newline ≡ true
    → ((j : ℕ) → j < k → eqb (get_or text j 0) newline ≡ true → ⊥) → (has_newline text ≡ true) × (until_newline text ≡ k)
one-found [] k fits found none = absurd (omega arith)
one-found (byte ∷ text) zero fits found none = (rw found, rw found)
one-found (byte ∷ text) (suc k) fits found none =
    let other : eqb byte newline ≡ false = not-true _ (none 0 (omega arith)) in
    let rest = one-found text k (omega arith) found (λ j less here. none (suc j) (omega arith) here) in
    (rw other rest.0, rw (other, rest.1))

-- what a search for a newline answers
pub newline-found : (text : List ℕ) (r : Option ℕ) → IsFirstByte (is_byte newline) text r → r ≡ newline_at text
newline-found text None none = rw (none-found text (λ k fits found. none k (omega arith) fits found))
newline-found text (Some k) (before, found) =
    let one = one-found text k (omega (arith, before.high)) found (λ j less here. before.before j (omega arith) less here) in
    rw (one.0, one.1)

-- behind the first newline the same is unfinished
past : (text : List ℕ) → has_newline text ≡ true
    → (until_newline text < length text) × (unfinished (drop (suc (until_newline text)) text) ≡ unfinished text)
past [] e = absurd (true≢false (sym e))
past (byte ∷ text) e = by_first (eqb byte newline) refl e (past text)
  where
    by_first : (t : Bool) → eqb byte newline ≡ t → t || has_newline text ≡ true
        → (has_newline text ≡ true → (until_newline text < length text) × (unfinished (drop (suc (until_newline text)) text) ≡ unfinished text))
        → (until_newline (byte ∷ text) < length (byte ∷ text))
        × (unfinished (drop (suc (until_newline (byte ∷ text))) (byte ∷ text)) ≡ unfinished (byte ∷ text))
    by_first true e any later = (rw e (omega arith), rw e)
    by_first false e any later = (rw e (omega (arith, (later any).0)), rw (e, any) (later any).1)

pub line-passed : (text : List ℕ) (end : ℕ) → newline_at text ≡ Some end → (end < length text) × (unfinished (drop (end + 1) text) ≡ unfinished text)
line-passed text end e = by_newline (has_newline text) refl e (past text)
  where
    by_newline : (t : Bool) → has_newline text ≡ t → cond t (Some (until_newline text)) None ≡ Some end
        → (has_newline text ≡ true → (until_newline text < length text) × (unfinished (drop (suc (until_newline text)) text) ≡ unfinished text))
        → (end < length text) × (unfinished (drop (end + 1) text) ≡ unfinished text)
    by_newline true any e later =
        let end-is : until_newline text ≡ end = cc in
        let passed = rw end-is at (later any) in
        rw add-one passed
    by_newline false none e later = absurd (cc)

-- a text without a newline is unfinished as a whole
pub no-line : (text : List ℕ) → newline_at text ≡ None → unfinished text ≡ text
no-line [] e = refl
no-line (byte ∷ text) e = by_newline (has_newline (byte ∷ text)) e
  where
    by_newline : (t : Bool) → cond t (Some (until_newline (byte ∷ text))) None ≡ None → cond t (unfinished text) (byte ∷ text) ≡ byte ∷ text
    by_newline true e = absurd (cc)
    by_newline false e = refl
