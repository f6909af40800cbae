-- Laws of the characters of a line, as the readers of words use them.
use mathlib.Core.Path.{◌≡◌, refl}
use mathlib.Core.Bool.{Bool, true, false, ◌&&◌}
use mathlib.Core.List.{List}
use Prim.Native.Nat.{ℕ, ◌+◌, ◌≤◌, ◌<◌}
use lib.Dec.{leb, ltb, eqb}
use lib.ListN.{length, get_or}
use borrow.Author.Tests.{ltb-true, leb-true}
use Rattle.words.specs.Words.{stands_at, enough_at}

-- of two tests that hold together each holds
pub both_hold : (s t : Bool) → (s && t) ≡ true → (s ≡ true) × (t ≡ true)
both_hold true t e = (refl, e)
both_hold false t e = (e, cc)

-- a character that stands somewhere stands in the line
pub stands-within : (line : List ℕ) (at character : ℕ) → stands_at line at character ≡ true → at < length line
unfolding stands_at
stands-within line at character e = ltb-true at (length line) (both_hold (ltb at (length line)) (eqb (get_or line at 0) character) e).0

module _ (line : List ℕ) (at width : ℕ) where
  pub enough-within : enough_at line at width ≡ true → (width ≤ 16) × (at + width ≤ length line)
  unfolding enough_at
  enough-within e =
      let each = both_hold (leb width 16) (leb (at + width) (length line)) e in
      (leb-true width 16 each.0, leb-true (at + width) (length line) each.1)
