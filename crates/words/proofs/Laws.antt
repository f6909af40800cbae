-- What a reader of the definitions may want: a room is never more than 2,048 places; digits that reach past the line's end are not taken, whatever their
-- width; and any other reader that starts at or past the end takes nothing.
use mathlib.Core.Path.{◌≡◌, refl, sym, ap}
use mathlib.Core.Bool.{Bool, true, false, cond, ◌&&◌}
use mathlib.Core.List.{List}
use Prim.Native.Nat.{ℕ, ◌+◌, ◌≤◌, ◌<◌}
use native.Mathlib.Omega.{arith}
use lib.Dec.{leb}
use lib.ListN.{length}
use lib.Seq.{slice_empty}
use borrow.Author.Tests.{leb-true, le-leb, lt-leb, le-ltb}
use Rattle.std.specs.Prelude.{Option, Some, None}
use Rattle.std.proofs.lemmas.Option.{cond_some, none-some}
use Rattle.words.specs.declared.Taken.{Taken}
use Rattle.words.specs.Character.{blank}
use Rattle.words.specs.Words.{behind, stands_at, mark_at, enough_at, digits_at, word_at, number_at, group_at, room_at, either_at, choice_at, kind_at}
use Rattle.words.specs.Series.{named_at, identity_at, series_at, series_or_none_at}

pub room_most : (line : List ℕ) (at : ℕ) (room : Taken ℕ) → Some room ≡ room_at line at → room.value ≤ 2048
unfolding room_at
room_most line at room e = most (word_at line at 4) (sym e)
  where
    most : (size : Option (Taken ℕ)) → behind size (λ size. cond (leb size.value 2048) (Some size) None) ≡ Some room → room.value ≤ 2048
    most (Some size) e =
        let is = cond_some (leb size.value 2048) size room e in
        omega (arith, leb-true size.value 2048 is.0, ap (λ (t : Taken ℕ). t.value) is.1)
    most None e = absurd (none-some room e)

neither : (b : Bool) → (b && false) ≡ false
neither true = refl
neither false = refl

-- digits that reach past the line's end: past it any width, at it any but 0
pub digits-past : (line : List ℕ) (at width : ℕ) → length line < at + width → digits_at line at width ≡ None
unfolding digits_at enough_at
digits-past line at width past = rw (lt-leb (at + width) (length line) past, neither (leb width 16))

-- width 0 is taken up to the line's end, and at it too: the value is 0, and the place stays
pub digits-none : (line : List ℕ) (at : ℕ) → at ≤ length line → digits_at line at 0 ≡ Some (record { value = 0; next = at })
unfolding digits_at enough_at
digits-none line at inside =
    let stays : at + 0 ≡ at = omega arith in
    rw (stays, le-leb at (length line) inside, slice_empty at line)

-- at or past the line's end
module _ (line : List ℕ) (at : ℕ) (past : length line ≤ at) where
  pub mark-past : (character : ℕ) → mark_at line at character ≡ None
  unfolding mark_at stands_at
  mark-past character = rw (le-ltb at (length line) past)

  pub word-past : (width : ℕ) → word_at line at width ≡ None
  word-past width = rw (mark-past blank)

  pub number-past : number_at line at ≡ None
  unfolding number_at
  number-past = rw (mark-past blank)

  pub group-past : group_at line at ≡ None
  unfolding group_at
  group-past = rw (mark-past blank)

  pub room-past : room_at line at ≡ None
  unfolding room_at
  room-past = rw (mark-past blank)

  pub either-past : (one other : ℕ) → either_at line at one other ≡ None
  unfolding either_at
  either-past one other = rw (mark-past blank)

  pub choice-past : choice_at line at ≡ None
  choice-past = either-past _ _

  pub kind-past : kind_at line at ≡ None
  kind-past = rw (either-past _ _)

  pub named-past : named_at line at ≡ None
  unfolding named_at
  named-past = rw (digits-past line at 1 (omega arith))

  pub identity-past : identity_at line at ≡ None
  identity-past = rw (mark-past blank)

  pub series-past : series_at line at ≡ None
  unfolding series_at
  series-past = rw (mark-past blank)

  pub series-or-none-past : series_or_none_at line at ≡ None
  unfolding series_or_none_at
  series-or-none-past = rw (mark-past blank)
