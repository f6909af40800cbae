-- The words of a line. A reader takes what stands from a place of the line on, and the place behind it; nothing where something else stands.
use Rattle.std.specs.Prelude.{Bool, true, false, cond, ◌&&◌, List, [], ◌∷◌, Option, Some, None, ℕ, ◌+◌, ◌*◌, leb, ltb, eqb, length, get_or}
use Rattle.std.proofs.Math.Seq.{slice}
use Rattle.house.specs.Hex.{digit_value, all_digits}
use Rattle.order.specs.declared.GroupAsked.{GroupAsked}
use Rattle.order.specs.declared.GroupAsked.TheVariants.{Whole, Plain}
use Rattle.rules.specs.declared.AnswerKind.{AnswerKind}
use Rattle.rules.specs.declared.AnswerKind.TheVariants.{Assignment, Deassignment}
use Rattle.words.specs.declared.Taken.{Taken}
use Rattle.words.specs.Character.{blank, slash, letter_n, letter_y, letter_a, letter_d}

-- what a reader goes on to behind another; nothing where that took nothing
abbrev pub behind : {A B : Type 0} → Option A → (A → Option B) → Option B
behind None more = None
behind (Some taken) more = more taken

-- what a reader goes on to from a place that was found, and what it takes otherwise
abbrev pub found_or : {A : Type 0} → Option ℕ → (ℕ → A) → A → A
found_or None more other = other
found_or (Some next) more other = more next

-- the value of a digit
abbrev pub digit_at : ℕ → Option ℕ
digit_at character = cond (ltb (digit_value character) 16) (Some (digit_value character)) None

-- whether a character stands at a place
unfoldable pub stands_at : List ℕ → ℕ → ℕ → Bool
stands_at line at character = ltb at (length line) && eqb (get_or line at 0) character

-- the place behind a character
unfoldable pub mark_at : List ℕ → ℕ → ℕ → Option ℕ
mark_at line at character = cond (stands_at line at character) (Some (at + 1)) None

-- digits read as one hexadecimal number, behind those that make `high`
abbrev pub hexadecimal : ℕ → List ℕ → ℕ
hexadecimal high [] = high
hexadecimal high (digit ∷ digits) = hexadecimal (high * 16 + digit_value digit) digits

-- the word that a text makes, behind digits that make `high`: none unless it is digits alone
abbrev pub word_of : ℕ → List ℕ → ℕ → Option (Taken ℕ)
word_of high text next = cond (all_digits text) (Some (record { value = hexadecimal high text; next = next })) None

-- whether so many characters stand in the line, few enough for 64 bits
unfoldable pub enough_at : List ℕ → ℕ → ℕ → Bool
enough_at line at width = leb width 16 && leb (at + width) (length line)

-- so many digits
unfoldable pub digits_at : List ℕ → ℕ → ℕ → Option (Taken ℕ)
digits_at line at width = cond (enough_at line at width) (word_of 0 (slice at (at + width) line) (at + width)) None

-- a blank and so many digits
abbrev pub word_at : List ℕ → ℕ → ℕ → Option (Taken ℕ)
word_at line at width = behind (mark_at line at blank) (λ from. digits_at line from width)

-- a blank and a NUMBER: 8 digits of SSI, '/', 8 of extension
unfoldable pub number_at : List ℕ → ℕ → Option (Taken (ℕ × ℕ))
number_at line at =
    behind (word_at line at 8) (λ ssi.
    behind (mark_at line ssi.next slash) (λ from.
    behind (digits_at line from 8) (λ extension.
    Some (record { value = (ssi.value, extension.value); next = extension.next }))))

-- a blank and a GROUP: a NUMBER, or 8 digits of SSI alone
unfoldable pub group_at : List ℕ → ℕ → Option (Taken GroupAsked)
group_at line at =
    behind (word_at line at 8) (λ ssi.
    cond (stands_at line ssi.next slash)
    (behind (number_at line at) (λ whole. Some (record { value = Whole (whole.value.0, whole.value.1); next = whole.next })))
    (Some (record { value = Plain ssi.value; next = ssi.next })))

-- a blank and a ROOM: 4 digits, at most 0800
unfoldable pub room_at : List ℕ → ℕ → Option (Taken ℕ)
room_at line at = behind (word_at line at 4) (λ size. cond (leb size.value 2048) (Some size) None)

-- a blank and one of two characters, and whether it is the first
unfoldable pub either_at : List ℕ → ℕ → ℕ → ℕ → Option (Taken Bool)
either_at line at one other =
    behind (mark_at line at blank) (λ from.
    found_or (mark_at line from one)
    (λ next. Some (record { value = true; next = next }))
    (behind (mark_at line from other) (λ next. Some (record { value = false; next = next }))))

-- a blank and Y or N, and whether it is Y
abbrev pub choice_at : List ℕ → ℕ → Option (Taken Bool)
choice_at line at = either_at line at letter_y letter_n

-- a blank and a, for an assignment, or d, for a deassignment
abbrev pub kind_at : List ℕ → ℕ → Option (Taken AnswerKind)
kind_at line at = behind (either_at line at letter_d letter_a) (λ taken. Some (record { value = cond taken.value Deassignment Assignment; next = taken.next }))
