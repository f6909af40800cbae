-- What a reader of words says in document 01's terms: 0, the values it took and the place behind them; or 9 where something else stands.
use Rattle.std.specs.Prelude.{ℕ, zero, suc, ◌+◌, ◌*◌, Bool, true, not, cond, ◌&&◌, ◌||◌, List, [], ◌∷◌, ◌++◌, leb, ltb, eqb, length}
use Rattle.std.specs.Prelude.{replicate, Option, Some, None}
use Rattle.std.specs.List.{flat_map}
use Rattle.std.proofs.Math.Seq.{slice}
use Rattle.refusal.specs.Says.{Says, accepted, refused_with}
use Rattle.refusal.specs.declared.Refusal.TheVariants.{BadLine}
use Rattle.house.specs.Hex.{all_digits}
use Rattle.rules.specs.declared.AnswerKind.{AnswerKind}
use Rattle.rules.specs.declared.AnswerKind.TheVariants.{Assignment, Deassignment}
use Rattle.order.specs.declared.GroupAsked.{GroupAsked}
use Rattle.order.specs.declared.GroupAsked.TheVariants.{Whole, Plain}
use Rattle.order.specs.declared.Identity.{Identity}
use Rattle.order.specs.declared.Numbers.{Numbers}
use Rattle.words.specs.declared.Taken.{Taken}
use Rattle.words.specs.Character.{blank, comma, hyphen, dot, slash, colon}
use Rattle.words.specs.Words.{hexadecimal, stands_at, enough_at}

-- the value as it is told, then the place behind it
abbrev pub taken_says : {A : Type 0} → (A → List ℕ) → Option (Taken A) → Says
taken_says told (Some taken) = accepted (told taken.value ++ taken.next ∷ [])
taken_says told None = refused_with BadLine

-- a place alone
abbrev pub place_says : Option ℕ → Says
place_says (Some next) = accepted (next ∷ [])
place_says None = refused_with BadLine

-- a number is told as it is, a NUMBER by its SSI and its extension
abbrev pub one : ℕ → List ℕ
one value = value ∷ []

abbrev pub both : ℕ × ℕ → List ℕ
both parts = parts.0 ∷ parts.1 ∷ []

-- a GROUP by its SSI, and by its extension where it has one
abbrev pub group_told : GroupAsked → List ℕ
group_told (Whole group) = group.0 ∷ group.1 ∷ []
group_told (Plain ssi) = ssi ∷ []

-- a choice by 1, its first character, or 0
abbrev pub choice_told : Bool → List ℕ
choice_told first = cond first 1 0 ∷ []

-- what an answer is for by 0, an assignment, or 1, a deassignment
abbrev pub kind_told : AnswerKind → List ℕ
kind_told Assignment = 0 ∷ []
kind_told Deassignment = 1 ∷ []

-- an IDENTITY by its form, SNA, SSI and extension
abbrev pub identity_told : Identity → List ℕ
identity_told identity = identity.form ∷ identity.sna ∷ identity.ssi ∷ identity.extension ∷ []

-- a LIST by its number type and its ten identities
abbrev pub list_told : Numbers → List ℕ
list_told numbers = numbers.code ∷ flat_map identity_told numbers.identity

-- a LIST or a hyphen: the LIST as above, a hyphen by nothing
abbrev pub list_or_none_told : Option Numbers → List ℕ
list_or_none_told (Some numbers) = list_told numbers
list_or_none_told None = []

module _ (line : List ℕ) where
  -- whether so many digits stand at a place
  abbrev pub digits_stand : ℕ → ℕ → Bool
  digits_stand at width = enough_at line at width && all_digits (slice at (at + width) line)

  -- what they make
  abbrev pub standing : ℕ → ℕ → Taken ℕ
  standing at width = record { value = hexadecimal 0 (slice at (at + width) line); next = at + width }

  -- whether a blank and so many digits stand there
  abbrev pub word_stands : ℕ → ℕ → Bool
  word_stands at width = stands_at line at blank && digits_stand (at + 1) width

  -- whether a blank and a ROOM do
  abbrev pub room_stands : ℕ → Bool
  room_stands at = word_stands at 4 && leb (standing (at + 1) 4).value 2048

  -- whether a blank and a NUMBER do
  abbrev pub number_stands : ℕ → Bool
  number_stands at = word_stands at 8 && (stands_at line (at + 1 + 8) slash && digits_stand (at + 1 + 8 + 1) 8)

  -- whether a blank and a GROUP do: a NUMBER where a slash stands behind the SSI, else the SSI alone
  abbrev pub group_stands : ℕ → Bool
  group_stands at = cond (stands_at line (at + 1 + 8) slash) (number_stands at) (word_stands at 8)

  -- whether a blank and one of two characters do
  abbrev pub either_stands : ℕ → ℕ → ℕ → Bool
  either_stands at first second = stands_at line at blank && (stands_at line (at + 1) first || stands_at line (at + 1) second)

  -- whether an IDENTITY stands there: its form, a dot, 8 digits of SNA or SSI, a dot and 8 of extension
  abbrev pub identity_stands : ℕ → Bool
  identity_stands at =
      digits_stand at 1 && stands_at line (at + 1) dot && digits_stand (at + 2) 8 && stands_at line (at + 10) dot && digits_stand (at + 11) 8

  -- its values: what stands first is the SNA in form 0, else the SSI, and the other of the two is 0
  abbrev pub identity_values : ℕ → List ℕ
  identity_values at =
      let form = (standing at 1).value in
      let value = (standing (at + 2) 8).value in
      form ∷ cond (eqb form 0) value 0 ∷ cond (eqb form 0) 0 value ∷ (standing (at + 11) 8).value ∷ []

  -- whether an IDENTITY stands behind each comma with which a LIST goes on, for so many more at most
  abbrev pub more_stand : ℕ → ℕ → Bool
  more_stand zero at = true
  more_stand (suc places) at = cond (stands_at line at comma) (identity_stands (at + 1) && more_stand places (at + 20)) true

  -- their values, 0 in the places that are left, and the place behind them
  abbrev pub more_values : ℕ → ℕ → List ℕ
  more_values zero at = at ∷ []
  more_values (suc places) at =
      cond (stands_at line at comma) (identity_values (at + 1) ++ more_values places (at + 20)) (replicate (4 * suc places) 0 ++ at ∷ [])

  -- whether a LIST has a first identity: neither the line's end nor a blank stands there
  abbrev pub begins : ℕ → Bool
  begins at = ltb at (length line) && not (stands_at line at blank)

  -- whether the identities of a LIST stand there: none, or a first one and those behind commas, ten at most
  abbrev pub identities_stand : ℕ → Bool
  identities_stand at = cond (begins at) (identity_stands at && more_stand 9 (at + 19)) true

  -- their values, 0 in the places that no identity takes, and the place behind them
  abbrev pub identities_values : ℕ → List ℕ
  identities_values at = cond (begins at) (identity_values at ++ more_values 9 (at + 19)) (replicate 40 0 ++ at ∷ [])

  -- whether a blank and a LIST stand there: a digit of number type, a colon and the identities
  abbrev pub series_stands : ℕ → Bool
  series_stands at = word_stands at 1 && stands_at line (at + 2) colon && identities_stand (at + 3)

  -- whether a blank and a hyphen do
  abbrev pub hyphen_stands : ℕ → Bool
  hyphen_stands at = stands_at line at blank && stands_at line (at + 1) hyphen
