-- How a reply tells of a refusal: R and its number, in decimal.
use Rattle.std.specs.Prelude.{◌≡◌, cond, List, [], ◌∷◌, ℕ, ◌+◌, ◌/◌, ◌%◌, ◌≤◌, leb, ltb, length}
use Rattle.std.proofs.lemmas.List.Edits.{sets}
use Rattle.refusal.specs.Number.{number_of}
use Rattle.refusal.specs.declared.Refusal.{Refusal}

-- a number below 100 in decimal digits
abbrev pub decimal : ℕ → List ℕ
decimal n = cond (ltb n 10) ((48 + n) ∷ []) ((48 + n / 10) ∷ (48 + n % 10) ∷ [])

-- R and the number
abbrev pub refused : Refusal → List ℕ
refused refusal = 82 ∷ decimal (number_of refusal)

-- the same where `space` bytes are lent for it: nothing where the longest, R and two digits, would not fit
abbrev pub refused_within : ℕ → Refusal → List ℕ
refused_within space refusal = cond (leb 3 space) (refused refusal) []

-- it went to the front of `before`, the rest of that stayed, and `count` is its length
pub record PutsRefusal (refusal : Refusal) (before after : List ℕ) (count : ℕ) : Type 0 where
  pub counted : count ≡ length (refused_within (length before) refusal)
  pub stored : after ≡ sets before 0 (refused_within (length before) refusal)
  pub short : count ≤ 3
