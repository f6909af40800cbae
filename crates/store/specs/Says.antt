-- What is looked up says, in document 01's terms: the number, 0 where nothing is wrong, and the values.
use Rattle.std.specs.Prelude.{ℕ, [], ◌∷◌, Result, Ok, Err, Option, Some, None, ⊤}
use Rattle.refusal.specs.Says.{Says, accepted, refused_with}
use Rattle.refusal.specs.declared.Refusal.{Refusal}

-- whether it stands there, 1 or 0, and the place
abbrev pub place_says : Result ℕ ℕ → Says
place_says (Ok i) = accepted (1 ∷ i ∷ [])
place_says (Err i) = accepted (0 ∷ i ∷ [])

-- "Finding a pair yields its state, or says plainly that there is none"
abbrev pub found_says : Option ℕ → Says
found_says (Some state) = accepted (state ∷ [])
found_says None = accepted []

-- 12 where the group is not in the ledger, 13 where the asker does not own it
abbrev pub owned_says : Result ⊤ Refusal → Says
owned_says (Ok own) = accepted []
owned_says (Err r) = refused_with r
