-- What taking a field says in document 01's terms.
-- Assumes nothing.
use Rattle.std.specs.Prelude.{ℕ, [], ◌∷◌, Option, Some, None}
use Rattle.refusal.specs.declared.Refusal.TheVariants.{EndsInside}
use Rattle.refusal.specs.Says.{Says, accepted, refused_with}

-- 1, and no value, where the bits end inside the field or the bit count exceeds the lent bits
abbrev pub taken_says : Option ℕ → Says
taken_says (Some v) = accepted (v ∷ [])
taken_says None = refused_with EndsInside
