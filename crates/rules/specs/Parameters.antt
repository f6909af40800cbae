-- The parameters of a group, each present or absent.
use Rattle.std.specs.Prelude.{ℕ, Bool, false, ◌||◌, List, [], ◌∷◌, eqb, ltb, leb, length}
use Rattle.std.proofs.Math.Option.{Option, none, some}
use Rattle.rules.specs.Lists.{any}

-- the frame's codes; the name as its letters
pub record Parameters : Type 0 where
  pub set_reference : Option ℕ
  pub acknowledged_call : Option ℕ
  pub broadcast : Option ℕ
  pub name : Option (List ℕ)
  pub class : Option ℕ
  pub lifetime : Option ℕ
  pub temporary : Option ℕ

-- "a new group begins with none"
abbrev pub no_parameters : Parameters
no_parameters = record {
  set_reference = none;
  acknowledged_call = none;
  broadcast = none;
  name = none;
  class = none;
  lifetime = none;
  temporary = none;
}

-- "replace if present and keep if absent"
abbrev pub over : {A : Type 0} → Option A → Option A → Option A
over none old = old
over (some new) old = some new

abbrev pub replaced : Parameters → Parameters → Parameters
replaced new old = record {
  set_reference = over new.set_reference old.set_reference;
  acknowledged_call = over new.acknowledged_call old.acknowledged_call;
  broadcast = over new.broadcast old.broadcast;
  name = over new.name old.name;
  class = over new.class old.class;
  lifetime = over new.lifetime old.lifetime;
  temporary = over new.temporary old.temporary;
}

-- ---- values out of range ----

-- a value without a code among the first `codes`
abbrev pub too_large : ℕ → Option ℕ → Bool
too_large codes none = false
too_large codes (some v) = leb codes v

-- a name has 1 to 16 letters of 8 bits
abbrev pub bad_name : Option (List ℕ) → Bool
bad_name none = false
bad_name (some letters) = eqb (length letters) 0 || (ltb 16 (length letters) || any (λ c. leb 256 c) letters)

abbrev pub bad_parameters : Parameters → Bool
bad_parameters p = any (λ (b : Bool). b)
    (too_large 8 p.set_reference ∷ too_large 2 p.acknowledged_call ∷ too_large 2 p.broadcast ∷ bad_name p.name
    ∷ too_large 8 p.class ∷ too_large 4 p.lifetime ∷ too_large 8 p.temporary ∷ [])
