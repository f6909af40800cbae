-- What becomes of the owners of a group: a function of those who stand (document 02, P6).
use Rattle.std.specs.Prelude.{ℕ, Bool, true, false, cond, ◌&&◌, ◌||◌, List, [], ◌++◌}
use Rattle.rules.specs.Lists.{mem}

-- whether those who stand stay, and those who come
pub record OwnerChange : Type 0 where
  pub stay : Bool
  pub come : List ℕ

-- "listed owners are added to those who stand, the asker among them"
abbrev pub added : List ℕ → OwnerChange
added l = record { stay = true; come = l }

-- "sets the owners to exactly the asker and those listed"
abbrev pub set : List ℕ → OwnerChange
set l = record { stay = false; come = l }

abbrev pub kept : OwnerChange
kept = added []

-- the owners then, of those who stand; a new group has none who stand
abbrev pub owners_from : OwnerChange → List ℕ → List ℕ
owners_from c standing = cond c.stay standing [] ++ c.come

-- whether one is among them, by whether he stands
abbrev pub owns_from : OwnerChange → Bool → ℕ → Bool
owns_from c stands a = (c.stay && stands) || mem a c.come

-- "more than 16 owners in a group"
abbrev pub max_owners : ℕ
max_owners = 16
