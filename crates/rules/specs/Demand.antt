-- Demand 3: what an owner's list and an owner's show must hold after any history.
use Rattle.std.specs.Prelude.{ℕ, ◌≡◌, true, false, List, map, eqb}
use Rattle.std.proofs.Math.Option.{Option, none, some}
use Rattle.rules.specs.Lists.{Rising, mem}
use Rattle.rules.specs.Entries.{find}
use Rattle.rules.specs.Number.{Number, key, wide_number}
use Rattle.rules.specs.Mark.{Mark}
use Rattle.rules.specs.Parameters.{Parameters}
use Rattle.rules.specs.Replies.{Entry}
use Rattle.rules.specs.History.{History, world, owner, mark}

-- an asker and a group, numbers of 24 bits a part, and the one owns the other
pub record Owns (h : History) (asker g : Number) : Type 0 where
  pub narrow_asker : wide_number asker ≡ false
  pub narrow_group : wide_number g ≡ false
  pub owns : owner h (key g) (key asker) ≡ true

-- what a list must say of a pair: its state, or nothing where there is no pair
abbrev pub told : Option Mark → Option ℕ
told none = none
told (some m) = some m.state

abbrev pub entry_radios : List Entry → List ℕ
entry_radios l = map (λ (e : Entry). e.0) l

-- the list holds each radio that the accepted steps have put into the group since it was last made and not taken away,
-- with its state, once, rising, and no other
pub record Exactly (h : History) (g : ℕ) (l : List Entry) : Type 0 where
  pub rises : Rising (entry_radios l)
  pub says : (r : ℕ) → find eqb l r ≡ told (mark h g r)

-- the owners, rising, and the parameters, as the accepted steps since the group was made give them
pub record Tells (h : History) (g : ℕ) (owners : List ℕ) (parameters : Parameters) : Type 0 where
  pub rises : Rising owners
  pub owns : (a : ℕ) → mem a owners ≡ owner h g a
  pub has : parameters ≡ (world h).parameters g
