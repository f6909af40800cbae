-- What is looked up says, for any contents.
use mathlib.Core.Path.{◌≡◌, refl}
use mathlib.Core.Bool.{Bool, true, false, cond}
use mathlib.Core.List.{List, [], ◌∷◌}
use mathlib.Core.Option.{Option, none, some}
use Prim.Native.Nat.{ℕ}
use Rattle.std.specs.Prelude.{Ok, Err}
use Rattle.refusal.specs.Says.{Says, accepted, refused_with}
use Rattle.refusal.specs.declared.Refusal.TheVariants.{NoSuchGroup, NotOwner}
use Rattle.rules.specs.Lists.{mem, present}
use Rattle.rules.specs.Mark.{Mark}
use Rattle.rules.specs.Ledger.{Group}
use Rattle.store.specs.Halving.{place_in}
use Rattle.store.specs.Places.{place_of, looked_up, found_of}
use Rattle.store.specs.Named.{owned_as}
use Rattle.store.specs.Says.{place_says, found_says, owned_says}

-- whether it is looked up there, and the place
pub place-says : {K X : Type 0} (below same : K → K → Bool) (l : List (K × X)) (k : K)
    → place_says (place_of below same l k) ≡ accepted (cond (present (looked_up below same l k)) 1 0 ∷ place_in below l k ∷ [])
place-says below same l k = go (present (looked_up below same l k))
  where
    go : (b : Bool) → place_says (cond b (Ok (place_in below l k)) (Err (place_in below l k))) ≡ accepted (cond b 1 0 ∷ place_in below l k ∷ [])
    go true = refl
    go false = refl

-- a pair's state, or none
abbrev pub mark_says : Option Mark → Says
mark_says none = accepted []
mark_says (some m) = accepted (m.state ∷ [])

pub found-says : (o : Option Mark) → found_says (found_of o) ≡ mark_says o
found-says none = refl
found-says (some m) = refl

-- a group to an asker: 12, 13, or nothing wrong
abbrev pub group_says : Option Group → ℕ → Says
group_says none asker = refused_with NoSuchGroup
group_says (some x) asker = cond (mem asker x.owners) (accepted []) (refused_with NotOwner)

pub owned-says : (x : Option Group) (asker : ℕ) → owned_says (owned_as x asker) ≡ group_says x asker
owned-says none asker = refl
owned-says (some x) asker = go (mem asker x.owners)
  where
    go : (b : Bool) → owned_says (cond b (Ok tt) (Err NotOwner)) ≡ cond b (accepted []) (refused_with NotOwner)
    go true = refl
    go false = refl
