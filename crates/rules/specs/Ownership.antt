-- Document 02, P6: "A shift leader added a deputy and the creator lost the group". How a group's owners change, after any history.
use Rattle.std.specs.Prelude.{ℕ, ◌≡◌, true, false, ◌||◌, eqb}
use Rattle.rules.specs.Lists.{mem}
use Rattle.rules.specs.Number.{key}
use Rattle.rules.specs.Order.{Define, Delete, Handover, Step, define, delete, handover}
use Rattle.rules.specs.Order.{define_groups, define_owners, delete_groups, handover_group, handover_owners}
use Rattle.rules.specs.History.{History, ◌then◌, world, stands, owner, mark}

-- the steps by which one can lose a group: it is deleted, or handed over without him
pub data TakesAway (g a : ℕ) : Step → Type 0 where
  deletes : (o : Delete) (room : ℕ) → o.delete ≡ true → mem g (delete_groups o) ≡ true → TakesAway g a (delete o room)
  hands_over : (o : Handover) → eqb g (handover_group o) ≡ true → mem a (handover_owners o) ≡ false → TakesAway g a (handover o)

-- "listed owners are added to those who stand, the asker among them": after an accepted define, whose asker owned each named group that stood
pub record Adds (h : History) (o : Define) (room : ℕ) : Type 0 where
  pub owned : (g : ℕ) → mem g (define_groups o) ≡ true → stands h g ≡ true → owner h g (key o.asker) ≡ true
  pub named : (g a : ℕ) → mem g (define_groups o) ≡ true → owner (h then define o room) g a ≡ (owner h g a || mem a (define_owners o))
  pub others : (g a : ℕ) → mem g (define_groups o) ≡ false → owner (h then define o room) g a ≡ owner h g a

-- "sets the owners to exactly the asker and those listed": an accepted handover, by an owner, which changes nothing else
pub record HandsOver (h : History) (o : Handover) : Type 0 where
  pub owned : owner h (handover_group o) (key o.asker) ≡ true
  pub exactly : (a : ℕ) → owner (h then handover o) (handover_group o) a ≡ mem a (handover_owners o)
  pub asker : owner (h then handover o) (handover_group o) (key o.asker) ≡ true
  pub others : (g a : ℕ) → eqb g (handover_group o) ≡ false → owner (h then handover o) g a ≡ owner h g a
  pub stood : stands (h then handover o) (handover_group o) ≡ true
  pub groups : (g : ℕ) → stands (h then handover o) g ≡ stands h g
  pub parameters : (g : ℕ) → (world (h then handover o)).parameters g ≡ (world h).parameters g
  pub pairs : (g r : ℕ) → mark (h then handover o) g r ≡ mark h g r
