-- Document 02, P7: "A deassigned radio drops out of the list at once, yet it may have been off". How radios leave a group, after any history.
use Rattle.std.specs.Prelude.{ℕ, ◌<◌, ◌≤◌, ◌≡◌, Bool, true, false, ◌&&◌}
use Rattle.std.proofs.Math.Option.{none, some}
use Rattle.rules.specs.Lists.{mem, present}
use Rattle.rules.specs.Number.{key}
use Rattle.rules.specs.Mark.{leaving, fresh, open?}
use Rattle.rules.specs.Order.{Delete, Answer, Step, delete, answer, delete_groups, deassigns}
use Rattle.rules.specs.History.{History, ◌then◌, mark, refusal_in}
use Rattle.rules.specs.declared.AnswerKind.{AnswerKind}
use Rattle.rules.specs.declared.AnswerKind.TheVariants.{Assignment, Deassignment}

-- a delete that asks for acknowledgement and whose groups stay
pub record Acknowledged (o : Delete) : Type 0 where
  pub groups_stay : o.delete ≡ false
  pub asked : o.acknowledgement ≡ true

-- whether it deassigns this pair
abbrev pub names : Delete → ℕ → ℕ → Bool
names o g r = mem g (delete_groups o) && deassigns o r

-- "an acknowledged deassign alone takes no pair away", and it changes none that it does not name; each that it names, whatever its state
-- was, is leaving from 0 ticks on, where it is accepted
pub record LeavesAll (h : History) (o : Delete) (room : ℕ) : Type 0 where
  pub stays : (g r : ℕ) → present (mark (h then delete o room) g r) ≡ present (mark h g r)
  pub others : (g r : ℕ) → names o g r ≡ false → mark (h then delete o room) g r ≡ mark h g r
  pub named : refusal_in h (delete o room) ≡ none → (g r : ℕ) → names o g r ≡ true → present (mark h g r) ≡ true
      → mark (h then delete o room) g r ≡ some (fresh leaving)

-- an answer of this kind for the pair, which is open for it
pub record OpenAnswer (h : History) (g r : ℕ) (what : AnswerKind) (a : Answer) : Type 0 where
  pub group : key a.group ≡ g
  pub radio : key a.radio ≡ r
  pub kind : a.kind ≡ what
  pub is_open : open? what (mark h g r) ≡ true

-- the steps by which a pair can leave a group that stands: a deassign without acknowledgement, result 1 for its deassignment, or one of
-- results 2 to 4 for its assignment
pub data LetsGo (h : History) (g r : ℕ) : Step → Type 0 where
  unacknowledged : (o : Delete) (room : ℕ) → o.delete ≡ false → o.acknowledgement ≡ false → names o g r ≡ true → LetsGo h g r (delete o room)
  let_go : (a : Answer) → OpenAnswer h g r Deassignment a → a.result ≡ 1 → LetsGo h g r (answer a)
  declined : (a : Answer) → OpenAnswer h g r Assignment a → 1 < a.result → a.result ≤ 4 → LetsGo h g r (answer a)
