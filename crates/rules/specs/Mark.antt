-- A pair's mark: its state, and the ticks that it has waited; and what ticks and answers make of it.
use Rattle.std.specs.Prelude.{ℕ, ◌+◌, Bool, false, cond, ◌||◌, List, [], ◌∷◌, eqb, leb}
use Rattle.std.proofs.Math.Option.{Option, none, some}
use Rattle.rules.specs.Lists.{mem}
use Rattle.rules.specs.declared.AnswerKind.{AnswerKind}
use Rattle.rules.specs.declared.AnswerKind.TheVariants.{Assignment, Deassignment}

pub record Mark : Type 0 where
  pub state : ℕ
  pub ticks : ℕ

-- the states
abbrev pub none_wanted : ℕ
none_wanted = 0

abbrev pub waiting : ℕ
waiting = 1

abbrev pub confirmed : ℕ
confirmed = 2

abbrev pub unheard : ℕ
unheard = 3

abbrev pub leaving : ℕ
leaving = 4

abbrev pub would_not_leave : ℕ
would_not_leave = 5

abbrev pub leaving_unheard : ℕ
leaving_unheard = 6

-- a mark that has not waited
abbrev pub fresh : ℕ → Mark
fresh s = record { state = s; ticks = 0 }

-- "state 1 (waiting, 0 ticks) if acknowledgement is requested, else 0 (none wanted)"
abbrev pub begun : Bool → Mark
begun acknowledgement = fresh (cond acknowledgement waiting none_wanted)

-- timer T1, a house number
abbrev pub T1 : ℕ
T1 = 30

-- the states under T1
abbrev pub timed : ℕ → Bool
timed state = eqb state waiting || eqb state leaving

-- "at its 30th tick it becomes 3 (unheard)", "the 30th tick makes a state 4 pair state 6 (leaving, unheard)"
abbrev pub expired : ℕ → ℕ
expired state = cond (eqb state leaving) leaving_unheard unheard

-- "Every state 1 pair counts one", and so does every state 4 pair
abbrev pub ticked : Mark → Mark
ticked m = cond (timed m.state)
    (cond (leb T1 (m.ticks + 1)) (fresh (expired m.state)) (record { state = m.state; ticks = m.ticks + 1 }))
    m

-- for an assignment "open means state 1 or 3", for a deassignment "open for this answer are 4 and 6"
abbrev pub open_states : AnswerKind → List ℕ
open_states Assignment = waiting ∷ unheard ∷ []
open_states Deassignment = leaving ∷ leaving_unheard ∷ []

abbrev pub open? : AnswerKind → Option Mark → Bool
open? kind none = false
open? kind (some m) = mem m.state (open_states kind)

-- "Result 1 gives state 2 (confirmed); 2, 3, 4 take the pair away"; for a deassignment "result 1 removes the pair, 2 to 4 put it in
-- state 5 (would not leave)"
abbrev pub answered : AnswerKind → ℕ → Option Mark
answered Assignment result = cond (eqb result 1) (some (fresh confirmed)) none
answered Deassignment result = cond (eqb result 1) none (some (fresh would_not_leave))

-- the state that a list shows; a member always has a mark
abbrev pub state_of : Option Mark → ℕ
state_of none = 0
state_of (some m) = m.state
