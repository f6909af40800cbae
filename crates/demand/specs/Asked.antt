-- Orders as callers may ask for them, any number of them, one after another.
use Rattle.std.specs.Prelude.{List, [], ◌∷◌, ℕ}
use Rattle.layout.specs.declared.Record.{Record}
use Rattle.rules.specs.Order as order
use Rattle.rules.specs.History.{History, start, ◌then◌}
use Rattle.order.specs.Steps.{handover_step, define_step}
use Rattle.store.specs.Storage.{Contents}
use Rattle.order.specs.declared.Itsi.{Itsi}
use Rattle.order.specs.declared.Identity.{Identity}
use Rattle.order.specs.declared.Numbers.{Numbers}
use Rattle.demand.specs.Arguments.{Deletion, Answering, deletion_step, answering_step}
use Rattle.demand.specs.Runs.{Kept}

-- the last number of a define and of a delete is the rows of room lent for what goes out
pub data Asked : Type 0 where
  define : Itsi → Record → ℕ → Asked
  delete : Deletion → ℕ → Asked
  answer : Answering → Asked
  handover : Itsi → Identity → Numbers → Asked
  tick : Asked

abbrev pub step_of : Asked → order.Step
step_of (define asker values room) = define_step asker values.place room
step_of (delete d room) = deletion_step d room
step_of (answer a) = answering_step a
step_of (handover asker group owners) = handover_step asker group owners
step_of tick = order.tick

-- the last asked stands first
abbrev pub history_of : List Asked → History
history_of [] = start
history_of (a ∷ asked) = history_of asked then step_of a

-- a run of calls has this history
pub record Reached (h : History) : Type 0 where
  pub left : Contents
  pub kept : Kept left h
