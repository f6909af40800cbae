-- What a delete and an answer are called with, besides what is lent; and the steps that they are.
use Rattle.std.specs.Prelude.{Bool, ℕ, Option}
use Rattle.rules.specs.Order.{Delete, Step, delete}
use Rattle.rules.specs.declared.AnswerKind.{AnswerKind}
use Rattle.order.specs.Steps.{answer_step, delete_of}
use Rattle.order.specs.declared.Gtsi.{Gtsi}
use Rattle.order.specs.declared.Itsi.{Itsi}
use Rattle.order.specs.declared.Numbers.{Numbers}

pub record Deletion : Type 0 where
  pub asker : Itsi
  pub named : Numbers
  pub remove : Bool
  pub deassign : Bool
  pub radios : Option Numbers
  pub acknowledgement : Bool

pub record Answering : Type 0 where
  pub radio : Itsi
  pub group : Gtsi
  pub kind : AnswerKind
  pub result : ℕ

abbrev pub deletion_order : Deletion → Delete
deletion_order d = delete_of d.asker d.named d.remove d.deassign d.radios d.acknowledgement

-- the number is the room for what goes out
abbrev pub deletion_step : Deletion → ℕ → Step
deletion_step d room = delete (deletion_order d) room

abbrev pub answering_step : Answering → Step
answering_step a = answer_step a.radio a.group a.kind a.result
