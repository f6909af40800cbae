-- What an answer says in document 01's terms: its number, 0 where it is accepted, and its values. A refusal returns the number alone, the reader's
-- its bit too (document 02, P2).
use Rattle.std.specs.Prelude.{ℕ, List, []}
use Rattle.refusal.specs.declared.Refusal.{Refusal}
use Rattle.refusal.specs.Number.{number_of}

pub record Says : Type 0 where
  pub number : ℕ
  pub values : List ℕ

abbrev pub accepted : List ℕ → Says
accepted values = record { number = 0; values = values }

abbrev pub refused_with : Refusal → Says
refused_with refusal = record { number = number_of refusal; values = [] }
