-- The replies to a list and to a show, by what stands; the asker and the group are numbers as handed over.
use Rattle.std.specs.Prelude.{ℕ, cond, List, [], map}
use Rattle.std.proofs.Math.Option.{Option}
use Rattle.refusal.specs.declared.Refusal.{Refusal}
use Rattle.rules.specs.Number.{Number, key}
use Rattle.rules.specs.Parameters.{Parameters, no_parameters}
use Rattle.rules.specs.Mark.{state_of}
use Rattle.rules.specs.World.{World}
use Rattle.rules.specs.Refusals.{accepted, show_refusal, list_refusal}

-- a radio in a list, and its state
abbrev pub Entry : Type 0
Entry = ℕ × ℕ

abbrev pub entries : World → List ℕ → ℕ → List Entry
entries w radios g = map (λ (r : ℕ). (r, state_of (w.mark g r))) radios

-- the reply to a list: no entries on a refusal
pub record Listing : Type 0 where
  pub refused : Option Refusal
  pub entries : List Entry

-- radios: those of the group, rising
abbrev pub listing : World → Number → Number → List ℕ → ℕ → Listing
listing w asker g radios room = record {
  refused = list_refusal w asker g radios room;
  entries = cond (accepted (list_refusal w asker g radios room)) (entries w radios (key g)) [];
}

-- the reply to a show: no owners and no parameters on a refusal
pub record Showing : Type 0 where
  pub refused : Option Refusal
  pub owners : List ℕ
  pub parameters : Parameters

-- owners: those of the group, rising
abbrev pub showing : World → Number → Number → List ℕ → Showing
showing w asker g owners = record {
  refused = show_refusal w asker g;
  owners = cond (accepted (show_refusal w asker g)) owners [];
  parameters = cond (accepted (show_refusal w asker g)) (w.parameters (key g)) no_parameters;
}
