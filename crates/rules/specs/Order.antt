-- The orders of document 01, define, delete, answer and tick, and the handover of document 02 (P6). They hold numbers as handed over,
-- "asker and answering radio .. with theirs".
use Rattle.std.specs.Prelude.{ℕ, Bool, true, cond, not, ◌&&◌, ◌||◌, List, ◌∷◌, Result, ⊤}
use Rattle.std.proofs.Math.Option.{Option, some}
use Rattle.refusal.specs.declared.Refusal.{Refusal}
use Rattle.rules.specs.declared.AnswerKind.{AnswerKind}
use Rattle.rules.specs.Lists.{present, mem, once}
use Rattle.rules.specs.Number.{Number, Identity, Numbers, key, identity_key}
use Rattle.rules.specs.Named.{numbers, numbers_in}
use Rattle.rules.specs.Parameters.{Parameters}

-- judged: what the frame half says of the DEFINE record. call: call related.
-- A list is none where it is absent, or where its element says "no".
pub record Define : Type 0 where
  pub asker : Number
  pub judged : Result ⊤ Refusal
  pub call : Bool
  pub groups : Option Numbers
  pub owners : Option Numbers
  pub radios : Option Numbers
  pub acknowledgement : Bool
  pub parameters : Parameters

-- radios: none where none are listed. acknowledgement: whether it is asked for
pub record Delete : Type 0 where
  pub asker : Number
  pub groups : Numbers
  pub delete : Bool
  pub deassign : Bool
  pub radios : Option Numbers
  pub acknowledgement : Bool

-- kind: whether it is for an assignment or a deassignment
pub record Answer : Type 0 where
  pub radio : Number
  pub group : Number
  pub kind : AnswerKind
  pub result : ℕ

-- "(asker, one group, list)"
pub record Handover : Type 0 where
  pub asker : Number
  pub group : Identity
  pub owners : Numbers

-- an order that may change the ledger; the number is the room lent, in outgoing orders
pub data Step : Type 0 where
  define : Define → ℕ → Step
  delete : Delete → ℕ → Step
  answer : Answer → Step
  handover : Handover → Step
  tick : Step

-- ---- the keys that an order names ----

abbrev pub define_groups : Define → List ℕ
define_groups o = numbers_in o.asker.extension o.groups

-- those of "assign"
abbrev pub define_radios : Define → List ℕ
define_radios o = numbers_in o.asker.extension o.radios

-- "the asker and those listed"
abbrev pub asker_and : Number → Option Numbers → List ℕ
asker_and asker owners = once (key asker ∷ numbers_in asker.extension owners)

abbrev pub define_owners : Define → List ℕ
define_owners o = asker_and o.asker o.owners

abbrev pub handover_owners : Handover → List ℕ
handover_owners o = asker_and o.asker (some o.owners)

abbrev pub handover_group : Handover → ℕ
handover_group o = identity_key o.asker.extension o.group

abbrev pub delete_groups : Delete → List ℕ
delete_groups o = numbers o.asker.extension o.groups

abbrev pub delete_radios : Delete → List ℕ
delete_radios o = numbers_in o.asker.extension o.radios

-- "listed radios .. or all members if none are listed"
abbrev pub deassigns : Delete → ℕ → Bool
deassigns o r = o.deassign && cond (present o.radios) (mem r (delete_radios o)) true

-- whether this radio is to leave the named groups: as they go, or by deassignment
abbrev pub leaves : Delete → ℕ → Bool
leaves o r = o.delete || deassigns o r

-- "When a delete asks for acknowledgement and the group itself stays"
abbrev pub awaits : Delete → Bool
awaits o = not o.delete && o.acknowledgement
