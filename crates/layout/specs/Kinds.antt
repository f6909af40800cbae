-- The kinds of frame: the number of each, its table, and its head.
-- Assumes nothing.
use Rattle.std.specs.Prelude.{ℕ, cond, eqb, List, [], ◌∷◌, Result, Ok, Err}
use Rattle.layout.specs.declared.Kind.{Kind}
use Rattle.layout.specs.declared.Kind.TheVariants.{Define, DefineAck, Cancel, CancelAck}
use Rattle.layout.specs.declared.Kind.TheVariants.{Assign, AssigningAck, Deassign, DeassigningAck, Delete, DeleteAck}
use Rattle.layout.specs.declared.UnknownKind.{UnknownKind}
use Rattle.layout.specs.declared.Element.{Element}
use Rattle.layout.specs.declared.KindPlaces.{KindPlaces}
use Rattle.layout.specs.Table.{define, define_ack, cancel, cancel_ack, assign, assigning_ack, deassign, deassigning_ack, delete, delete_ack}

-- every kind, once
abbrev pub kinds : List Kind
kinds = Define ∷ DefineAck ∷ Cancel ∷ CancelAck ∷ Assign ∷ AssigningAck ∷ Deassign ∷ DeassigningAck ∷ Delete ∷ DeleteAck ∷ []

-- ---- the number of each in house text: its two digits in a line
abbrev pub kind_number : Kind → ℕ
kind_number Define = 0x01
kind_number DefineAck = 0x02
kind_number Cancel = 0x03
kind_number CancelAck = 0x04
kind_number Assign = 0x05
kind_number AssigningAck = 0x06
kind_number Deassign = 0x07
kind_number DeassigningAck = 0x08
kind_number Delete = 0x0C
kind_number DeleteAck = 0x0D

-- the kind of that number among these
abbrev pub kind_among : List Kind → ℕ → Result Kind UnknownKind
kind_among [] number = Err (record { 0 = number })
kind_among (kind ∷ more) number = cond (eqb number (kind_number kind)) (Ok kind) (kind_among more number)

-- and among all
abbrev pub kind_named : ℕ → Result Kind UnknownKind
kind_named = kind_among kinds

-- ---- the elements of each
unfoldable pub table_of : Kind → List Element
table_of Define = define.elements
table_of DefineAck = define_ack.elements
table_of Cancel = cancel.elements
table_of CancelAck = cancel_ack.elements
table_of Assign = assign.elements
table_of AssigningAck = assigning_ack.elements
table_of Deassign = deassign.elements
table_of DeassigningAck = deassigning_ack.elements
table_of Delete = delete.elements
table_of DeleteAck = delete_ack.elements

-- the places of each, under their names
unfoldable pub kind_places : KindPlaces
kind_places = record {
  define = define.known;
  define_ack = define_ack.known;
  cancel = cancel.known;
  cancel_ack = cancel_ack.known;
  assign = assign.known;
  assigning_ack = assigning_ack.known;
  deassign = deassign.known;
  deassigning_ack = deassigning_ack.known;
  delete = delete.known;
  delete_ack = delete_ack.known;
}

-- ---- the head: SS-Type, and the action type of clause 6.6
abbrev pub ss_type : ℕ
ss_type = 0b010100

abbrev pub action_type : Kind → ℕ
action_type Define = 0b0011
action_type DefineAck = 0b0011
action_type Cancel = 0b0110
action_type CancelAck = 0b0110
action_type Assign = 0b0001
action_type AssigningAck = 0b0001
action_type Deassign = 0b0010
action_type DeassigningAck = 0b0010
action_type Delete = 0b1010
action_type DeleteAck = 0b1010
