-- A record of each kind whose frame is as long as any of its kind (document 02, P8).
-- Assumes nothing.
use Rattle.std.specs.Prelude.{ℕ, zero, suc, List, [], ◌∷◌, ◌++◌, set}
use Rattle.layout.specs.declared.Kind.{Kind}
use Rattle.layout.specs.declared.Kind.TheVariants.{Define, DefineAck, Cancel, CancelAck}
use Rattle.layout.specs.declared.Kind.TheVariants.{Assign, AssigningAck, Deassign, DeassigningAck, Delete, DeleteAck}
use Rattle.layout.specs.declared.Element.{Element}
use Rattle.layout.specs.declared.Items.{Items}
use Rattle.layout.specs.declared.Items.TheVariants.{Numbers, Letters}
use Rattle.layout.specs.declared.Shape.{Shape}
use Rattle.layout.specs.declared.Shape.TheVariants.{Number, Choice, Identity, Ending, Missing, Nothing}
use Rattle.layout.specs.declared.Shape.TheVariants as shape
use Rattle.layout.specs.Shape.{No, codes_of, times}
use Rattle.layout.specs.Table.{define_ack, cancel, cancel_ack, delete_ack}
use Rattle.layout.specs.Kinds.{table_of}
use Rattle.layout.specs.Frame.{filled}

-- an item with all its bits: SSI 1 with extension 1, the letter A
abbrev pub full_item : Items → List ℕ
full_item Numbers = 3 ∷ 0 ∷ 1 ∷ 1 ∷ []
full_item Letters = 0x41 ∷ []

abbrev pub copies : ℕ → List ℕ → List ℕ
copies zero l = []
copies (suc n) l = l ++ copies n l

-- a shape with all its bits: each bit is 1, each choice its first code, each list as many items as it can have
abbrev pub full_shape : Shape → List ℕ
full_shape (Number w) = 1 ∷ []
full_shape (Choice w n) = 1 ∷ []
full_shape Identity = full_item Numbers
full_shape (shape.List items) = codes_of items ∷ copies (times items) (full_item items)
full_shape Ending = 0 ∷ []
full_shape (Missing place) = 0 ∷ []
full_shape (Nothing o) = 0 ∷ []

unfoldable pub full : List Element → List ℕ
full [] = []
full (e ∷ es) = full_shape e.1 ++ full es

-- an identity is longer than the call identifier that it excludes; where there are no options the O-bit is 0
unfoldable pub full_of : Kind → List ℕ
full_of Define = full (table_of Define)
full_of DefineAck = set (full (table_of DefineAck)) define_ack.known.o_bit 0
full_of Cancel = set (full (table_of Cancel)) cancel.known.call_related No
full_of CancelAck = set (full (table_of CancelAck)) cancel_ack.known.call_related No
full_of Assign = full (table_of Assign)
full_of AssigningAck = full (table_of AssigningAck)
full_of Deassign = full (table_of Deassign)
full_of DeassigningAck = full (table_of DeassigningAck)
full_of Delete = full (table_of Delete)
full_of DeleteAck = set (full (table_of DeleteAck)) delete_ack.known.o_bit 0

-- with all the places of a record
unfoldable pub fullest : Kind → List ℕ
fullest kind = filled (full_of kind)
