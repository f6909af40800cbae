-- The length of a frame in bits, as a formula of its counts and forms (document 02, P8).
-- Of a record s; the place of a form or of a count holds one more than its code.
-- Assumes nothing.
use Rattle.std.specs.Prelude.{ℕ, zero, suc, ◌+◌, ◌-◌, cond, List, [], ◌∷◌, ltb, eqb, get_or, Result, Ok, Err, ⊤}
use Rattle.refusal.specs.declared.Refusal.{Refusal}
use Rattle.layout.specs.declared.Kind.{Kind}
use Rattle.layout.specs.declared.Element.{Element}
use Rattle.layout.specs.declared.Items.{Items}
use Rattle.layout.specs.declared.Items.TheVariants.{Numbers, Letters}
use Rattle.layout.specs.declared.Shape.{Shape}
use Rattle.layout.specs.declared.Shape.TheVariants.{Number, Choice, Identity, Ending, Missing, Nothing}
use Rattle.layout.specs.declared.Shape.TheVariants as shape
use Rattle.layout.specs.Row.{present}
use Rattle.layout.specs.Shape.{stride, span, conditions_of}
use Rattle.layout.specs.Kinds.{table_of}
use Rattle.layout.specs.Frame.{head_bits, judged_of}

-- an identity, by its form: 1 is SNA, 2 SSI, 3 SSI and extension; there is no other
abbrev pub identity_length : ℕ → ℕ
identity_length form =
    cond (eqb form 1) 10
    (cond (eqb form 2) 26
    (cond (eqb form 3) 50 0))

-- ---- lists, of numbers or of a name's letters: 4 bits, and the items
-- how many items: number type 0 is one number, 1 a range given by two, 2 to 10 that many; its place holds one more. A name has the letters that its place says
abbrev pub many_items : Items → ℕ → ℕ
many_items Numbers held = cond (ltb held 3) held (held - 1)
many_items Letters held = held

-- an item, by what its first place holds
abbrev pub item_length : Items → ℕ → ℕ
item_length Numbers form = identity_length form
item_length Letters letter = 8

-- n items, of which the first is at the place p
unfoldable pub items_length : Items → List ℕ → ℕ → ℕ → ℕ
items_length items s p zero = 0
items_length items s p (suc n) = item_length items (get_or s p 0) + items_length items s (p + stride items) n

abbrev pub list_length : Items → List ℕ → ℕ → ℕ
list_length items s p = 4 + items_length items s (p + 1) (many_items items (get_or s p 0))

-- ---- elements
-- a shape that is there, at the place p
unfoldable pub shape_length : Shape → List ℕ → ℕ → ℕ
shape_length (Number w) s p = w
shape_length (Choice w n) s p = w
shape_length Identity s p = identity_length (get_or s p 0)
shape_length (shape.List items) s p = list_length items s p
shape_length Ending s p = 1
shape_length (Missing place) s p = 0
shape_length (Nothing o) s p = 0

-- an element that may be absent
abbrev pub element_length : Element → List ℕ → ℕ → ℕ
element_length e s p = cond (present s (conditions_of e.0)) (shape_length e.1 s p) 0

-- elements, of which the first begins at the place p
unfoldable pub elements_length : List Element → List ℕ → ℕ → ℕ
elements_length [] s p = 0
elements_length (e ∷ es) s p = element_length e s p + elements_length es s (p + span e.1)

-- a frame: the head, and the elements of its table
unfoldable pub frame_length : Kind → List ℕ → ℕ
frame_length kind s = head_bits + elements_length (table_of kind) s 0

-- ---- what is told of a record: its frame's length, or why it has no frame
abbrev pub measured_if : Result ⊤ Refusal → ℕ → Result ℕ Refusal
measured_if (Ok _) bits = Ok bits
measured_if (Err n) bits = Err n

unfoldable pub measured_of : Kind → List ℕ → Result ℕ Refusal
measured_of kind s = measured_if (judged_of kind s) (frame_length kind s)
