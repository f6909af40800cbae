-- The rows of an element, by its shape, its condition and its first place in the record (document 000, clause 6.6).
-- Assumes nothing.
use Rattle.std.specs.Prelude.{ℕ, zero, suc, ◌+◌, ◌*◌, ◌^◌, cond, List, [], ◌∷◌, ◌++◌, ltb}
use Rattle.refusal.specs.declared.Refusal.{Refusal}
use Rattle.refusal.specs.declared.Refusal.TheVariants.{Reserved, NoGroup, NothingFollows, TypeThree}
use Rattle.layout.specs.Row.{Condition, is, at_least, nothing_since, Row}
use Rattle.layout.specs.declared.When.{When}
use Rattle.layout.specs.declared.When.TheVariants.{Always, Is, All}
use Rattle.layout.specs.declared.Shape.{Shape}
use Rattle.layout.specs.declared.Items.{Items}
use Rattle.layout.specs.declared.Items.TheVariants.{Numbers, Letters}
use Rattle.layout.specs.declared.Shape.TheVariants.{Number, Choice, Identity, Ending, Missing, Nothing}
use Rattle.layout.specs.declared.Shape.TheVariants as shape
use Rattle.layout.specs.declared.Element.{Element}

abbrev pub row : ℕ → ℕ → ℕ → Refusal → ℕ → List Condition → Row
row width first codes refusal back hang = record { width = width; first = first; codes = codes; refusal = refusal; back = back; hang = hang }

-- a plain number of w bits
abbrev pub number : ℕ → List Condition → Row
number w = row w 0 (2 ^ w) Reserved 0

-- w bits of which the first n codes have a meaning; the record holds 1 to n, so that 0 is "not there"
abbrev pub choice : ℕ → ℕ → List Condition → Row
choice w n = row w 1 n Reserved 0

-- a refusal of the element that begins `back` bits before: a row of no bits, for which no value will do
abbrev pub refuse : Refusal → ℕ → List Condition → Row
refuse n back = row 0 0 0 n back

-- Yes and No in the record: code 0 is yes
abbrev pub Yes : ℕ
Yes = 1

abbrev pub No : ℕ
No = 2

-- type identifier: code 0 SNA, 1 SSI, 2 SSI and extension; 3 is reserved
abbrev pub identity : List Condition → ℕ → List Row
identity hang p = choice 2 3 hang ∷ number 8 (is p 1 ∷ []) ∷ number 24 (at_least p 2 ∷ []) ∷ number 24 (is p 3 ∷ []) ∷ []

-- ---- lists: a count of 4 bits, then the items
-- number type: code 0 is one number, 1 a range given by two, 2 to 10 that many. Letters: code 0 is one letter, 15 are sixteen
abbrev pub codes_of : Items → ℕ
codes_of Numbers = 11
codes_of Letters = 16

abbrev pub times : Items → ℕ
times Numbers = 10
times Letters = 16

-- what the count holds, at least, where item i (from 0) is there
abbrev pub least : Items → ℕ → ℕ
least Numbers i = cond (ltb i 2) (i + 1) (i + 2)
least Letters i = i + 1

abbrev pub item : Items → List Condition → ℕ → List Row
item Numbers hang p = identity hang p
item Letters hang p = number 8 hang ∷ []

-- the places that an item takes
abbrev pub stride : Items → ℕ
stride Numbers = 4
stride Letters = 1

-- n items from item i on, which begin at the place p, of the list whose count is at the place t
unfoldable pub repeated : Items → ℕ → ℕ → ℕ → ℕ → List Row
repeated items t p i zero = []
repeated items t p i (suc n) = item items (at_least t (least items i) ∷ []) p ++ repeated items t (p + stride items) (i + 1) n

unfoldable pub rows_of : Shape → List Condition → ℕ → List Row
rows_of (Number w) hang p = number w hang ∷ []
rows_of (Choice w n) hang p = choice w n hang ∷ []
rows_of Identity hang p = identity hang p
rows_of (shape.List items) hang p = choice 4 (codes_of items) hang ∷ repeated items p (p + 1) 0 (times items)
rows_of Ending hang p = row 1 0 1 TypeThree 0 hang ∷ []
rows_of (Missing place) hang p = refuse NoGroup 1 (is place No ∷ hang) ∷ []
rows_of (Nothing o) hang p = refuse NothingFollows 1 (nothing_since o ∷ hang) ∷ []

-- the places of a list: 41 of numbers, 17 of letters
abbrev pub list_places : Items → ℕ
list_places items = suc (stride items * times items)

-- how many rows a shape has
unfoldable pub span : Shape → ℕ
span (Number w) = 1
span (Choice w n) = 1
span Identity = 4
span (shape.List items) = list_places items
span Ending = 1
span (Missing place) = 1
span (Nothing o) = 1

-- a chain of conditions, outermost first: two places hold 1, and a last one holds a value
abbrev pub conditions_of : When → List Condition
conditions_of Always = []
conditions_of (Is place v) = is place v ∷ []
conditions_of (All a b place v) = is a 1 ∷ is b 1 ∷ is place v ∷ []

-- the rows of elements, of which the first begins at the place p
unfoldable pub unrolled : List Element → ℕ → List Row
unrolled [] p = []
unrolled (e ∷ es) p = rows_of e.1 (conditions_of e.0) p ++ unrolled es (p + span e.1)

unfoldable pub spans : List Element → ℕ
spans [] = 0
spans (e ∷ es) = span e.1 + spans es
