-- The words that a table is written in.
-- `call_related ← yes_no always` adds an element and names its place in the record, for the elements that hang on it.
-- Assumes nothing.
use Rattle.std.specs.Prelude.{ℕ, ◌+◌, ◌-◌, List, [], ◌∷◌, ◌++◌}
use Rattle.layout.specs.declared.When.{When}
use Rattle.layout.specs.declared.When.TheVariants.{Always, Is, All}
use Rattle.layout.specs.declared.Shape.{Shape}
use Rattle.layout.specs.declared.Shape.TheVariants.{Number, Choice, Identity, Ending, Missing, Nothing}
use Rattle.layout.specs.declared.Shape.TheVariants as shape
use Rattle.layout.specs.declared.Items.TheVariants.{Numbers, Letters}
use Rattle.layout.specs.declared.Element.{Element}
use Rattle.layout.specs.Shape.{No, spans}

-- elements that begin at a place of the record, and what is known by their places
pub record Part (A : Type 0) : Type 0 where
  pub elements : List Element
  pub known : A

abbrev pub Placed : Type 0 → Type 0
Placed A = ℕ → Part A

-- one part after the other: what `do` stands for
abbrev pub ◌>>=◌ : {A B : Type 0} → Placed A → (A → Placed B) → Placed B
◌>>=◌ first then place =
    let a = first place in
    let b = then a.known (place + spans a.elements) in
    record { elements = a.elements ++ b.elements; known = b.known }

abbrev pub ◌>>◌ : {A B : Type 0} → Placed A → Placed B → Placed B
◌>>◌ first second = ◌>>=◌ first (λ _. second)

-- no element: what is known so far, by name
abbrev pub names : {A : Type 0} → A → Placed A
names known place = record { elements = []; known = known }

abbrev pub table : {A : Type 0} → Placed A → Part A
table part = part 0

-- ---- conditions
infix 60 ◌is◌
abbrev pub always : When
always = Always

abbrev pub ◌is◌ : ℕ → ℕ → When
place is v = Is place v

-- the O-bit at o is 1, and this place holds v: a chain of two, which has its first place twice
abbrev pub after_is : ℕ → ℕ → ℕ → When
after_is o place v = All o o place v

-- an optional element's P-bit is at the place before it
abbrev pub p_bit : ℕ → ℕ
p_bit place = place - 1

-- the O-bit at o is 1, the P-bit of the optional element at the place is 1, and it holds v
abbrev pub option_is : ℕ → ℕ → ℕ → When
option_is o place v = All o (p_bit place) place v

-- ---- elements
abbrev pub element : Shape → When → Placed ℕ
element shape when place = record { elements = record { 0 = when; 1 = shape } ∷ []; known = place }

abbrev pub number : ℕ → When → Placed ℕ
number width = element (Number width)

-- so many bits, of which so many codes have a meaning
abbrev pub choice : ℕ → ℕ → When → Placed ℕ
choice width codes = element (Choice width codes)

abbrev pub yes_no : When → Placed ℕ
yes_no = choice 1 2

-- acknowledgement requested: 0; 1 is reserved
abbrev pub requested : When → Placed ℕ
requested = choice 1 1

abbrev pub identity : When → Placed ℕ
identity = element Identity

abbrev pub numbers : When → Placed ℕ
numbers = element (shape.List Numbers)

abbrev pub letters : When → Placed ℕ
letters = element (shape.List Letters)

-- an optional element, behind its P-bit, after the O-bit at the place o
abbrev pub optional : ℕ → (When → Placed ℕ) → Placed ℕ
optional o inner = do
  p ← number 1 (o is 1)
  inner (after_is o p 1)

-- refusal 5: neither of the two
abbrev pub neither : ℕ → ℕ → Placed ℕ
neither a b = element (Missing b) (a is No)

-- the M-bit: 1 is refusal 7; then 6 if nothing came since the O-bit
abbrev pub ending : ℕ → Placed ℕ
ending o = do
  element Ending (o is 1)
  element (Nothing o) (o is 1)
