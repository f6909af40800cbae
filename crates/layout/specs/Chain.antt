-- A chain of conditions: each looks at a place that carries a value, and that is there wherever the conditions before it hold.
-- And what a table's elements look at: places before their own, along chains.
-- Assumes nothing.
use Rattle.std.specs.Prelude.{ℕ, suc, ◌+◌, Bool, true, false, not, ◌&&◌, ◌||◌, List, [], ◌∷◌, ◌++◌, eqb, ltb, length, get_or}
use Rattle.layout.specs.declared.Shape.{Shape}
use Rattle.layout.specs.declared.Shape.TheVariants.{Number, Choice, Identity, Ending, Missing, Nothing}
use Rattle.layout.specs.declared.Shape.TheVariants as shape
use Rattle.layout.specs.declared.Element.{Element}
use Rattle.layout.specs.Row.{Condition, is, at_least, nothing_since, Row, all, nothing}
use Rattle.layout.specs.Shape.{No, span, conditions_of}
use Rattle.layout.specs.Write.{idle}

-- the same test of the same place
abbrev pub same : Condition → Condition → Bool
same (is p v) (is q w) = eqb p q && eqb v w
same (is p v) (at_least q w) = false
same (is p v) (nothing_since q) = false
same (at_least p v) c = false
same (nothing_since p) c = false

abbrev pub among : List Condition → Condition → Bool
among [] c = false
among (d ∷ ds) c = same c d || among ds c

-- a condition on a place before this one
abbrev pub earlier : ℕ → Condition → Bool
earlier place (is q v) = ltb q place
earlier place (at_least q v) = false
earlier place (nothing_since q) = false

-- each condition of a row is an earlier one of these
abbrev pub under : List Condition → ℕ → Row → Bool
under before place r = all (λ c. among before c && earlier place c) r.hang

abbrev pub chained : List Row → List Condition → List Condition → Bool
chained rows before [] = true
chained rows before (is q v ∷ more) =
    let r = get_or rows q nothing in
    ltb q (length rows) && not (idle r) && under before q r && chained rows (before ++ (is q v ∷ [])) more
chained rows before (at_least q v ∷ more) = false
chained rows before (nothing_since q ∷ more) = false

-- ---- the elements of a table
-- what a shape looks at: the place that names a missing group
abbrev pub own : Shape → List Condition
own (Number w) = []
own (Choice w n) = []
own Identity = []
own (shape.List items) = []
own Ending = []
own (Missing q) = is q No ∷ []
own (Nothing o) = []

-- what an element looks at: its conditions, and what its shape does
abbrev pub looks : Element → List Condition
looks e = conditions_of e.0 ++ own e.1

-- each element of these, of which the first begins at the place p, looks along a chain, at places before its own
unfoldable pub chained_from : List Row → List Element → ℕ → Bool
chained_from rows [] p = true
chained_from rows (e ∷ es) p = chained rows [] (looks e) && all (earlier p) (looks e) && chained_from rows es (p + span e.1)

-- an element of these, of which the first begins at the place p, begins at the place b, or the last ends there
unfoldable pub begins : List Element → ℕ → ℕ → Bool
begins [] p b = eqb p b
begins (e ∷ es) p b = eqb p b || begins es (p + span e.1) b

-- where a shape asks whether anything came since an O-bit, an element of the whole begins behind that O-bit
abbrev pub bound : List Element → Shape → Bool
bound whole (Number w) = true
bound whole (Choice w n) = true
bound whole Identity = true
bound whole (shape.List items) = true
bound whole Ending = true
bound whole (Missing q) = true
bound whole (Nothing o) = begins whole 0 (suc o)

-- so does each shape of these elements
unfoldable pub bounded : List Element → List Element → Bool
bounded whole [] = true
bounded whole (e ∷ es) = bound whole e.1 && bounded whole es
