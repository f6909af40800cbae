-- A frame is a table of rows, and a row is one run of bits. A record is a list of numbers, a place for each row in the rows' order, 0 where the row is not there.
-- Assumes nothing.
use Rattle.std.specs.Prelude.{ℕ, suc, ◌^◌, ◌≤◌, ◌≡◌, Bool, cond, List, [], leb, eqb, drop, get_or}
pub use Rattle.std.specs.List.{list_all as all}
use Rattle.refusal.specs.declared.Refusal.{Refusal}
use Rattle.refusal.specs.declared.Refusal.TheVariants.{Reserved}

-- a condition on the places before a row's own
pub data Condition : Type 0 where
  is : ℕ → ℕ → Condition  -- this place holds this value
  at_least : ℕ → ℕ → Condition  -- this place holds this value or more
  nothing_since : ℕ → Condition  -- every place after this one holds 0

abbrev pub holds : List ℕ → Condition → Bool
holds done (is place v) = eqb (get_or done place 0) v
holds done (at_least place v) = leb v (get_or done place 0)
holds done (nothing_since place) = all (λ v. eqb v 0) (drop (suc place) done)

pub record Row : Type 0 where
  pub width : ℕ  -- bits on the air
  pub first : ℕ  -- what the record holds for code 0
  pub codes : ℕ  -- how many codes have a meaning: 0 to codes - 1
  pub refusal : Refusal  -- the refusal of any other code
  pub back : ℕ  -- the refused element begins so many bits before the row
  pub hang : List Condition  -- the row is there when all of these hold

-- a row has no more codes than its bits can hold
abbrev pub fits : Row → Bool
fits r = leb r.codes (2 ^ r.width)

-- the places from p on hold 0
abbrev pub Clear : List ℕ → ℕ → Type 0
Clear vs p = (q : ℕ) → p ≤ q → get_or vs q 0 ≡ 0

unfoldable pub present : List ℕ → List Condition → Bool
present done hang = all (holds done) hang

-- a row that is not there has no bits, and its place holds 0
abbrev pub nothing : Row
nothing = record { width = 0; first = 0; codes = 1; refusal = Reserved; back = 0; hang = [] }

-- a row that is there hangs on nothing more
abbrev pub bare : Row → Row
bare r = record { width = r.width; first = r.first; codes = r.codes; refusal = r.refusal; back = r.back; hang = [] }

abbrev pub there : List ℕ → Row → Row
there done r = cond (present done r.hang) (bare r) nothing
