-- Writing, part way: what the writer's parts promise of the rows that they pass, in either walk.
-- The cleaned record stands in these promises alone: vs is what it holds so far. The code holds none.
-- Assumes nothing.
use Rattle.std.specs.Prelude.{◌≡◌, ℕ, ◌+◌, ◌*◌, ◌<◌, ◌≤◌, Bool, true, false, Option, Some, None, List, [], ◌∷◌, ◌++◌, length, take, drop, slice_index, slice_set}
use Rattle.bits.specs.Bits.{bits_of}
use Rattle.writing.specs.Pass.{Pass, Judge, Lay}
use Rattle.layout.specs.Row.{Row, all}
use Rattle.layout.specs.Frame.{places, head_bits}
use Rattle.layout.specs.Write.{Laid, held, lay, good, good_but_group, vals, emit}
use Rattle.table.specs.declared.Field.{Field}
use Rattle.table.specs.Fields.{row_for}
use Rattle.table.specs.Sound.{Clear}

-- no more bits than this: the head, and 32 for each place
abbrev pub most_bits : ℕ
most_bits = head_bits + 32 * places

-- ---- what the two walks do
-- what a walk holds: the lent bytes, and the name of their borrow; the walk that judges holds none
pub record Lent : Type 0 where
  pub bytes : List ℕ
  pub borrow : ℕ

-- as many bytes, under the same borrow
pub record Stays (out out' : Lent) : Type 0 where
  pub size : length out'.bytes ≡ length out.bytes
  pub same : out'.borrow ≡ out.borrow

-- bytes out' are out with new bits from the bit `at` on, where there is room for them
pub record Over (out out' : List ℕ) (at : ℕ) (new : List Bool) : Type 0 where
  pub size : length out' ≡ length out
  pub bits : at + length new ≤ 8 * length out → bits_of out' ≡ take at (bits_of out) ++ (new ++ drop (at + length new) (bits_of out))

-- the walk that lays puts the rows' bits over those of the bytes, where every value has a code
abbrev pub Does : Pass → List Laid → ℕ → Lent → Lent → Type 0
Does Judge laid at out out' = Unit {0}
Does Lay laid at out out' = all good laid ≡ true → Over out.bytes out'.bytes at (emit laid)

-- what holds of the walk that judges alone
abbrev pub Finds : Pass → Type 0 → Type 0
Finds Judge what = what
Finds Lay what = Unit {0}

-- ---- rows that are passed
-- rows laid out, which begin at the place p and the bit `at`: the bit after them, the cleaned record with their values, the bytes
pub record Lies (pass : Pass) (laid : List Laid) (n at at' p : ℕ) (vs vs' : List ℕ) (out out' : Lent) : Type 0 where
  pub on : at' ≡ at + length (emit laid)
  pub front : take (p + n) vs' ≡ take p vs ++ vals laid
  pub before : take p vs' ≡ take p vs
  pub stays : drop (p + n) vs' ≡ drop (p + n) vs
  pub does : Does pass laid at out out'

-- how the passing of rows ends
abbrev pub Ends : Pass → List Laid → ℕ → ℕ → ℕ → List ℕ → List ℕ → Lent → Lent → Option ℕ → Type 0
Ends pass laid n at p vs vs' out out' (Some at') = Lies pass laid n at at' p vs vs' out out' × Finds pass (all good laid ≡ true)
Ends pass laid n at p vs vs' out out' None = all good_but_group laid ≡ false

-- rows that begin at the place p, passed with the values s from there on, after the cleaned record vs
pub record Lays (pass : Pass) (rows : List Row) (s : List ℕ) (at p : ℕ) (vs vs' : List ℕ) (out out' : Lent) (r : Option ℕ) : Type 0 where
  pub size : length vs' ≡ length vs
  pub ends : Ends pass (lay rows (take p vs) (drop p s)) (length rows) at p vs vs' out out' r

-- ---- what the parts promise
-- where a walk goes on, if it does
abbrev pub reached : {A : Type 0} → Option A → ℕ → Option ℕ
reached (Some x) at = Some at
reached None at = None

-- the next bit, where there is one, is not behind this
abbrev pub Within : Option ℕ → ℕ → Type 0
Within (Some at) most = at ≤ most
Within None most = Unit {0}

-- where the parts start from, with n places left to go over
pub record Ready (at p n : ℕ) : Type 0 where
  pub room : p + n ≤ places
  pub low : at ≤ 32 * p + head_bits

-- a field's value, wherever it stands
pub record Passes (pass : Pass) (f : Field) (v at : ℕ) (out out' : Lent) (r : Option ℕ) : Type 0 where
  pub lent : Stays out out'
  pub within : Within r (at + 32)
  pub lays : (s vs : List ℕ) (p : ℕ) → p < length vs → v ≡ held (row_for f []) (slice_index s p)
      → Lays pass (row_for f [] ∷ []) s at p vs (slice_set vs p v) out out' r

-- rows, after whatever cleaned record, if it is as the part has it: any; one that holds at a place what the caller's record holds there
abbrev pub Any : List ℕ → Type 0
Any vs = Unit {0}

abbrev pub Known : List ℕ → ℕ → List ℕ → Type 0
Known s q vs = slice_index vs q ≡ slice_index s q

pub record Writes (pass : Pass) (known : List ℕ → Type 0) (rows : List Row) (s : List ℕ) (at p : ℕ) (out out' : Lent) (r : Option ℕ) : Type 0 where
  pub lent : Stays out out'
  pub within : Within r (at + 32 * length rows)
  pub lays : (vs : List ℕ) → length vs ≡ places → Clear vs p → known vs → (vs' : List ℕ) × Lays pass rows s at p vs vs' out out' r
