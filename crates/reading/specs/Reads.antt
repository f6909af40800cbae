-- Reading, part way: what the reader's parts promise of the rows that they go over.
-- Assumes nothing.
use Rattle.std.specs.Prelude.{ℕ, ◌+◌, ◌-◌, ◌≡◌, Bool, true, false, List, ◌++◌, length, take, drop, Result, Ok, Err, OnOk, ⊤}
use Rattle.refusal.specs.declared.Refusal.{Refusal}
use Rattle.bits.specs.Bits.{bits_of}
use Rattle.layout.specs.declared.Record.{Record}
use Rattle.layout.specs.declared.Refused.{Refused}
use Rattle.layout.specs.Row.{Row}
use Rattle.layout.specs.Read.{Answer, refused, read_rows}
use Rattle.reading.specs.declared.parts.Filling.{Filling}
use Rattle.reading.specs.declared.parts.Frame.{Frame}

-- a frame of `count` bits in lent bytes
abbrev pub whole : List ℕ → ℕ → List Bool
whole bytes count = take count (bits_of bytes)

abbrev pub bits_in : Frame → List Bool
bits_in f = whole f.bytes.now f.bits

-- the rows that are left are read from where a step has led
abbrev pub onward : List Row → List Bool → List ℕ → Result ℕ Refused → Answer
onward rest bits done (Ok at) = read_rows rest done at (drop at bits)
onward rest bits done (Err r) = refused r.refusal r.bit

-- from the bit `at` and the values vs a step goes over rows that begin at the place p, and leaves the values vs'
pub record Reads (rows : List Row) (bits : List Bool) (at p : ℕ) (vs vs' : List ℕ) (s : Result ℕ Refused) : Type 0 where
  pub same : (rest : List Row) → read_rows (rows ++ rest) (take p vs) at (drop at bits) ≡ onward rest bits (take (p + length rows) vs') s
  pub before : take p vs' ≡ take p vs
  pub stays : drop (p + length rows) vs' ≡ drop (p + length rows) vs
  pub size : length vs' ≡ length vs

-- a step goes over the rows that are next in the record x, and leaves the record y
pub record Fills (rows : List Row) (bits : List Bool) (at : ℕ) (x y : Filling) (s : Result ℕ Refused) : Type 0 where
  pub reads : Reads rows bits at x.place x.values y.values s
  pub moved : OnOk s (y.place ≡ x.place + length rows)

-- what a record that was filled comes to, by how its reading ended
abbrev pub recorded : List ℕ → Result ⊤ Refused → Result Record Refused
recorded values (Ok _) = Ok (record { place = values })
recorded values (Err r) = Err r

-- the refusal of the element that begins one bit before, if there is a reason
abbrev pub barred_at : Bool → Refusal → ℕ → Result ℕ Refused
barred_at true n at = Err (record { refusal = n; bit = at - 1 })
barred_at false n at = Ok at
