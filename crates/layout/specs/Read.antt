-- Reading: the rows one after the other, the first fault in bit order refused, with the bit at which the refused element begins.
-- Assumes nothing.
use Rattle.std.specs.Prelude.{ℕ, ◌+◌, ◌-◌, Bool, cond, List, [], ◌∷◌, ◌++◌, ltb, length, take, drop}
use Rattle.refusal.specs.declared.Refusal.{Refusal}
use Rattle.refusal.specs.declared.Refusal.TheVariants.{EndsInside, BitsRemain}
use Rattle.bits.specs.Bits.{value}
use Rattle.layout.specs.Row.{Row, there}

pub data Answer : Type 0 where
  frame : List ℕ → Answer  -- the record
  refused : Refusal → ℕ → Answer  -- the refusal, and the bit at which the refused element begins

pub data Turn : Type 0 where
  took : ℕ → Turn  -- the value of a row
  stop : Refusal → ℕ → Turn  -- the refusal, and how many bits before the row the refused element begins

-- a row that is cut short is refused as such, even where its first bits are bad
abbrev pub turn : Row → List Bool → Turn
turn r bits =
    let code = value (take r.width bits) in
    cond (ltb (length bits) r.width) (stop EndsInside 0)
    (cond (ltb code r.codes) (took (r.first + code)) (stop r.refusal r.back))

abbrev pub next : Turn → ℕ → (ℕ → Answer) → Answer
next (took v) at go = go v
next (stop n back) at go = refused n (at - back)

-- the rows that are left, after the places that are done, in the bits that are left, which begin at the bit `at`
unfoldable pub read_rows : List Row → List ℕ → ℕ → List Bool → Answer
read_rows [] done at [] = frame done
read_rows [] done at (b ∷ bits) = refused BitsRemain at
read_rows (r ∷ rows) done at bits =
    let here = there done r in
    next (turn here bits) at (λ v. read_rows rows (done ++ (v ∷ [])) (at + here.width) (drop here.width bits))
