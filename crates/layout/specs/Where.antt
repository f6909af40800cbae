-- Where a frame is bad (document 02, P2): each refusal of the reader, and the bit that comes with it, said of the frame's bits.
-- Assumes nothing.
use Rattle.std.specs.Prelude.{ℕ, suc, ◌+◌, ◌*◌, ◌≤◌, ◌<◌, ◌≡◌, Bool, true, false, List, [], ◌∷◌, ◌++◌, eqb, length, take, drop, get_or}
use Rattle.refusal.specs.declared.Refusal.{Refusal}
use Rattle.refusal.specs.declared.Refusal.TheVariants.{EndsInside, BitsRemain, WrongKind, Reserved, NoGroup, NothingFollows, TypeThree}
use Rattle.bits.specs.Bits.{value, bits_of}
use Rattle.layout.specs.declared.Kind.{Kind}
use Rattle.layout.specs.Row.{Row, is, all, nothing, there}
use Rattle.layout.specs.Shape.{row, refuse, No}
use Rattle.layout.specs.Kinds.{ss_type, action_type}
use Rattle.layout.specs.Read.{frame, read_rows}
use Rattle.layout.specs.Frame.{rows, head, head_bits, read}

-- the element at this place of the record begins at the bit `at`: behind the head stand the rows before it, read whole with the values `done`
pub record Begins (kind : Kind) (bits : List Bool) (at place : ℕ) (done : List ℕ) (rest : List Bool) : Type 0 where
  pub front : List Bool
  pub parts : bits ≡ head kind ++ (front ++ rest)
  pub before : read_rows (take place (rows kind)) [] head_bits front ≡ frame done
  pub bit : at ≡ head_bits + length front

-- the row of that element, as it is there
abbrev pub row_at : Kind → ℕ → List ℕ → Row
row_at kind place done = there done (get_or (rows kind) place nothing)

-- 1: an element begins there, and the bits end inside it
pub data Cut (kind : Kind) (bits : List Bool) (at : ℕ) : Type 0 where
  ss_type_cut : at ≡ 0 → length bits < 6 → Cut kind bits at
  action_type_cut : at ≡ 6 → 6 ≤ length bits → length bits < head_bits → Cut kind bits at
  row_cut : (place : ℕ) (done : List ℕ) (rest : List Bool) → Begins kind bits at place done rest → length rest < (row_at kind place done).width
      → Cut kind bits at

-- 2: the bits before it are a frame, and it is the first past that frame's end
pub record PastEnd (kind : Kind) (bits : List Bool) (at : ℕ) : Type 0 where
  pub values : List ℕ
  pub whole : read kind (take at bits) ≡ frame values
  pub more : at < length bits

-- 3: bit 0 if SS-Type is wrong, else bit 6
pub data OtherKind (kind : Kind) (bits : List Bool) (at : ℕ) : Type 0 where
  ss_type_wrong : at ≡ 0 → head_bits ≤ length bits → (value (take 6 bits) ≡ ss_type → ⊥) → OtherKind kind bits at
  action_type_wrong : at ≡ 6 → head_bits ≤ length bits → value (take 6 bits) ≡ ss_type → (value (take 4 (drop 6 bits)) ≡ action_type kind → ⊥)
      → OtherKind kind bits at

-- 4: an element begins there and is whole, and its code is reserved
pub record NoMeaning (kind : Kind) (bits : List Bool) (at : ℕ) : Type 0 where
  pub place : ℕ
  pub done : List ℕ
  pub rest : List Bool
  pub begins : Begins kind bits at place done rest
  pub whole : (row_at kind place done).width ≤ length rest
  pub code : (row_at kind place done).codes ≤ value (take (row_at kind place done).width rest)
  pub reserved : (row_at kind place done).refusal ≡ Reserved

-- 5: "group given" begins there, at the place `given`, and is no, code 1; "call related", at the place `related`, was no.
-- It is the element that the table's `neither related given` names.
pub record NotGiven (kind : Kind) (bits : List Bool) (at : ℕ) : Type 0 where
  pub related : ℕ
  pub given : ℕ
  pub neither : get_or (rows kind) (suc given) nothing ≡ refuse NoGroup 1 (is given No ∷ is related No ∷ [])
  pub done : List ℕ
  pub rest : List Bool
  pub begins : Begins kind bits at given done (true ∷ rest)
  pub unrelated : get_or done related 0 ≡ No

-- the M-bit behind the O-bit at the place o
abbrev pub m_bit : ℕ → Row
m_bit o = row 1 0 1 TypeThree 0 (is o 1 ∷ [])

-- the M-bit begins there and is this bit; the O-bit was 1
pub record AtMBit (kind : Kind) (bits : List Bool) (at : ℕ) (bit : Bool) : Type 0 where
  pub place : ℕ
  pub o : ℕ
  pub ending : get_or (rows kind) place nothing ≡ m_bit o
  pub done : List ℕ
  pub rest : List Bool
  pub begins : Begins kind bits at place done (bit ∷ rest)
  pub opened : get_or done o 0 ≡ 1

-- 6: the M-bit begins there and is 0, and no place since the O-bit holds anything
pub record Empty (kind : Kind) (bits : List Bool) (at : ℕ) : Type 0 where
  pub closes : AtMBit kind bits at false
  pub nothing_came : all (λ v. eqb v 0) (drop (suc closes.o) closes.done) ≡ true

-- a refusal and its bit, number by number; 7: the M-bit begins there and is 1
pub data Refuses (kind : Kind) (bits : List Bool) (n : Refusal) (at : ℕ) : Type 0 where
  one : n ≡ EndsInside → Cut kind bits at → Refuses kind bits n at
  two : n ≡ BitsRemain → PastEnd kind bits at → Refuses kind bits n at
  three : n ≡ WrongKind → OtherKind kind bits at → Refuses kind bits n at
  four : n ≡ Reserved → NoMeaning kind bits at → Refuses kind bits n at
  five : n ≡ NoGroup → NotGiven kind bits at → Refuses kind bits n at
  six : n ≡ NothingFollows → Empty kind bits at → Refuses kind bits n at
  seven : n ≡ TypeThree → AtMBit kind bits at true → Refuses kind bits n at

-- in lent bytes: a count above the lent bits is 1, at bit 0
pub data RefusedIn (kind : Kind) (bytes : List ℕ) (count : ℕ) (n : Refusal) (at : ℕ) : Type 0 where
  count_too_large : 8 * length bytes < count → n ≡ EndsInside → at ≡ 0 → RefusedIn kind bytes count n at
  in_the_bits : count ≤ 8 * length bytes → Refuses kind (take count (bits_of bytes)) n at → RefusedIn kind bytes count n at
