-- How long frames are, and how much buffer is enough (document 02, P8), over the contracts of `read`, `length` and `write` themselves.
-- `Post` is a contract's claim as the checker reads it: of the arguments, the result, and what the parameters hold at exit.
-- Assumes nothing.
use Prim.Native.Nat.{ℕ, ◌+◌, ◌≤◌, ◌<◌}
use mathlib.Core.Path.{◌≡◌, ap, sym, ◌∙◌}
use mathlib.Core.List.{List}
use native.Mathlib.Omega.{arith}
use borrow.Fn.Kinds.{ended_of}
use contract.Lifetimes.{Lfts}
use denote.MutBor.{MutBor}
use denote.Ref.{Bor}
use denote.Triple.Clauses.{AtExit}
use lib.ListN.{length}
use Rattle.std.specs.Prelude.{Result, Ok, Err}
use Rattle.bits.specs.Bits.{bytes_for}
use Rattle.refusal.specs.declared.Refusal.{Refusal}
use Rattle.refusal.specs.declared.Refusal.TheVariants.{NoSpace}
use Rattle.layout.specs.declared.Kind.{Kind}
use Rattle.layout.specs.declared.Record.{Record}
use Rattle.layout.specs.declared.Refused.{Refused}
use Rattle.layout.specs.Frame.{written_of}
use Rattle.layout.specs.Length.{frame_length, measured_of}
use Rattle.layout.specs.Figures.{largest_length, most_bytes}
use Rattle.layout.specs.Fullest.{fullest}
use Rattle.layout.proofs.Frames.{judged-valid, MadeAgain, read-then-write}
use Rattle.layout.proofs.Lengths.{length-written}
use Rattle.layout.proofs.Largest.{length-largest, largest-bytes}
use Rattle.layout.proofs.Reached.{reached}
use Rattle.layout.proofs.Room.{told-bits, told-most, told-refused, never-space, room-of-own, room-of-largest, room-too-little}
use Rattle.frame.proofs.read.Kinds as read-kinds
use Rattle.frame.proofs.read.Reads as read
use Rattle.frame.proofs.length.Kinds as length-kinds
use Rattle.frame.proofs.length.Reads as asked
use Rattle.frame.proofs.write.Kinds as write-kinds
use Rattle.frame.proofs.write.Reads as write

-- ---- what `read` takes
module _ (λs : Lfts 1) (kind : Kind) (frame : Bor (List ℕ)) (count : ℕ) (reading : Result Record Refused) (after : AtExit (ended_of 1 read-kinds.ps read-kinds.r) λs)
    (r : read.Post λs (kind, (frame, (count, tt))) reading after) (taken : Record) (found : reading ≡ Ok taken) where
  again : MadeAgain kind frame.now count taken.place
  again = read-then-write kind frame.now count taken (sym r ∙ found)

  -- it is as long as its record's formula says
  pub taken-length : count ≡ frame_length kind taken.place
  taken-length = sym again.long ∙ length-written kind taken.place (judged-valid kind taken.place again.writable)

  -- and no longer than the largest of its kind
  pub taken-at-most : count ≤ largest_length kind
  taken-at-most = rw (← again.long) (length-largest kind taken.place (judged-valid kind taken.place again.writable))

-- ---- what `length` tells
module _ (λs : Lfts 1) (kind : Kind) (values : Bor (List ℕ)) (told : Result ℕ Refusal) (after : AtExit (ended_of 1 length-kinds.ps length-kinds.r) λs)
    (l : asked.Post λs (kind, (values, tt)) told after) where
  -- no more than the largest of its kind
  pub told-at-most : (n : ℕ) → told ≡ Ok n → n ≤ largest_length kind
  told-at-most n e = told-most kind values.now n (sym l ∙ e)

  -- and that, of a longest record
  pub told-largest : values.now ≡ fullest kind → told ≡ Ok (largest_length kind)
  told-largest full =
      let longest = reached kind in
      l ∙ ap (measured_of kind) full ∙ told-bits kind (fullest kind) longest.fine ∙ ap Ok longest.long

  -- ---- `write`, which is lent so many bytes from the start byte on
  module _ (κs : Lfts 2) (out : MutBor (List ℕ)) (start : ℕ) (written : Result ℕ Refusal) (left : AtExit (ended_of 2 write-kinds.ps write-kinds.r) κs)
      (w : write.Post κs (kind, (values, (out, (start, tt)))) written left) where
    -- as many as the length takes: it is written, with that length
    pub written-as-told : (n : ℕ) → told ≡ Ok n → start + bytes_for n ≤ length out.now → written ≡ Ok n
    written-as-told n e fit = w.0 ∙ room-of-own kind values.now n (length out.now) start (sym l ∙ e) fit ∙ sym l ∙ e

    -- none is enough for a record that has no frame: it is refused alike
    pub refused-as-told : (r : Refusal) → told ≡ Err r → written ≡ Err r
    refused-as-told r e = w.0 ∙ told-refused kind values.now r (length out.now) start (sym l ∙ e)

-- ---- `write` alone
module _ (κs : Lfts 2) (kind : Kind) (values : Bor (List ℕ)) (out : MutBor (List ℕ)) (start : ℕ) (written : Result ℕ Refusal)
    (left : AtExit (ended_of 2 write-kinds.ps write-kinds.r) κs)
    (w : write.Post κs (kind, (values, (out, (start, tt)))) written left) where
  -- as many as its kind's largest length takes: 8 is never given
  pub room-for-kind : start + bytes_for (largest_length kind) ≤ length out.now → written ≡ Err NoSpace → ⊥
  room-for-kind fit e = never-space kind values.now (sym (w.0 ∙ room-of-largest kind values.now (length out.now) start fit) ∙ e)

  -- and one byte less is too little for a longest record
  pub room-no-less : values.now ≡ fullest kind → length out.now < start + bytes_for (largest_length kind) → written ≡ Err NoSpace
  room-no-less full short =
      let longest = reached kind in
      let needed : length out.now < start + bytes_for (frame_length kind (fullest kind)) = rw longest.long short in
      w.0 ∙ ap (λ (s : List ℕ). written_of kind s (length out.now) start) full
      ∙ room-too-little kind (fullest kind) (length out.now) start longest.fine needed

  -- 213 bytes, whatever the kind
  pub room-for-all : start + most_bytes ≤ length out.now → written ≡ Err NoSpace → ⊥
  room-for-all fit = room-for-kind (omega (arith, largest-bytes kind))
