-- The round trip over the contracts of `read` and `write` themselves: what the one's call leaves, the other's call takes; and where `read` finds a frame bad.
-- `Post` is a contract's claim as the checker reads it: of the arguments, the result, and what the parameters hold at exit.
-- Assumes nothing.
use Prim.Native.Nat.{ℕ, ◌+◌, ◌*◌, ◌≤◌}
use mathlib.Core.Path.{◌≡◌, refl, sym, ap, ◌∙◌}
use mathlib.Core.List.{List, ◌++◌}
use borrow.Fn.Kinds.{ended_of}
use contract.Lifetimes.{Lfts}
use denote.MutBor.{MutBor}
use denote.Ref.{Bor}
use denote.Triple.Clauses.{AtExit}
use borrow.Author.Tests.{le-ltb}
use lib.Dec.{T}
use lib.ListN.{length, take, drop}
use Rattle.std.specs.Prelude.{Result, Ok, Err}
use Rattle.bits.specs.Bits.{bits_of, bytes_for, bytes_of}
use Rattle.refusal.specs.declared.Refusal.{Refusal}
use Rattle.layout.specs.declared.Kind.{Kind}
use Rattle.layout.specs.declared.Record.{Record}
use Rattle.layout.specs.declared.Refused.{Refused}
use Rattle.layout.specs.Read as answer
use Rattle.layout.specs.Frame as spec
use Rattle.layout.specs.Frame.{read_bytes, as_reading, reading_of, clean, valid}
use Rattle.layout.specs.Where.{RefusedIn}
use Rattle.layout.proofs.WhereLent.{refused-in, in-refused}
use Rattle.layout.proofs.Frames.{read_as, valid-judged, write-fits, write-then-read, MadeAgain, read-then-write}
use Rattle.frame.proofs.read.Kinds as read-kinds
use Rattle.frame.proofs.read.Reads as read
use Rattle.frame.proofs.write.Kinds as write-kinds
use Rattle.frame.proofs.write.Reads as write

abbrev AfterRead : Lfts 1 → Type 0
AfterRead = AtExit (ended_of 1 read-kinds.ps read-kinds.r)

abbrev AfterWrite : Lfts 2 → Type 0
AfterWrite = AtExit (ended_of 2 write-kinds.ps write-kinds.r)

module _ (κs : Lfts 2) (λs : Lfts 1) (kind : Kind) (values : Bor (List ℕ)) (out : MutBor (List ℕ)) (frame : Bor (List ℕ)) (start count : ℕ) (reading : Result Record Refused)
    (left : AfterWrite κs) (after : AfterRead λs) where
  -- what `write` made, `read` returns: the record, with 0 at the places that are not used
  pub made-then-read : write.Post κs (kind, (values, (out, (start, tt)))) (Ok count) left
      → frame.now ≡ drop start left.1.1.0.now
      → read.Post λs (kind, (frame, (count, tt))) reading after
      → reading ≡ read_as (clean kind values.now)
  made-then-read w here r =
      r ∙ ap (λ (bytes : List ℕ). reading_of kind bytes count) (here ∙ ap (drop start) w.1)
      ∙ write-then-read kind values.now out.now start count (sym w.0)

  -- what `read` took, `write` makes again where there is room: the same bits, and 0 in the spare bits of the last byte
  pub taken-then-written : (written : Result ℕ Refusal) (taken : Record) → read.Post λs (kind, (frame, (count, tt))) reading after
      → reading ≡ Ok taken
      → values.now ≡ taken.place
      → write.Post κs (kind, (values, (out, (start, tt)))) written left
      → start + bytes_for count ≤ length out.now
      → (written ≡ Ok count)
      × (left.1.1.0.now ≡ take start out.now ++ (bytes_of (take count (bits_of frame.now)) ++ drop (start + bytes_for count) out.now))
  taken-then-written written taken r found same w fit =
      let again : MadeAgain kind frame.now count values.now = rw same (read-then-write kind frame.now count taken (sym r ∙ found)) in
      (w.0 ∙ again.told out.now start fit, w.1 ∙ again.made out.now start fit)

  -- a record that has a frame, with room for it, is written, with its length: a writer that refuses everything is none
  pub valid-is-written : (written : Result ℕ Refusal) → T (valid kind values.now)
      → start + bytes_for (length (spec.write kind values.now)) ≤ length out.now
      → write.Post κs (kind, (values, (out, (start, tt)))) written left
      → written ≡ Ok (length (spec.write kind values.now))
  valid-is-written written good fit w =
      let n = length (spec.write kind values.now) in
      w.0 ∙ write-fits kind values.now n (valid-judged kind values.now good) refl (length out.now) start fit

  -- bits that are a frame are taken: a reader that refuses everything is none
  pub frame-is-taken : (s : List ℕ) → count ≤ 8 * length frame.now → spec.read kind (take count (bits_of frame.now)) ≡ answer.frame s
      → read.Post λs (kind, (frame, (count, tt))) reading after
      → reading ≡ read_as s
  unfolding reading_of read_bytes as_reading
  frame-is-taken s enough e r = r ∙ rw (le-ltb (8 * length frame.now) count enough, e)

-- where a frame is bad: `read` refuses with this number and this bit exactly where P2 says so of the lent bits
module _ (λs : Lfts 1) (kind : Kind) (frame : Bor (List ℕ)) (count : ℕ) (reading : Result Record Refused) (after : AfterRead λs)
    (r : read.Post λs (kind, (frame, (count, tt))) reading after) (n : Refusal) (at : ℕ) where
  pub refused-where : reading ≡ Err (record { refusal = n; bit = at }) → RefusedIn kind frame.now count n at
  refused-where e = refused-in kind frame.now count n at (sym r ∙ e)

  pub where-refused : RefusedIn kind frame.now count n at → reading ≡ Err (record { refusal = n; bit = at })
  where-refused bad = r ∙ in-refused kind frame.now count n at bad
