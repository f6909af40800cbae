-- How much buffer is enough: with room for a record's length, or for its kind's largest, the writer answers what is told of the length, and so never 8.
-- Assumes nothing.
use Prim.Native.Nat.{ℕ, ◌+◌, ◌≤◌, ◌<◌}
use mathlib.Core.Path.{◌≡◌, refl, sym, ◌∙◌}
use mathlib.Core.Bool.{Bool, true, false, cond}
use mathlib.Core.List.{List}
use native.Mathlib.Omega.{arith}
use lib.Dec.{T}
use lib.ListN.{length}
use Rattle.std.specs.Prelude.{Result, Ok, Err, ⊤}
use Rattle.refusal.specs.declared.Refusal.{Refusal}
use Rattle.refusal.specs.declared.Refusal.TheVariants.{Reserved, NoGroup, NoSpace}
use Rattle.bits.specs.Bits.{bytes_for}
use Rattle.layout.specs.declared.Kind.{Kind}
use Rattle.layout.specs.Row.{all}
use Rattle.layout.specs.Write.{good, good_but_group}
use Rattle.layout.specs.Frame.{laid, valid, write, judged_of, written_if, written_of}
use Rattle.layout.specs.Length.{frame_length, measured_if, measured_of}
use Rattle.layout.specs.Figures.{largest_length}
use Rattle.layout.proofs.Frames.{valid-judged, judged-valid, write-fits, write-short}
use Rattle.layout.proofs.Lengths.{length-written}
use Rattle.layout.proofs.Largest.{formula-largest}

module _ (kind : Kind) (s : List ℕ) where
  -- ---- what is told: the formula, where the record has a frame
  pub told-bits : T (valid kind s) → measured_of kind s ≡ Ok (frame_length kind s)
  unfolding measured_of
  told-bits fine = rw (valid-judged kind s fine)

  told-valid : (n : ℕ) → measured_of kind s ≡ Ok n → T (valid kind s) × (frame_length kind s ≡ n)
  unfolding measured_of
  told-valid n e = go (judged_of kind s) refl e
    where
      go : (j : Result ⊤ Refusal) → judged_of kind s ≡ j → measured_if j (frame_length kind s) ≡ Ok n → T (valid kind s) × (frame_length kind s ≡ n)
      go (Ok tt) d e = (judged-valid kind s d, cc)
      go (Err r) d e = let z : ◌≡◌ {A = ℕ} 0 1 = cc in absurd (omega arith)

  -- at most the largest of its kind
  pub told-most : (n : ℕ) → measured_of kind s ≡ Ok n → n ≤ largest_length kind
  told-most n e = let told = told-valid n e in omega (arith, told.1, formula-largest kind s told.0)

  -- never 8: the judgement knows no buffer
  pub never-space : measured_of kind s ≡ Err NoSpace → ⊥
  unfolding measured_of judged_of
  never-space e = go (all good (laid kind s)) (all good_but_group (laid kind s)) e
    where
      go : (a b : Bool) → measured_if (cond a (Ok tt) (cond b (Err NoGroup) (Err Reserved))) (frame_length kind s) ≡ Err NoSpace
          → ⊥
      go true b e = let z : ◌≡◌ {A = ℕ} 0 1 = cc in absurd (omega arith)
      go false true e = let z : ◌≡◌ {A = ℕ} 0 1 = cc in absurd (omega arith)
      go false false e = let z : ◌≡◌ {A = ℕ} 0 1 = cc in absurd (omega arith)

  -- ---- what is written, with so many bytes lent
  -- a record that has no frame is refused alike, whatever is lent
  pub told-refused : (r : Refusal) (size start : ℕ) → measured_of kind s ≡ Err r → written_of kind s size start ≡ Err r
  unfolding written_of measured_of
  told-refused r size start e = go (judged_of kind s) e
    where
      go : (j : Result ⊤ Refusal) → measured_if j (frame_length kind s) ≡ Err r → written_if j (length (write kind s)) size start ≡ Err r
      go (Ok tt) e = let z : ◌≡◌ {A = ℕ} 0 1 = cc in absurd (omega arith)
      go (Err n) e = e

  -- with room for so many bits, which a frame of this record has at most
  room_for : (n : ℕ) → (T (valid kind s) → frame_length kind s ≤ n) → (size start : ℕ) → start + bytes_for n ≤ size
      → written_of kind s size start ≡ measured_of kind s
  unfolding measured_of
  room_for n most size start fit = go (judged_of kind s) refl
    where
      go : (j : Result ⊤ Refusal) → judged_of kind s ≡ j → written_of kind s size start ≡ measured_of kind s
      go (Err r) e = let told : measured_of kind s ≡ Err r = rw e in told-refused r size start told ∙ sym told
      go (Ok tt) e =
          let fine = judged-valid kind s e in
          let enough : start + bytes_for (frame_length kind s) ≤ size = omega (arith, most fine) in
          write-fits kind s (frame_length kind s) e (length-written kind s fine) size start enough ∙ sym (told-bits fine)

  -- for its own, or for the largest of its kind
  pub room-of-own : (n size start : ℕ) → measured_of kind s ≡ Ok n → start + bytes_for n ≤ size → written_of kind s size start ≡ measured_of kind s
  room-of-own n size start e fit = room_for n (λ fine. omega (arith, (told-valid n e).1)) size start fit

  pub room-of-largest : (size start : ℕ) → start + bytes_for (largest_length kind) ≤ size → written_of kind s size start ≡ measured_of kind s
  room-of-largest size start fit = room_for (largest_length kind) (formula-largest kind s) size start fit

  -- one byte less than its own is too little
  pub room-too-little : (size start : ℕ) → T (valid kind s) → size < start + bytes_for (frame_length kind s) → written_of kind s size start ≡ Err NoSpace
  room-too-little size start fine short =
      write-short kind s (frame_length kind s) (valid-judged kind s fine) (length-written kind s fine) size start short
