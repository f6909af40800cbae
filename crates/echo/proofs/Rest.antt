-- Laws of what follows a text's last newline, and of how much of it is held.
use mathlib.Core.Path.{◌≡◌, refl, sym, ap, ◌∙◌}
use mathlib.Core.Bool.{Bool, true, false, cond}
use mathlib.Core.List.{List, [], ◌∷◌, ◌++◌}
use Prim.Native.Nat.{ℕ, zero, suc, ◌+◌, ◌-◌, ◌≤◌, min}
use native.Mathlib.Omega.{arith}
use lib.ListN.{length, take, drop, length-drop, take-append-drop}
use lib.Seq.{length-take-le, take_at, take-append-le, drop-append-le}
use Rattle.std.specs.List.{copy_within}
use Rattle.echo.specs.Line.{has_newline, unfinished}

unfinished-short : (text : List ℕ) → length (unfinished text) ≤ length text
unfinished-short [] = omega arith
unfinished-short (byte ∷ text) = by_newline (has_newline (byte ∷ text)) (unfinished-short text)
  where
    by_newline : (t : Bool) → length (unfinished text) ≤ length text → length (cond t (unfinished text) (byte ∷ text)) ≤ length (byte ∷ text)
    by_newline true short = omega arith
    by_newline false short = omega arith

-- it is the end of the text
unfinished-last : (text : List ℕ) → drop (length text - length (unfinished text)) text ≡ unfinished text
unfinished-last [] = refl
unfinished-last (byte ∷ text) = by_newline (has_newline (byte ∷ text)) (unfinished-last text)
  where
    by_newline : (t : Bool) → drop (length text - length (unfinished text)) text ≡ unfinished text
        → drop (length (byte ∷ text) - length (cond t (unfinished text) (byte ∷ text))) (byte ∷ text) ≡ cond t (unfinished text) (byte ∷ text)
    by_newline true last =
        let short = unfinished-short text in
        let before : length (byte ∷ text) - length (unfinished text) ≡ suc (length text - length (unfinished text)) = omega arith in
        rw before last
    by_newline false last =
        let all : length (byte ∷ text) - length (byte ∷ text) ≡ 0 = omega arith in
        rw all

-- no more is taken than there is
take_min : (n : ℕ) (l : List ℕ) → take (min (length l) n) l ≡ take n l
take_min zero l = let none : min (length l) 0 ≡ 0 = omega arith in rw none
take_min (suc n) [] = let none : min 0 (suc n) ≡ 0 = omega arith in rw none
take_min (suc n) (byte ∷ l) = let one : min (suc (length l)) (suc n) ≡ suc (min (length l) n) = omega arith in rw (one, take_min n l)

module _ (input rest : List ℕ) (end : ℕ) (fits : end ≤ length input) (left : rest ≡ unfinished (take end input)) where
  text-size : length (take end input) ≡ end
  text-size = length-take-le end input fits

  pub rest-within : length rest ≤ end
  rest-within = omega (arith, text-size, unfinished-short (take end input), ap length left)

  -- what is moved to the front of the buffer is the start of the unfinished line
  pub front_kept : (after : List ℕ) (count most : ℕ) → count ≡ min (length rest) most
      → after ≡ copy_within input (end - length rest) (end - length rest + count) 0 → take count after ≡ take most (unfinished (take end input))
  front_kept after count most size kept =
      let from = end - length rest in
      let short = rest-within in
      let last : drop from (take end input) ≡ rest =
      ap (λ n. drop n (take end input)) (omega (arith, text-size, ap length left)) ∙ unfinished-last (take end input) ∙ sym left in
      let whole : drop from input ≡ rest ++ drop end input =
      ap (drop from) (sym (take-append-drop end input)) ∙ drop-append-le from (take end input) (drop end input) (omega (arith, text-size))
      ∙ ap (λ l. l ++ drop end input) last in
      let moved : from + count - from ≡ count = omega arith in
      let long : count ≤ length (drop from input) = simp length-drop (omega arith) in
      ap (take count) kept
      ∙ rw moved (take_at (take count (drop from input)) (drop (0 + count) input) count (length-take-le count (drop from input) long))
      ∙ ap (take count) whole ∙ take-append-le count rest (drop end input) (omega arith)
      ∙ ap (λ n. take n rest) size ∙ take_min most rest ∙ ap (take most) left
