-- A word of at most 8 digits has 32 bits.
use mathlib.Core.Path.{◌≡◌, refl, sym, ap}
use mathlib.Core.Bool.{Bool, true, false, cond}
use mathlib.Core.List.{List, [], ◌∷◌}
use Prim.Native.Nat.{ℕ, ◌+◌, ◌*◌, ◌^◌, ◌≤◌, ◌<◌}
use native.Mathlib.Omega.{arith}
use lib.Dec.{ltb}
use lib.ListN.{length}
use lib.Pow.{pow_mono, pow-add}
use lib.Seq.{slice, length-slice}
use borrow.Author.Tests.{ltb-true}
use Rattle.std.specs.Prelude.{Some, None}
use Rattle.std.proofs.lemmas.Option.{cond_some, none-some}
use Rattle.house.specs.Hex.{digit_value, all_digits}
use Rattle.words.specs.declared.Taken.{Taken}
use Rattle.words.specs.Words.{hexadecimal, word_of, enough_at, digits_at}
use Rattle.words.proofs.Words.{both_hold, enough-within}

-- behind k digits so many more
hexadecimal-small : (k high : ℕ) (text : List ℕ) → all_digits text ≡ true → length text + k ≤ 8 → high < 2 ^ (4 * k) → hexadecimal high text < 2 ^ 32
hexadecimal-small k high [] d h b = let m = pow_mono {i = 4 * k} {j = 32} (omega arith) in omega arith
hexadecimal-small k high (c ∷ text) d h b =
    let both = both_hold (ltb (digit_value c) 16) (all_digits text) d in
    let v = ltb-true (digit_value c) 16 both.0 in
    let bits : 4 * (k + 1) ≡ 4 * k + 4 = omega arith in
    hexadecimal-small (k + 1) (high * 16 + digit_value c) text both.1 (omega arith)
    (rw (bits, pow-add 2 (4 * k) 4) (omega arith))

pub digits-small : (line : List ℕ) (at width : ℕ) (taken : Taken ℕ) → width ≤ 8 → Some taken ≡ digits_at line at width → taken.value < 2 ^ 32
unfolding digits_at
digits-small line at width taken h e =
    let all = digits-all (enough_at line at width) (sym e) in
    let inside = (enough-within line at width all.0).1 in
    let small = hexadecimal-small 0 0 (slice at (at + width) line) all.1 (omega (arith, length-slice at (at + width) line inside)) (omega arith) in
    omega (arith, ap (λ (t : Taken ℕ). t.value) all.2)
  where
    digits-all : (b : Bool) → cond b (word_of 0 (slice at (at + width) line) (at + width)) None ≡ Some taken
        → (b ≡ true) × (all_digits (slice at (at + width) line) ≡ true)
        × (record { value = hexadecimal 0 (slice at (at + width) line); next = at + width } ≡ taken)
    digits-all true e = let t = cond_some (all_digits (slice at (at + width) line)) _ taken e in (refl, t.0, t.1)
    digits-all false e = absurd (none-some taken e)
