-- What a text is by its case: a parameter that is held, a name with letters, the first rows where more are asked for.
use mathlib.Core.Path.{◌≡◌, refl, sym, ap, ◌∙◌}
use mathlib.Core.Bool.{false}
use mathlib.Core.List.{List, [], ◌∷◌}
use Prim.Native.Nat.{ℕ, zero, suc, ◌-◌, ◌%◌, ◌<◌, ◌≤◌, min}
use native.Mathlib.Nat.{zero-min, suc-min-suc, min-le_left, min-le_right}
use native.Mathlib.Omega.{arith}
use lib.Dec.{eqb}
use lib.ListN.{length, take, length-take}
use lib.Seq.{take-nil, take-take}
use Rattle.house.specs.Hex.{digit_of}
use Rattle.text.specs.Text.{joined, held_letter, letter_text, name_text}

pub value-held : (held : ℕ) → 0 < held → held_letter held ≡ digit_of ((held - 1) % 16)
value-held zero h = absurd (omega arith)
value-held (suc held) h =
    let less : held ≡ suc held - 1 = omega arith in
    ap (λ n. digit_of (n % 16)) less

pub some-name : (name : List ℕ) → eqb (length name) 0 ≡ false → name_text name ≡ joined letter_text name
some-name [] h = absurd (cc)
some-name (letter ∷ name) h = refl

module _ {A : Type 0} where
  -- as many items as there are, where more are asked for
  take-least : (items : List A) (n : ℕ) → take (min n (length items)) items ≡ take n items
  take-least [] n = take-nil (min n 0) ∙ sym (take-nil n)
  take-least (item ∷ items) zero = ap (λ n. take n (item ∷ items)) (zero-min (length (item ∷ items)))
  take-least (item ∷ items) (suc n) =
      ap (λ n. take n (item ∷ items)) (suc-min-suc n (length items)) ∙ ap (λ (more : List A). item ∷ more) (take-least items n)

  pub take-fit : (items : List A) (count size : ℕ) {n : ℕ} → length items ≡ size → n ≡ min count size → take n items ≡ take count items
  take-fit items count size e e' = ap (λ m. take m items) (e' ∙ ap (λ m. min count m) (sym e)) ∙ take-least items count

  -- the first rows, no more than there are and no more than `most`
  pub first_rows : (rows : List A) (count most : ℕ) {n : ℕ} → n ≡ min count (min most (length rows)) → take n rows ≡ take count (take most rows)
  first_rows rows count most {n} e =
      let fit = min most (length rows) in
      let fits : n ≤ most = omega (arith, min-le_right count fit, min-le_left most (length rows)) in
      sym (take-take n most rows fits) ∙ take-fit (take most rows) count fit (length-take most rows) e
