-- A row tells a number by both its parts: what is found among the rows of a list, and among shown owners, is what is found under the key.
use mathlib.Core.Path.{◌≡◌, refl, sym, ap, ◌∙◌}
use mathlib.Core.Bool.{Bool, true, false, cond, ◌||◌}
use mathlib.Core.List.{List, [], ◌∷◌, map}
use mathlib.Core.Option.{some}
use Prim.Native.Nat.{ℕ}
use lib.Dec.{eqb}
use Rattle.rules.specs.Lists.{any, mem}
use Rattle.rules.specs.Entries.{find}
use Rattle.rules.specs.Number.{Number, key, number_at, same_number, wide_number, wide_key}
use Rattle.rules.specs.Replies.{Entry}
use Rattle.rules.specs.Demand.{entry_radios}
use Rattle.rules.proofs.ListLaws.{mem-head}
use Rattle.rules.proofs.Keys.{key-number, number-narrow, keys-same}
use Rattle.order.specs.Numbers.{radio_number, radio_at}
use Rattle.order.specs.declared.Itsi.{Itsi}
use Rattle.replies.specs.Listing.{entry_row}
use Rattle.demand.specs.Demand.{state_in}

-- keys that are all in range
abbrev Narrow : List ℕ → Type 0
Narrow l = (k : ℕ) → mem k l ≡ true → wide_key k ≡ false

narrow-tail : (k : ℕ) (l : List ℕ) → Narrow (k ∷ l) → Narrow l
narrow-tail k l w j h = w j (behind (eqb j k) h)
  where
    behind : {b : Bool} (a : Bool) → b ≡ true → (a || b) ≡ true
    behind true e = refl
    behind false e = e

module _ (n : Number) (h : wide_number n ≡ false) where
  -- it is the number of a key in range where its own key is that
  told-apart : (k : ℕ) → wide_key k ≡ false → same_number n (number_at k) ≡ eqb (key n) k
  told-apart k w = sym (keys-same n (number_at k) h (number-narrow k)) ∙ ap (eqb (key n)) (key-number k w)

  pub state-told : (l : List Entry) → Narrow (entry_radios l) → state_in (map entry_row l) n ≡ find eqb l (key n)
  state-told [] w = refl
  state-told (e ∷ l) w =
      let first = told-apart e.0 (w e.0 (mem-head e.0 (entry_radios l))) in
      let rest = state-told l (narrow-tail e.0 (entry_radios l) w) in
      λ i. cond (first i) (some e.1) (rest i)

  pub owner-told : (l : List ℕ) → Narrow l → any (λ (o : Itsi). same_number n (radio_number o)) (map radio_at l) ≡ mem (key n) l
  owner-told [] w = refl
  owner-told (a ∷ l) w =
      let first = told-apart a (w a (mem-head a l)) in
      let rest = owner-told l (narrow-tail a l w) in
      λ i. first i || rest i
