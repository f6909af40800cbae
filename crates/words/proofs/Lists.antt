-- Laws of the loop that reads a list.
use mathlib.Core.Path.{◌≡◌, refl, sym, ap, ◌∙◌}
use mathlib.Core.List.{List, [], ◌∷◌, ◌++◌}
use Prim.Native.Nat.{ℕ, suc, ◌+◌, ◌-◌, ◌≤◌, ◌<◌}
use native.Mathlib.Numerals.{add-one}
use native.Mathlib.Omega.{arith}
use lib.ListN.{length, take, drop, set, replicate, length-set, take-append-drop}
use lib.Seq.{length-take-le, take-suc-set, take_all, drop-drop, drop-set-lt}
use Rattle.std.specs.Prelude.{Option, Some, None}
use Rattle.order.specs.declared.Identity.{Identity}
use Rattle.order.specs.declared.Numbers.{Numbers}
use Rattle.words.specs.declared.Taken.{Taken}
use Rattle.words.specs.Character.{blank, colon}
use Rattle.words.specs.Words.{mark_at, digits_at}
use Rattle.words.specs.Series.{nobody, named_at, item_at, list_from, series_at}

-- a list read whole
abbrev pub listed : ℕ → List Identity → ℕ → Option (Taken Numbers)
listed code identity next = Some (record { value = record { code = code; identity = identity }; next = next })

-- the first i places are taken, and nobody is in the others: what stands from `next` on makes behind them what the whole list makes
pub record Listing (line : List ℕ) (at code : ℕ) (identity : List Identity) (i next : ℕ) : Type 0 where
  pub ten : length identity ≡ 10
  pub blank : drop i identity ≡ replicate (10 - i) nobody
  pub makes : list_from (10 - i) code line (take i identity) next ≡ series_at line at

module _ {line : List ℕ} {at : ℕ} where
  pub list-start : {from : ℕ} {code : Taken ℕ} {next : ℕ} → Some from ≡ mark_at line at blank → Some code ≡ digits_at line from 1
      → Some next ≡ mark_at line code.next colon → Listing line at code.value (replicate 10 nobody) 0 next
  unfolding series_at
  list-start m e n = record { ten = refl; blank = refl; makes = rw (← m, ← e, ← n) }

  module _ {code : ℕ} {identity : List Identity} {i next : ℕ} (listing : Listing line at code identity i next) where
    -- ten are taken
    pub list_full : 10 ≤ i → listed code identity next ≡ series_at line at
    unfolding list_from
    list_full all =
        let none : 10 - i ≡ 0 = omega arith in
        rw (none, take_all i identity (omega (arith, listing.ten))) at listing.makes

    -- a turn
    module _ (inside : i < 10) where
      taken : length (take i identity) ≡ i
      taken = length-take-le i identity (omega (arith, listing.ten))

      left : 10 - i ≡ suc (10 - (i + 1))
      left = omega arith

      -- the list has ended
      pub list-end : None ≡ item_at line next i → listed code identity next ≡ series_at line at
      unfolding list_from
      list-end e =
          let whole = sym (take-append-drop i identity) ∙ ap (λ rest. take i identity ++ rest) (listing.blank ∙ ap (λ n. replicate n nobody) left) in
          ap (λ all. listed code all next) whole ∙ rw (left, taken, ← e) at listing.makes

      module _ {start : ℕ} (starts : Some start ≡ item_at line next i) where
        -- no identity starts there
        pub list-bad : None ≡ named_at line start → None ≡ series_at line at
        unfolding list_from
        list-bad e = rw (left, taken, ← starts, ← e) at listing.makes

        -- another takes its place
        pub list-more : {one : Taken Identity} → Some one ≡ named_at line start → Listing line at code (set identity i one.value) (i + 1) one.next
        unfolding list_from
        list-more {one} is =
            let more : take (i + 1) (set identity i one.value) ≡ take i identity ++ one.value ∷ [] =
            rw add-one (take-suc-set identity i one.value (omega (arith, listing.ten))) in
            let rest = drop-set-lt (i + 1) identity i one.value (omega arith) ∙ sym (drop-drop 1 i identity) in
            record {
              ten = simp length-set listing.ten;
              blank = rest ∙ ap (drop 1) (listing.blank ∙ ap (λ n. replicate n nobody) left);
              makes = rw more (rw (left, taken, ← starts, ← is) at listing.makes);
            }
