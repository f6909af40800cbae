-- `order::range_keys` meets its contract.
use mathlib.Core.Path.{◌≡◌, sym, ap, ◌∙◌}
use mathlib.Core.List.{List, []}
use native.Mathlib.Omega.{arith}
use Prim.Native.Nat.{ℕ, ◌+◌, ◌-◌, ◌≤◌}
use lib.ListN.{length}
use Rattle.rules.specs.Named.{consecutive, span}
use Rattle.rules.proofs.Consecutive.{consecutive-length}
use Rattle.order.specs.Keys.{fitting, keys_as}
use Rattle.order.proofs.RangeLaws.{fitting-all, fitting-none}
use Rattle.order.proofs.spelling.range_keys.Goals.{then-last-first-via-then-last-first, then-last-first-via-else-last-first+then-most-last}
use Rattle.order.proofs.spelling.range_keys.Goals as goal

-- the keys from the first to the last
abbrev all : ℕ → ℕ → List ℕ
all first last = consecutive first (span first last)

-- and how many they are
many : (first last : ℕ) → length (all first last) ≡ span first last
many first last = consecutive-length first (span first last)

pub returns-then-last-first : goal.returns-then-last-first
returns-then-last-first g c =
    let a = c.args in
    let none = elim c.then-last-first.branch as (λ _. fitting a.most.count (all a.first a.last) ≡ []) [
      | then-last-first-via-then-last-first w ↦
          let empty : span a.first a.last ≡ 0 = omega (arith, w.if-last-first.true) in
          ap (λ (n : ℕ). fitting a.most.count (consecutive a.first n)) empty ∙ fitting-all a.most.count [] (omega arith)
      | then-last-first-via-else-last-first+then-most-last w ↦
          fitting-none a.most.count (all a.first a.last) (omega (arith, many a.first a.last, w.if-most-last.true, w.if-last-first.false))
    ] in
    c.no_keys.ensures ∙ ap keys_as (sym none)

pub returns : goal.returns
returns g c =
    let a = c.args in
    let few : length (all a.first a.last) ≤ a.most.count = omega (arith, many a.first a.last, c.if-most-last.false, c.if-last-first.false) in
    let e : a.last - a.first + 1 ≡ span a.first a.last = omega (arith, c.if-last-first.false) in
    c.consecutive_keys.ensures ∙ ap keys_as (ap (consecutive a.first) e ∙ sym (fitting-all a.most.count (all a.first a.last) few))
