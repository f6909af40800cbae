-- `Frame::items` meets its contract. The loop's invariant: i items are read, and the next is the record's next.
-- Assumes nothing.
use Prim.Native.Nat.{ℕ, ◌+◌}
use mathlib.Core.Path.{◌≡◌, refl, ap, sym, subst}
use mathlib.Core.List.{[], ◌∷◌}
use native.Mathlib.Omega.{arith}
use Rattle.std.specs.Prelude.{Ok, ◌*◌}
use Rattle.std.proofs.lemmas.Result.{IfOk-at_ok}
use Rattle.layout.specs.Row.{at_least}
use Rattle.layout.specs.Shape.{least, repeated, stride, times}
use Rattle.reading.specs.Reads.{bits_in, Reads}
use Rattle.reading.proofs.ReadLaws.{reading}
use Rattle.reading.proofs.FillLaws.{fills, left_by}
use Rattle.table.proofs.Absent.{length-item, length-repeated}
use Rattle.table.proofs.ListLaws.{Listing, listing_none, listing-more, listing-stop}
use Rattle.reading.proofs.parts.Frame.items.Goals as goal

pub loop-i-init : goal.loop-i-init
loop-i-init c =
    let a = c.args in
    let x = a.into.now.values in
    subst (λ (p : ℕ). Listing (reading (bits_in a.self)) a.items a.from a.count x x a.from p 0) (sym c.requires.0)
    (listing_none (reading (bits_in a.self)) a.items a.from a.count x (λ q h. a.into.now.clear q (omega arith)))

pub returns-in_err-at : goal.returns-in_err-at
returns-in_err-at c =
    let a = c.args in
    let l = c.loop-i in
    fills (a.count + 1) c.requires.0 refl (left_by c.from_residual.result c.from_residual.ensures.1) tt
    (listing-stop (reading (bits_in a.self)) a.items a.from a.count a.into.now.values l.into.values _ l.at l.into.place l.i _ l.invariant
    c.listed.ensures.reads _ _ c.in_err-at.was tt (omega (arith, c.times_of-i-end.ensures)))

pub loop-i-preserved : goal.loop-i-preserved
loop-i-preserved c =
    let a = c.args in
    let l = c.loop-i in
    let moved = IfOk-at_ok _ c.in_ok-at.was c.listed.ensures.moved in
    let more = listing-more (reading (bits_in a.self)) a.items a.from a.count a.into.now.values l.into.values _ l.at l.into.place l.i _ l.invariant
    c.listed.ensures.reads _ _ c.in_ok-at.was (length-item a.items (at_least a.count (least a.items l.i) ∷ []) l.into.place) in
    subst (λ (p : ℕ). Listing (reading (bits_in a.self)) a.items a.from a.count a.into.now.values c.listed.new.into.values c.in_ok-at.at p (l.i + 1)) (sym moved) more

pub returns : goal.returns
returns c =
    let a = c.args in
    let l = c.loop-i in
    let all : l.i ≡ times a.items = omega (arith, c.times_of-i-end.ensures, c.loop-i-test.false) in
    fills (a.count + 1) c.requires.0 refl refl
    (omega (arith, c.requires.0, l.invariant.place, length-repeated a.items a.count (a.count + 1) 0 (times a.items), ap (λ (n : ℕ). stride a.items * n) all))
    (subst (λ (n : ℕ). Reads (repeated a.items a.count (a.count + 1) 0 n) (bits_in a.self) a.from (a.count + 1) a.into.now.values l.into.values (Ok l.at)) all
    l.invariant.goes)
