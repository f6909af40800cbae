-- `turning::turn_pairs` meets its contract: those of the first i that stay stand at the front, changed; the rest is as it was.
use mathlib.Core.Path.{◌≡◌, refl, sym, ap, ◌∙◌}
use Prim.Native.Nat.{ℕ}
use mathlib.Core.Bool.{Bool, ◌&&◌}
use mathlib.Core.List.{List, []}
use denote.Bor.{Bor}
use native.Mathlib.Omega.{arith}
use lib.ListN.{get_or}
use Rattle.std.specs.Prelude.{Option, option_map}
use Rattle.rules.specs.Lists.{mem}
use Rattle.order.specs.Keys.{keys_held}
use Rattle.store.specs.Storage.{pair_of}
use Rattle.turning.specs.Turns.{listed, turned, row_of, turn_of}
use Rattle.turning.proofs.Walk.{pair-stays, pair-goes}
use Rattle.turning.proofs.turn_pairs.Goals as goal
use Rattle.turning.proofs.turn_pairs.Goals.{in-Some, in_default}

pub loop-i-preserved : goal.loop-i-preserved
loop-i-preserved c =
    let a = c.args in
    let l = c.loop-i in
    let f = turn_of a.turn (keys_held a.groups.now) (option_map (λ r. keys_held r.now) a.radios) in
    let e = pair_of (get_or l.pairs l.i []) in
    let s = c.seek-sought in
    let groups : s.result.groups.now ≡ keys_held a.groups.now = ap (λ (g : Bor (List ℕ)). g.now) s.ensures.0 ∙ l.invariant.1 in
    let told = c.turned.ensures
    ∙ ap (λ (b : Bool). row_of e.0 (turned a.turn (b && listed (option_map (λ r. r.now) c.words_of-listed.result) e.0.1) e.1))
    (s.result.known ∙ ap (λ (g : ℕ). mem g s.result.groups.now) s.ensures.1 ∙ ap (mem e.0.0) groups)
    ∙ ap (λ (rs : Option (List ℕ)). row_of e.0 (turn_of a.turn (keys_held a.groups.now) rs e.0 e.1)) c.words_of-listed.ensures in
    elim c.match-turned.branch [
      | in-Some w ↦ rw (w.kept-is, w.pairs-is) (
        omega arith,
        groups,
        s.result.known,
        pair-stays f a.pairs.now l.pairs l.i l.kept (omega (arith, c.lesser-i-end.ensures)) l.invariant.0 l.invariant.3 _ refl
            w.in-Some.next (sym told ∙ w.in-Some.is),
      )
      | in_default w ↦ rw (w.kept-is, w.pairs-is) (
        omega arith,
        groups,
        s.result.known,
        pair-goes f a.pairs.now l.pairs l.i l.kept (omega (arith, c.lesser-i-end.ensures)) l.invariant.0 l.invariant.3 _ refl
            (sym told ∙ w.in_default.is),
      )
    ]
