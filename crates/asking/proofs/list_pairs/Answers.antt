-- `asking::list_pairs` meets its contract: a row of the group has a state.
use mathlib.Core.Path.{◌≡◌, sym, ap, ◌∙◌}
use mathlib.Core.List.{[]}
use Prim.Native.Nat.{ℕ}
use lib.ListN.{length, get_or}
use borrow.Author.Tests.{eq-eqb}
use Rattle.std.specs.Prelude.{List, Some}
use Rattle.rules.proofs.ListLaws.{eqb_same}
use Rattle.store.specs.Storage.{pair_of}
use Rattle.store.specs.Places.{mark_in, found_of}
use Rattle.replies.specs.Listing.{entry_row}
use Rattle.asking.proofs.Mapped.{map-turn}
use Rattle.asking.proofs.list_pairs.Goals as goal
use Rattle.asking.proofs.list_pairs.Goals.{in-Some, in_default}

state-held : (g : ℕ) (row : List ℕ) → (pair_of row).0.0 ≡ g → found_of (mark_in (pair_of row) (g, (pair_of row).0.1)) ≡ Some (pair_of row).1.state
state-held g row e = rw (eq-eqb g (pair_of row).0.0 (sym e), eqb_same (pair_of row).0.1)

pub loop-i-preserved : goal.loop-i-preserved
loop-i-preserved c =
    let l = c.loop-i in
    let row = get_or c.args.pairs.now l.i [] in
    let held = c.state_in.ensures ∙ state-held c.args.group.0 row (c.requires.mine l.i c.loop-i-test.true) in
    elim c.match-state_in.branch [
      | in-Some w ↦
          let state : w.in-Some.state ≡ (pair_of row).1.state = cc (held, w.in-Some.is) in
          let t = map-turn _ c.args.pairs.now c.args.out.now l.out l.i _ [] c.loop-i-test.true c.requires.fits l.invariant.1
          (w.entry_row.ensures ∙ ap (λ (n : ℕ). entry_row ((pair_of row).0.1, n)) state) in
          (ap length w.out-is ∙ t.0, w.out-is ∙ t.1)
      | in_default w ↦
          let z : ⊥ = cc (held, w.in_default.is) in
          absurd z
    ]
