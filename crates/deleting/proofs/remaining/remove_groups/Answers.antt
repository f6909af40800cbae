-- `deleting::remove_groups` meets its contract: those of the first i that stay stand at the front; the rest is as it was.
use mathlib.Core.Path.{◌≡◌, sym, ap, ◌∙◌}
use native.Mathlib.Omega.{arith}
use Prim.Native.Nat.{ℕ}
use mathlib.Core.Bool.{cond}
use mathlib.Core.List.{List, []}
use mathlib.Core.Option.{Option, none, some}
use lib.ListN.{get_or}
use borrow.Author.Rules.{rules}
use Rattle.rules.specs.Lists.{mem}
use Rattle.rules.specs.Ledger.{Group}
use Rattle.store.specs.Storage.{group_of, group_row, groups_of}
use Rattle.deleting.specs.Deassigned.{remaining}
use Rattle.store.proofs.Groups.{number_of}
use Rattle.store.proofs.Rows.{lay-read, alter-in, alter-out}
use Rattle.deleting.proofs.remaining.remove_groups.Goals as goal
use Rattle.deleting.proofs.remaining.remove_groups.Goals.{then-not-contains, else-not-contains}

-- `goes`: whether the row at i goes
pub loop-i-preserved : goal.loop-i-preserved
loop-i-preserved c =
    let a = c.args in
    let l = c.loop-i in
    let f : ℕ → Group → Option Group = λ k x. cond (mem k a.gone.now) none (some x) in
    let row = get_or l.groups l.i [] in
    let goes : mem (group_of row).0 a.gone.now ≡ c.contains.result =
    ap (λ (k : ℕ). mem k a.gone.now) (number_of row) ∙ sym (told c) in
    let w = l.invariant.1 in
    let same : row ≡ get_or a.groups.now l.i [] =
    rw w.rows (lay-read group_of group_row (remaining a.gone.now (groups_of l.i a.groups.now)) a.groups.now l.i (omega (arith, l.invariant.0, w.counts))) in
    let plain = same ∙ sym (c.requires.1 l.i c.loop-i-test.true) ∙ ap (λ (z : List ℕ). group_row (group_of z)) (sym same) in
    elim c.if-not-contains.branch [
      | then-not-contains v ↦
          let m = goes ∙ v.if-not-contains.true in
          let t = alter-in f group_of group_row a.groups.now l.groups l.i l.kept (omega (arith, c.requires.0)) l.invariant.0 w.counts w.rows
          (group_of row).1 row (rw m) plain in
          rw (v.kept-is, v.groups-is) (omega arith, record { counts = t.0; rows = t.1 })
      | else-not-contains v ↦
          let m = goes ∙ v.if-not-contains.false in
          let t = alter-out f group_of group_row a.groups.now l.groups l.i l.kept (omega (arith, c.requires.0)) l.invariant.0 w.counts w.rows (rw m) in
          rw (v.kept-is, v.groups-is) (omega arith, record { counts = t.0; rows = t.1 })
    ]
  where
    told : (c : goal.Joined-not-contains) → c.contains.result ≡ mem (get_or (get_or c.loop-i.groups c.loop-i.i []) 0 0) c.args.gone.now
    told c = search rules
