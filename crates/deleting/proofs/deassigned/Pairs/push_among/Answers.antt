-- `deleting::Pairs::push_among` meets its contract: orders to those of the first radios that are found are laid.
use mathlib.Core.Path.{◌≡◌, sym, ap, ◌∙◌}
use mathlib.Core.Bool.{Bool, true}
use mathlib.Core.List.{map}
use native.Mathlib.Omega.{arith}
use Prim.Native.Nat.{ℕ, ◌+◌, ◌<◌}
use lib.ListN.{length, get_or}
use borrow.Author.Rules.{rules}
use Rattle.rules.specs.Lists.{present}
use Rattle.rules.specs.Entries.{find}
use Rattle.rules.specs.Ledger.{same_pair}
use Rattle.rules.specs.Outgoing.{deassign}
use Rattle.order.specs.Keys.{keys_held}
use Rattle.store.specs.Storage.{pair_of}
use Rattle.replies.specs.Sending.{order_row}
use Rattle.deleting.proofs.DeassignedLaws.{kept-more, laid_in, laid_out}
use Rattle.deleting.proofs.deassigned.Pairs.push_among.Goals as goal
use Rattle.deleting.proofs.deassigned.Pairs.push_among.Goals.{After-has, then-has, else-has}

-- whether a radio is the group's
abbrev owns : After-has → ℕ → Bool
owns c r = present (find same_pair (map pair_of c.args.self.rows.now) (c.args.group.0, r))

-- what is told of the radio at hand, which is the list's
told : (c : After-has) → owns c (get_or (keys_held c.args.radios.now) c.loop-k.k 0) ≡ c.has.result
told c = ap (owns c) (sym c.at-radio.ensures) ∙ sym c.has.ensures

inside : (c : After-has) → c.loop-k.k < length (keys_held c.args.radios.now)
inside c = omega (arith, c.len-k-end.ensures.value, c.loop-k-test.true)

-- there is room for a radio that is found
room : (c : After-has) → c.has.result ≡ true → c.args.at + c.loop-k.n < length c.loop-k.out
room c e =
    let l = c.loop-k in
    let k = kept-more (owns c) (keys_held c.args.radios.now) c.args.group.0 c.args.at l.out c.args.out.now l.k l.n (inside c)
    l.invariant.0 l.invariant.1 (told c ∙ e) in
    omega (arith, k, c.requires, l.auto.out)

pub overflow_add-at : goal.overflow_add-at
overflow_add-at c = let r = room (goal.at.overflow_add-at c).After-has c.if-has.true in search rules

pub offset_bounds-out-at : goal.offset_bounds-out-at
offset_bounds-out-at c = let r = room (goal.at.offset_bounds-out-at c).After-has c.if-has.true in search rules

pub bounds-out-at : goal.bounds-out-at
bounds-out-at c = room (goal.at.bounds-out-at c).After-has c.if-has.true

pub overflow_add-n : goal.overflow_add-n
overflow_add-n c = let r = room (goal.at.overflow_add-n c).After-has c.if-has.true in search rules

pub loop-k-preserved : goal.loop-k-preserved
loop-k-preserved c =
    let d = (goal.at.loop-k-preserved c).After-has in
    let a = c.args in
    let l = c.loop-k in
    let xs = keys_held a.radios.now in
    elim c.if-has.branch [
      | then-has w ↦ rw (w.n-is, w.out-is) (laid_in (owns d) xs a.group.0 a.at l.out a.out.now l.k l.n (inside d) l.invariant.0 l.invariant.1
          c.requires (told d ∙ w.if-has.true) _
          (w.order_row.ensures ∙ ap (λ (x : ℕ). order_row (record { kind = deassign; radio = x; group = a.group.0 })) c.at-radio.ensures))
      | else-has w ↦ rw (w.n-is, w.out-is) (
        laid_out (owns d) xs a.group.0 a.at l.out a.out.now l.k l.n (inside d) l.invariant.0 l.invariant.1 (told d ∙ w.if-has.false),
        l.invariant.1,
      )
    ]
