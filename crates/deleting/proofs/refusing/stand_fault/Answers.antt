-- `deleting::stand_fault` meets its contract.
use mathlib.Core.Path.{◌≡◌, ◌∙◌, sym}
use mathlib.Core.Bool.{Bool, true, false, not, ◌&&◌}
use mathlib.Core.List.{List, map}
use Prim.Native.Nat.{ℕ}
use lib.Dec.{eqb, ltb}
use Rattle.rules.specs.ByNumber.{lower}
use Rattle.rules.specs.Ledger.{Group}
use Rattle.rules.specs.Lists.{any, rises}
use Rattle.rules.specs.Entries.{find}
use Rattle.store.specs.Named.{group_fault}
use Rattle.store.specs.Places.{looked_up}
use Rattle.store.specs.Storage.{group_of}
use Rattle.store.specs.declared.Standing.{Standing}
use Rattle.store.specs.declared.Standing.TheVariants.{Missing, Foreign}
use Rattle.store.proofs.LookedUp.{faults-found}
use Rattle.deleting.specs.Deletes.{named}
use Rattle.deleting.proofs.refusing.stand_fault.Goals as goal
use Rattle.deleting.proofs.refusing.stand_fault.Goals.{After-exceeds}
use Rattle.deleting.proofs.refusing.stand_fault.Goals.{else-not-asked-via-then-not-asked+else-not-asked-2, else-not-asked-via-else-not-asked}

-- what is answered of the groups is said of those that are found
said : (l : List (ℕ × Group)) → rises (lower ltb) l ≡ true → (s : Standing) (asker : ℕ) (named : List ℕ) (r b : Bool)
    → r ≡ any (λ g. group_fault s (looked_up ltb eqb l g) asker) named → r ≡ b
    → any (λ g. group_fault s (find eqb l g) asker) named ≡ b
said l h s asker named r b e q = sym (faults-found l h s asker named) ∙ sym e ∙ q

pub returns-then-any_group : goal.returns-then-any_group
returns-then-any_group c =
    let a = c.args in
    let missing = said (map group_of a.groups.now) c.requires Missing a.asker.0 (named a.asked.now) _ _ c.any_group.ensures c.if-any_group.true in
    rw missing

-- past the first test all groups stand, past the second they are the asker's
pub returns-then-any_group-2 : goal.returns-then-any_group-2
returns-then-any_group-2 c =
    let a = c.args in
    let there = said (map group_of a.groups.now) c.requires Missing a.asker.0 (named a.asked.now) _ _ c.any_group.ensures c.if-any_group.false in
    let foreign = said (map group_of a.groups.now) c.requires Foreign a.asker.0 (named a.asked.now) _ _ c.any_group-2.ensures c.if-any_group-2.true in
    rw (there, foreign)

pub returns-then-not-asked-2 : goal.returns-then-not-asked-2
returns-then-not-asked-2 c =
    let a = c.args in
    let there = said (map group_of a.groups.now) c.requires Missing a.asker.0 (named a.asked.now) _ _ c.any_group.ensures c.if-any_group.false in
    let own = said (map group_of a.groups.now) c.requires Foreign a.asker.0 (named a.asked.now) _ _ c.any_group-2.ensures c.if-any_group-2.false in
    rw (there, own, c.if-not-asked.true, c.if-not-asked-2.true)

-- and past the third there is something to do
work : (c : After-exceeds) → (not c.args.asked.now.remove && not c.args.asked.now.deassign) ≡ false
work c =
    elim c.else-not-asked.branch [
      | else-not-asked-via-then-not-asked+else-not-asked-2 w ↦ rw (w.if-not-asked.true, w.if-not-asked-2.false)
      | else-not-asked-via-else-not-asked w ↦ rw w.if-not-asked.false
    ]

pub returns-then-exceeds : goal.returns-then-exceeds
returns-then-exceeds c =
    let a = c.args in
    let there = said (map group_of a.groups.now) c.requires Missing a.asker.0 (named a.asked.now) _ _ c.any_group.ensures c.if-any_group.false in
    let own = said (map group_of a.groups.now) c.requires Foreign a.asker.0 (named a.asked.now) _ _ c.any_group-2.ensures c.if-any_group-2.false in
    let some-work = work (goal.at.returns-then-exceeds c).After-exceeds in
    rw (there, own, some-work, ← c.exceeds.ensures, c.if-exceeds.true)

pub returns : goal.returns
returns c =
    let a = c.args in
    let there = said (map group_of a.groups.now) c.requires Missing a.asker.0 (named a.asked.now) _ _ c.any_group.ensures c.if-any_group.false in
    let own = said (map group_of a.groups.now) c.requires Foreign a.asker.0 (named a.asked.now) _ _ c.any_group-2.ensures c.if-any_group-2.false in
    let some-work = work (goal.at.returns c).After-exceeds in
    rw (there, own, some-work, ← c.exceeds.ensures, c.if-exceeds.false)
