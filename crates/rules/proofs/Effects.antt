-- Under a lawful placing, what the ledger says after a step is the step's effect on what it said before; and its form stays.
use Prim.Native.Nat.{ℕ}
use mathlib.Core.Path.{◌≡◌, refl, ◌∙◌, ap}
use mathlib.Core.Bool.{Bool, true, false, cond}
use mathlib.Core.List.{List, []}
use mathlib.Core.Option.{Option, none, some}
use lib.Dec.{eqb}
use borrow.Author.Tests.{eqb-true}
use Rattle.rules.specs.Lists.{present, turned, mem}
use Rattle.rules.specs.Entries.{find, alter}
use Rattle.rules.specs.Mark.{Mark}
use Rattle.rules.specs.Owners.{OwnerChange, owners_from, owns_from}
use Rattle.rules.specs.Effect.{Effect}
use Rattle.rules.specs.Change.{after}
use Rattle.rules.specs.Ledger.{Group, Pair, same_pair, Ledger, empty, group, owners_of, parameters_of, view}
use Rattle.rules.specs.Placing.{Placing, Lawful}
use Rattle.rules.specs.Steps.{owners_after, group_made, product, apply}
use Rattle.rules.proofs.Tests.{split}
use Rattle.rules.proofs.ListLaws.{eqb_same, mem-append}
use Rattle.rules.proofs.EntryLaws.{Single, find-alter, single-distinct}
use Rattle.rules.proofs.Pairs.{pair-sound, pair-itself, any-product}
use Rattle.rules.proofs.Puts.{form-puts, find-puts}

-- groups and pairs stand in the placing's form
pub record Standing (p : Placing) (l : Ledger) : Type 0 where
  pub groups : p.groups.form l.groups ≡ true
  pub pairs : p.pairs.form l.pairs ≡ true

-- who owns a group, by list and by one
pub mem-owners : (a : ℕ) (c : OwnerChange) (standing : List ℕ) → mem a (owners_from c standing) ≡ owns_from c (mem a standing) a
mem-owners a c standing = mem-append a (cond c.stay standing []) c.come
    ∙ split c.stay (λ e. rw e) (λ e. rw e)

module _ (p : Placing) (laws : Lawful p) where
  pub standing-empty : Standing p empty
  standing-empty = record { groups = laws.groups.begins; pairs = laws.pairs.begins }

  -- so no group and no pair stands twice
  pub groups-single : (l : Ledger) → Standing p l → Single eqb l.groups
  groups-single l s = single-distinct eqb l.groups (laws.groups.single l.groups s.groups)

  pub pairs-single : (l : Ledger) → Standing p l → Single same_pair l.pairs
  pairs-single l s = single-distinct same_pair l.pairs (laws.pairs.single l.pairs s.pairs)

module _ (p : Placing) (laws : Lawful p) (l : Ledger) (s : Standing p l) (e : Effect) where
  abbrev goes : ℕ → Group → Option Group
  goes g x = cond (e.removes g) none (some x)

  abbrev turns : Pair → Mark → Option Mark
  turns k = e.turns k.0 k.1

  left : p.groups.form (alter goes l.groups) ≡ true
  left = laws.groups.alters goes l.groups s.groups

  turned_left : p.pairs.form (alter turns l.pairs) ≡ true
  turned_left = laws.pairs.alters turns l.pairs s.pairs

  pub standing-apply : Standing p (apply p l e)
  standing-apply = record {
    groups = form-puts eqb eqb-true eqb_same p.groups laws.groups (alter goes l.groups) e.makes
        (group_made p l e) left;
    pairs = form-puts same_pair pair-sound pair-itself p.pairs laws.pairs (alter turns l.pairs) (product e.makes e.assigns) (λ k. e.begins)
        turned_left;
  }

  pub group-after : (g : ℕ)
      → group (apply p l e) g ≡ cond (mem g e.makes) (some (group_made p l e g)) (cond (e.removes g) none (group l g))
  group-after g =
      find-puts eqb eqb-true eqb_same p.groups laws.groups (alter goes l.groups) e.makes (group_made p l e) left g
      ∙ ap (λ (x : Option Group). cond (mem g e.makes) (some (group_made p l e g)) x)
      (find-alter eqb eqb-true goes l.groups g (groups-single p laws l s) ∙ gone (e.removes g) (group l g))
    where
      gone : (b : Bool) (x : Option Group) → turned (λ x. cond b none (some x)) x ≡ cond b none x
      gone true none = refl
      gone true (some x) = refl
      gone false none = refl
      gone false (some x) = refl

  stands_after : (g : ℕ) → present (group (apply p l e) g) ≡ (after (view l) e).stands g
  stands_after g = split (mem g e.makes)
      (λ a. cc (group-after g))
      (λ a. split (e.removes g) (λ b. cc (group-after g)) (λ b. cc (group-after g)))

  owner-after : (g a : ℕ) → mem a (owners_of (group (apply p l e) g)) ≡ (after (view l) e).owner g a
  owner-after g a = split (mem g e.makes)
      (λ b. cc (group-after g, made (group l g)))
      (λ b. split (e.removes g) (λ c. cc (group-after g)) (λ c. cc (group-after g)))
    where
      made : (x : Option Group) → mem a (owners_after p e.owners x) ≡ owns_from e.owners (mem a (owners_of x)) a
      made x = laws.owners.holds a (owners_from e.owners (owners_of x)) ∙ mem-owners a e.owners (owners_of x)

  parameters-after : (g : ℕ) → parameters_of (group (apply p l e) g) ≡ (after (view l) e).parameters g
  parameters-after g = split (mem g e.makes)
      (λ b. cc (group-after g))
      (λ b. split (e.removes g) (λ c. cc (group-after g)) (λ c. cc (group-after g)))

  pub mark-after : (g r : ℕ) → find same_pair (apply p l e).pairs (g, r) ≡ (after (view l) e).mark g r
  mark-after g r =
      cc (
        find-puts same_pair pair-sound pair-itself p.pairs laws.pairs (alter turns l.pairs)
            (product e.makes e.assigns) (λ k. e.begins) turned_left (g, r),
        any-product g r e.makes e.assigns,
        find-alter same_pair pair-sound turns l.pairs (g, r) (pairs-single p laws l s),
      )

  pub view-after : view (apply p l e) ≡ after (view l) e
  view-after = λ i. record {
    stands = λ g. stands_after g i;
    owner = λ g a. owner-after g a i;
    parameters = λ g. parameters-after g i;
    mark = λ g r. mark-after g r i;
  }
