-- Members, owners and totals of the ledger are those counted over the numbers named.
use Prim.Native.Nat.{ℕ, suc}
use mathlib.Core.Path.{◌≡◌, refl, sym, ◌∙◌, ap, fun_ext}
use mathlib.Core.Bool.{Bool, true}
use mathlib.Core.List.{List, [], ◌∷◌}
use mathlib.Core.Option.{Option, none, some}
use lib.Dec.{eqb}
use lib.ListN.{length, length-map}
use borrow.Author.Tests.{eqb-true}
use Rattle.rules.specs.Lists.{keep, present, turned, mem, rising, sum}
use Rattle.rules.specs.Entries.{find}
use Rattle.rules.specs.Mark.{Mark}
use Rattle.rules.specs.Effect.{Effect, effect}
use Rattle.rules.specs.World.{World, members_in, owners_in, group_total, pair_total}
use Rattle.rules.specs.Change.{after}
use Rattle.rules.specs.Ledger.{Group, Pair, same_pair, Ledger, group, owners_of, view, radios_of, members, owners}
use Rattle.rules.specs.Refusals.{accepted}
use Rattle.rules.specs.History.{History, start, ◌then◌, Named, named, named_in, world, refusal_in}
use Rattle.rules.proofs.Tests.{split, clash, and-false}
use Rattle.rules.proofs.ListLaws.{mem-append, mem-later, mem-keep, mem-rising, eqb_same, rising-keep, rising-rising, same-members, Once}
use Rattle.rules.proofs.ListLaws.{length-rising, once-rising, sum_one, sum-zero}
use Rattle.rules.proofs.EntryLaws.{Single, keys, mem-keys, once-keys}

-- ---- what stands was named ----

pub record Within (w : World) (n : Named) : Type 0 where
  pub stands : (g : ℕ) → w.stands g ≡ true → mem g n.groups ≡ true
  pub groups : (g r : ℕ) → present (w.mark g r) ≡ true → mem g n.groups ≡ true
  pub radios : (g r : ℕ) → present (w.mark g r) ≡ true → mem r n.radios ≡ true
  pub owners : (g a : ℕ) → w.owner g a ≡ true → mem a n.owners ≡ true

pub within_more : (w : World) (e : Effect) (n : Named) → Within w n → Within w (named e n)
within_more w e n h = record {
  stands = λ g k. mem-later g e.makes n.groups (h.stands g k);
  groups = λ g r k. mem-later g e.makes n.groups (h.groups g r k);
  radios = λ g r k. mem-later r e.assigns n.radios (h.radios g r k);
  owners = λ g a k. mem-later a e.owners.come n.owners (h.owners g a k);
}

turned-was : (f : Mark → Option Mark) (m : Option Mark) → present (turned f m) ≡ true → present m ≡ true
turned-was f none k = k
turned-was f (some m) k = refl

pub within-after : (w : World) (e : Effect) (n : Named) → Within w n → Within (after w e) (named e n)
within-after w e n h = record {
  stands = λ g k. split (mem g e.makes)
      (λ f. cc (mem-append g e.makes n.groups))
      (λ f. split (e.removes g)
      (λ d. clash (cc))
      (λ d. cc (mem-append g e.makes n.groups, h.stands g (cc))));
  groups = λ g r k. split (mem g e.makes)
      (λ f. cc (mem-append g e.makes n.groups))
      (λ f. cc (mem-append g e.makes n.groups, h.groups g r (turned-was (e.turns g r) (w.mark g r) (cc))));
  radios = λ g r k. split (mem r e.assigns)
      (λ f. cc (mem-append r e.assigns n.radios))
      (λ f. cc (mem-append r e.assigns n.radios, h.radios g r (turned-was (e.turns g r) (w.mark g r) (cc (and-false (mem g e.makes))))));
  owners = λ g a k. split (mem a e.owners.come)
      (λ f. cc (mem-append a e.owners.come n.owners))
      (λ f. mem-later a e.owners.come n.owners (h.owners g a (split (mem g e.makes)
      (λ b. split e.owners.stay (λ c. split (w.owner g a) (λ d. d) (λ d. clash (cc))) (λ c. clash (cc)))
      (λ b. split (e.removes g) (λ c. clash (cc)) (λ c. cc)))));
}

-- after any history
pub within-history : (h : History) → Within (world h) (named_in h)
within-history start = record { stands = λ g e. e; groups = λ g r e. e; radios = λ g r e. e; owners = λ g a e. e }
within-history (h then s) =
    let e = effect (world h) s in
    split (accepted (refusal_in h s))
    (λ a. rw a (within-after (world h) e (named_in h) (within-history h)))
    (λ a. rw a (within_more (world h) e (named_in h) (within-history h)))

-- ---- lists and totals ----

pub mem-radios : (g r : ℕ) (l : List (Pair × Mark)) → mem r (radios_of g l) ≡ present (find same_pair l (g, r))
mem-radios g r [] = refl
mem-radios g r (e ∷ l) = split (eqb g e.0.0)
    (λ a. split (eqb r e.0.1) (λ b. cc) (λ b. cc (mem-radios g r l)))
    (λ a. cc (mem-radios g r l))

-- a test that holds of numbers in the list alone
pub narrow : (x : ℕ) (p : ℕ → Bool) (l : List ℕ) → (p x ≡ true → mem x l ≡ true) → p x ≡ mem x (keep p (rising l))
narrow x p l h = split (p x)
    (λ e. cc (mem-keep p x (rising l), mem-rising x l, h e))
    (λ e. cc (mem-keep p x (rising l), and-false (mem x (rising l))))

-- the members are the radios named that have a mark, rising
pub members-agree : (l : Ledger) (n : Named) → Within (view l) n → (g : ℕ) → members l g ≡ members_in (view l) n.radios g
members-agree l n h g = same-members (members l g) (members_in (view l) n.radios g)
    (rising-rising (radios_of g l.pairs))
    (rising-keep (λ r. present ((view l).mark g r)) (rising n.radios) (rising-rising n.radios))
    (λ r. mem-rising r (radios_of g l.pairs) ∙ mem-radios g r l.pairs ∙ narrow r (λ r. present ((view l).mark g r)) n.radios (h.radios g r))

standing-agree : (l : Ledger) (n : Named) → Within (view l) n → rising (keys l.groups) ≡ keep (view l).stands (rising n.groups)
standing-agree l n h = same-members (rising (keys l.groups)) (keep (view l).stands (rising n.groups))
    (rising-rising (keys l.groups))
    (rising-keep (view l).stands (rising n.groups) (rising-rising n.groups))
    (λ g. mem-rising g (keys l.groups) ∙ mem-keys g l.groups ∙ narrow g (view l).stands n.groups (h.stands g))

pub groups-total : (l : Ledger) (n : Named) → Within (view l) n → Single eqb l.groups → length l.groups ≡ group_total (view l) n.groups
groups-total l n h o =
    sym (length-map l.groups (λ (e : ℕ × Group). e.0)) ∙ sym (length-rising (keys l.groups) (once-keys l.groups o)) ∙ ap length (standing-agree l n h)

pub owners-agree : (l : Ledger) (n : Named) → Within (view l) n → (g : ℕ) → owners l g ≡ owners_in (view l) n.owners g
owners-agree l n h g = same-members (owners l g) (keep ((view l).owner g) (rising n.owners))
    (rising-rising (owners_of (group l g)))
    (rising-keep ((view l).owner g) (rising n.owners) (rising-rising n.owners))
    (λ a. mem-rising a (owners_of (group l g)) ∙ narrow a ((view l).owner g) n.owners (h.owners g a))

once-radios : (g : ℕ) (l : List (Pair × Mark)) → Single same_pair l → Once (radios_of g l)
once-radios g [] h = tt
once-radios g (e ∷ l) h = split (eqb g e.0.0)
    (λ a. rw a (mem-radios g e.0.1 l ∙ ap (λ (x : ℕ). present (find same_pair l (x, e.0.1))) (eqb-true g e.0.0 a) ∙ h.0, once-radios g l h.1))
    (λ a. rw a (once-radios g l h.1))

-- every pair is counted in its group, once
length_pairs : (l : List (Pair × Mark)) (gs : List ℕ) → Once gs → ((g r : ℕ) → present (find same_pair l (g, r)) ≡ true → mem g gs ≡ true)
    → length l ≡ sum (λ g. length (radios_of g l)) gs
length_pairs [] gs o h = sym (sum-zero gs)
length_pairs (e ∷ l) gs o h =
    ap suc (length_pairs l gs o (λ g r k. h g r (later g r k))) ∙ sym (sum_one (λ g. length (radios_of g l)) (λ g. length (radios_of g (e ∷ l))) e.0.0
    (λ g a. cc) (λ g a. cc) gs o (h e.0.0 e.0.1 (cc (eqb_same e.0.0, eqb_same e.0.1))))
  where
    later : (g r : ℕ) → present (find same_pair l (g, r)) ≡ true → present (find same_pair (e ∷ l) (g, r)) ≡ true
    later g r k = split (same_pair (g, r) e.0) (λ a. cc) (λ a. cc)

pub pairs-total : (l : Ledger) (n : Named) → Within (view l) n → Single same_pair l.pairs
    → length l.pairs ≡ pair_total (view l) n.groups n.radios
pairs-total l n h o =
    length_pairs l.pairs (rising n.groups) (once-rising (rising n.groups) (rising-rising n.groups))
    (λ g r k. mem-rising g n.groups ∙ h.groups g r k)
    ∙ ap (λ (f : ℕ → ℕ). sum f (rising n.groups)) (fun_ext (λ g.
    sym (length-rising (radios_of g l.pairs) (once-radios g l.pairs o)) ∙ ap length (members-agree l n h g)))
