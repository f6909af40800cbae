-- What a step that names groups makes of the lists, in plain lists, and the totals after it, counted before it. Under any lawful placing.
use Prim.Native.Nat.{ℕ, ◌+◌}
use mathlib.Core.Path.{◌≡◌, ◌∙◌, ap}
use mathlib.Core.Bool.{not}
use mathlib.Core.List.{List, map}
use mathlib.Core.Option.{Option, none, some}
use lib.Dec.{eqb}
use lib.ListN.{length}
use borrow.Author.Tests.{eqb-true}
use Rattle.rules.specs.Lists.{keep, present, sum}
use Rattle.rules.specs.Entries.{find}
use Rattle.rules.specs.Number.{Numbers, used, identity_key}
use Rattle.rules.specs.Named.{spelled, numbers, numbers_in}
use Rattle.rules.specs.Parameters.{Parameters}
use Rattle.rules.specs.Mark.{Mark}
use Rattle.rules.specs.Owners.{OwnerChange}
use Rattle.rules.specs.Effect.{on_groups}
use Rattle.rules.specs.Ledger.{Group, Pair, same_pair, Ledger, group}
use Rattle.rules.specs.Placing.{puts, Placing, Lawful}
use Rattle.rules.specs.Steps.{group_after, product, apply}
use Rattle.rules.proofs.ListLaws.{eqb_same, Once, once-once}
use Rattle.rules.proofs.Walks.{alter-all}
use Rattle.rules.proofs.Pairs.{pair-sound, pair-itself, length-product, product-apart}
use Rattle.rules.proofs.Puts.{length-puts}
use Rattle.rules.proofs.Effects.{Standing}

-- the numbers of an order's list stand once each
pub numbers-once : (home : ℕ) (n : Option Numbers) → Once (numbers_in home n)
unfolding numbers
numbers-once home none = tt
numbers-once home (some n) = once-once (spelled n.code (map (identity_key home) (used n)))

module _ (p : Placing) (laws : Lawful p) (l : Ledger) (s : Standing p l)
    (gs : List ℕ) (owners : OwnerChange) (parameters : Parameters) (rs : List ℕ) (m : Mark) where
  abbrev left : Ledger
  left = apply p l (on_groups gs owners parameters rs m)

  abbrev after : ℕ → Group
  after g = group_after p owners parameters (group l g)

  made : left.groups ≡ puts p.groups l.groups gs after
  made = ap (λ (k : List (ℕ × Group)). puts p.groups k gs after) (alter-all l.groups)

  set : left.pairs ≡ puts p.pairs l.pairs (product gs rs) (λ k. m)
  set = ap (λ (k : List (Pair × Mark)). puts p.pairs k (product gs rs) (λ k. m)) (alter-all l.pairs)

  -- each group and each pair is put
  pub step-lists : apply p l (on_groups gs owners parameters rs m) ≡ record {
    groups = puts p.groups l.groups gs (λ g. group_after p owners parameters (group l g));
    pairs = puts p.pairs l.pairs (product gs rs) (λ k. m);
  }
  step-lists = λ i. record { groups = made i; pairs = set i }

  -- one more for each group that is missing, and for each pair
  pub groups-total : Once gs → length (apply p l (on_groups gs owners parameters rs m)).groups
      ≡ length l.groups + length (keep (λ g. not (present (group l g))) gs)
  groups-total once = ap length made ∙ length-puts eqb eqb-true eqb_same p.groups laws.groups l.groups gs after s.groups once

  pub pairs-total : Once gs → Once rs → length (apply p l (on_groups gs owners parameters rs m)).pairs
      ≡ length l.pairs + sum (λ g. length (keep (λ r. not (present (find same_pair l.pairs (g, r)))) rs)) gs
  pairs-total once once' =
      ap length set
      ∙ length-puts same_pair pair-sound pair-itself p.pairs laws.pairs l.pairs (product gs rs) (λ k. m) s.pairs (product-apart gs rs once once')
      ∙ ap (λ (n : ℕ). length l.pairs + n) (length-product (λ k. not (present (find same_pair l.pairs k))) gs rs)
