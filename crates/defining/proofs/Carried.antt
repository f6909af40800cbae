-- Laws of what a define leaves: its lists put in rising order make the same, there is room for it, and it is laid over the contents.
use mathlib.Core.Path.{◌≡◌, sym, ap, ◌∙◌}
use mathlib.Core.Bool.{true, not, ◌&&◌}
use mathlib.Core.List.{List, [], ◌∷◌, map}
use Prim.Native.Nat.{ℕ, ◌+◌}
use native.Mathlib.Omega.{arith}
use lib.Dec.{eqb, ltb}
use lib.ListN.{length, set}
use borrow.Author.Tests.{eqb-true}
use Rattle.rules.specs.Lists.{unique, mem, present, rises, in_order}
use Rattle.rules.specs.Entries.{find}
use Rattle.rules.specs.Mark.{Mark, fresh}
use Rattle.rules.specs.Parameters.{Parameters}
use Rattle.rules.specs.Ledger.{Group, Pair, same_pair}
use Rattle.rules.specs.ByNumber.{by_key, below_pair}
use Rattle.rules.specs.Steps.{product}
use Rattle.rules.proofs.ListLaws.{eqb_same, once-unique, mem-order, rising-order}
use Rattle.rules.proofs.Pairs.{pair-sound, pair-itself, any-product, product-apart, length-product}
use Rattle.rules.proofs.Puts.{length-puts}
use Rattle.rules.proofs.Rises.{rising-rises}
use Rattle.rules.proofs.ByKey.{by_key_lem}
use Rattle.rules.proofs.ByNumber.{numbers-linear, pairs-linear}
use Rattle.rules.proofs.PutsByKey.{puts-same}
use Rattle.order.specs.Walks.{onto}
use Rattle.store.specs.Storage.{Rows, Contents, contents, group_of, group_row, pair_of, pair_row, group_count, pair_count, ledger_of, laid}
use Rattle.store.proofs.FormLaws.{groups-rise, pairs-rise}
use Rattle.replies.proofs.Orders.{set_both, count-groups, count-pairs}
use Rattle.defining.specs.Carried.{carried, Carries}
use Rattle.defining.specs.Groups.{made_group, made_groups, Grows}
use Rattle.defining.specs.Pairs.{set_pairs}
use Rattle.defining.specs.Putting.{Takes}
use Rattle.defining.specs.Totals.{new_groups, new_pairs}

-- a list in which no number stands twice rises once it is put in order
pub sorted_rises : (l : List ℕ) → unique l ≡ true → rises ltb (in_order l) ≡ true
sorted_rises l u = rising-rises (in_order l) (rising-order l (once-unique l u))

module _ (c : Contents) (order come groups radios : List ℕ) (state : ℕ) (w : Carries c order come groups radios state) where
  abbrev new : Parameters
  new = (group_of order).1.parameters

  abbrev made : ℕ → Group
  made = made_group come new (ledger_of c).groups

  -- ---- the order of the keys makes no difference ----

  made-sorted : made_groups come new (in_order groups) (ledger_of c).groups ≡ made_groups come new groups (ledger_of c).groups
  made-sorted = puts-same numbers-linear made (ledger_of c).groups (in_order groups) groups (groups-rise c w.sound) (λ k. mem-order k groups)

  set-sorted : set_pairs state (in_order radios) (in_order groups) (ledger_of c).pairs ≡ set_pairs state radios groups (ledger_of c).pairs
  set-sorted = puts-same pairs-linear (λ k. fresh state) (ledger_of c).pairs (product (in_order groups) (in_order radios))
      (product groups radios) (pairs-rise c w.sound) same
    where
      same : (k : Pair) → Rattle.rules.specs.Lists.any (same_pair k) (product (in_order groups) (in_order radios))
          ≡ Rattle.rules.specs.Lists.any (same_pair k) (product groups radios)
      same k =
          any-product k.0 k.1 (in_order groups) (in_order radios)
          ∙ (λ i. mem-order k.0 groups i && mem-order k.1 radios i) ∙ sym (any-product k.0 k.1 groups radios)

  -- ---- the totals ----

  pub made-total : length (made_groups come new groups (ledger_of c).groups) ≡ group_count c + new_groups (ledger_of c).groups groups
  made-total =
      length-puts eqb eqb-true eqb_same (by_key ltb) (by_key_lem numbers-linear) (ledger_of c).groups groups made (groups-rise c w.sound)
      (once-unique groups w.groups_once)
      ∙ ap (λ (n : ℕ). n + new_groups (ledger_of c).groups groups) (count-groups c w.sound)

  pub set-total : length (set_pairs state radios groups (ledger_of c).pairs) ≡ pair_count c + new_pairs (ledger_of c).pairs radios groups
  set-total =
      length-puts same_pair pair-sound pair-itself (by_key below_pair) (by_key_lem pairs-linear) (ledger_of c).pairs (product groups radios) (λ k. fresh state)
      (pairs-rise c w.sound) (product-apart groups radios (once-unique groups w.groups_once) (once-unique radios w.radios_once))
      ∙ (λ i. count-pairs c w.sound i + length-product (λ k. not (present (find same_pair (ledger_of c).pairs k))) groups radios i)

  -- ---- what the walks are given, and what they leave; these and those: the groups and the radios, rising ----

  module _ (these those : List ℕ) (a : these ≡ in_order groups) (b : those ≡ in_order radios) (n m : ℕ)
      (e : n ≡ new_groups (ledger_of c).groups groups) (d : m ≡ new_pairs (ledger_of c).pairs radios groups) where
    made-same : made_groups come new these (ledger_of c).groups ≡ made_groups come new groups (ledger_of c).groups
    made-same = ap (λ (z : List ℕ). made_groups come new z (ledger_of c).groups) a ∙ made-sorted

    set_same : set_pairs state those these (ledger_of c).pairs ≡ set_pairs state radios groups (ledger_of c).pairs
    set_same = (λ i. set_pairs state (b i) (a i) (ledger_of c).pairs) ∙ set-sorted

    pub groups-grow : Grows (ledger_of c).groups these come
    groups-grow = record {
      fine = w.grows.fine;
      few = λ g x m e. w.grows.few g x (sym (mem-order g groups) ∙ ap (mem g) (sym a) ∙ m) e;
      rises = w.grows.rises;
      fits = w.grows.fits;
    }

    pub groups-taken : Takes ltb group_of group_row (made_groups come new these (ledger_of c).groups) c.groups (group_count c) n
    groups-taken =
        let s = w.sound in
        record {
          few = omega (arith, s.few_groups);
          within = omega (arith, s.groups, s.few_groups);
          plain = s.group_rows;
          rise = groups-rise c s;
          total = ap (λ (k : ℕ). group_count c + k) e ∙ sym (ap length made-same ∙ made-total);
          room = rw made-same (omega (arith, w.few_groups, s.groups));
        }

    pub pairs-taken : Takes below_pair pair_of pair_row (set_pairs state those these (ledger_of c).pairs) c.pairs (pair_count c) m
    pairs-taken =
        let s = w.sound in
        record {
          few = s.few_pairs;
          within = omega (arith, s.pairs, s.few_pairs);
          plain = s.pair_rows;
          rise = pairs-rise c s;
          total = ap (λ (k : ℕ). pair_count c + k) d ∙ sym (ap length set_same ∙ set-total);
          room = rw set_same (omega (arith, w.few_pairs, s.pairs));
        }

    pub carried-laid : (groups' pairs' : Rows) → groups' ≡ onto (map group_row (made_groups come new these (ledger_of c).groups)) c.groups
        → pairs' ≡ onto (map pair_row (set_pairs state those these (ledger_of c).pairs)) c.pairs
        → contents (set (set c.head 0 (group_count c + n)) 1 (pair_count c + m)) groups' pairs' ≡ laid (carried come new groups radios state c) c
    carried-laid groups' pairs' g p =
        let x : group_count c + n ≡ length (made_groups come new groups (ledger_of c).groups) = ap (λ (k : ℕ). group_count c + k) e ∙ sym made-total in
        let y : pair_count c + m ≡ length (set_pairs state radios groups (ledger_of c).pairs) = ap (λ (k : ℕ). pair_count c + k) d ∙ sym set-total in
        let h = set_both c.head (group_count c + n) (pair_count c + m) w.sound.head ∙ (λ i. onto (x i ∷ y i ∷ []) c.head) in
        let gs = g ∙ ap (λ (z : List (ℕ × Group)). onto (map group_row z) c.groups) made-same in
        let ps = p ∙ ap (λ (z : List (Pair × Mark)). onto (map pair_row z) c.pairs) set_same in
        λ i. contents (h i) (gs i) (ps i)
