-- The radios that a delete deassigns, and what goes out to them, in plain lists.
use Rattle.std.specs.Prelude.{ℕ, ◌≤◌, ◌≡◌, Bool, true, cond, not, List, [], map, length, Option, Some, None}
use Rattle.std.proofs.Math.Option.{none, some}
use Rattle.rules.specs.Lists.{all, keep, present, mem, join, rises}
use Rattle.rules.specs.Entries.{find, alter}
use Rattle.rules.specs.Mark.{Mark}
use Rattle.rules.specs.Number.{wide_key}
use Rattle.rules.specs.Refusals.{max_pairs}
use Rattle.rules.specs.ByNumber.{lower, below_pair}
use Rattle.rules.specs.Outgoing as outgoing
use Rattle.rules.specs.Ledger.{Group, Pair, same_pair, radios_of}
use Rattle.order.specs.Walks.{left}
use Rattle.store.specs.Storage.{Rows, pair_of}
use Rattle.replies.specs.Sending.{order_row}

-- the radios of a group among those listed
abbrev pub among : List (Pair × Mark) → ℕ → List ℕ → List ℕ
among pairs g radios = keep (λ r. present (find same_pair pairs (g, r))) radios

-- "listed radios that are members, or all members if none are listed": these are the radios of the group's stretch
abbrev pub leavers : Option (List ℕ) → List (Pair × Mark) → ℕ → List ℕ
leavers None pairs g = radios_of g pairs
leavers (Some radios) pairs g = among pairs g radios

abbrev pub deassigned : Bool → Option (List ℕ) → List (Pair × Mark) → ℕ → List ℕ
deassigned deassign radios pairs g = cond deassign (leavers radios pairs g) []

-- deassign orders to them, groups in list order
abbrev pub deassign_orders : Bool → Option (List ℕ) → List (Pair × Mark) → List ℕ → List outgoing.Outgoing
deassign_orders deassign radios pairs groups =
    join (λ g. outgoing.orders outgoing.deassign g (deassigned deassign radios pairs g)) groups

-- the groups that stay where these go
abbrev pub remaining : List ℕ → List (ℕ × Group) → List (ℕ × Group)
remaining gone groups = alter (λ k x. cond (mem k gone) none (some x)) groups

-- ---- the pairs that a delete goes by ----

-- rows of pairs that rise, radios in range
pub record Stretches (rows : Rows) : Type 0 where
  pub few : length rows ≤ max_pairs
  pub rise : rises (lower below_pair) (map pair_of rows) ≡ true
  pub narrow : all (λ (e : Pair × Mark). not (wide_key e.0.1)) (map pair_of rows) ≡ true

-- the orders to these radios of a group, as rows
abbrev pub deassign_rows : ℕ → List ℕ → Rows
deassign_rows g radios = map order_row (outgoing.orders outgoing.deassign g radios)

-- the radio of a row, and those of a stretch
abbrev pub radio_in : List ℕ → ℕ
radio_in row = (pair_of row).0.1

abbrev pub stretch_radios : ℕ → ℕ → Rows → List ℕ
stretch_radios from to rows = map radio_in (left from to rows)
