-- The lent storage, and the ledger that its contents say. Only the placing is ours; which word says what is in rows/specs/Layout.antt.
-- Rows past the counts say nothing; words of a group's row past its counts are 0.
use Rattle.std.specs.Prelude.{ℕ, zero, suc, ◌-◌, List, [], ◌∷◌, ◌++◌, map, get_or, length, take, drop, replicate}
use Rattle.std.proofs.Math.Option.{Option, none, some}
use Rattle.rules.specs.Mark.{Mark}
use Rattle.rules.specs.Ledger.{Group, Pair, Ledger}
use Rattle.rules.specs.Placing.{Placing}
use Rattle.rules.specs.ByNumber.{by_number}
use Rattle.rules.specs.Written.{max_owners}
use Rattle.rows.specs.Layout as row
use Rattle.order.specs.Walks.{onto}
use Rattle.order.specs.Row.{held_of, letters_of}

-- rows of words
abbrev pub Rows : Type 0
Rows = List (List ℕ)

pub record Contents : Type 0 where
  pub head : List ℕ
  pub groups : Rows
  pub pairs : Rows

abbrev pub contents : List ℕ → Rows → Rows → Contents
contents head groups pairs = record { head = head; groups = groups; pairs = pairs }

-- ---- a pair's row ----

abbrev pub pair_of : List ℕ → Pair × Mark
pair_of words = (
  (get_or words row.pair_group 0, get_or words row.pair_radio 0),
  record { state = get_or words row.pair_state 0; ticks = get_or words row.pair_ticks 0 },
)

abbrev pub pair_row : Pair × Mark → List ℕ
pair_row e = e.0.0 ∷ e.0.1 ∷ e.1.state ∷ e.1.ticks ∷ []

abbrev pub pairs_of : ℕ → Rows → List (Pair × Mark)
pairs_of n rows = map pair_of (take n rows)

-- ---- a group's row ----

abbrev pub value_of : ℕ → Option ℕ
value_of zero = none
value_of (suc v) = some v

-- a list in n places behind its length
abbrev pub counted : ℕ → List ℕ → List ℕ
counted n l = length l ∷ (l ++ replicate (n - length l) 0)

abbrev pub name_of : ℕ → List ℕ → Option (List ℕ)
name_of zero letters = none
name_of (suc n) letters = some (take (suc n) letters)

-- the words for the letters, and those for the owners
abbrev pub letters : List ℕ → List ℕ
letters words = take row.max_letters (drop row.first_letter words)

abbrev pub owners : List ℕ → List ℕ
owners words = drop row.first_owner words

unfoldable pub group_of : List ℕ → ℕ × Group
group_of words = (
  get_or words row.key_word 0,
  record {
    owners = take (get_or words row.owner_count 0) (owners words);
    parameters = record {
      set_reference = value_of (get_or words row.reference_word 0);
      acknowledged_call = value_of (get_or words row.call_word 0);
      broadcast = value_of (get_or words row.broadcast_word 0);
      name = name_of (get_or words row.name_length 0) (letters words);
      class = value_of (get_or words row.class_word 0);
      lifetime = value_of (get_or words row.lifetime_word 0);
      temporary = value_of (get_or words row.temporary_word 0);
    };
  },
)

unfoldable pub group_row : ℕ × Group → List ℕ
group_row e = let p = e.1.parameters in
    e.0 ∷ held_of p.set_reference ∷ held_of p.acknowledged_call ∷ held_of p.broadcast
    ∷ held_of p.class ∷ held_of p.lifetime ∷ held_of p.temporary
    ∷ (counted row.max_letters (letters_of p.name) ++ counted max_owners e.1.owners)

abbrev pub groups_of : ℕ → Rows → List (ℕ × Group)
groups_of n rows = map group_of (take n rows)

-- ---- the ledger ----

-- our placing: groups, owners and pairs by rising numbers, so that each group's pairs are one stretch
abbrev pub placing : Placing
placing = by_number

abbrev pub group_count : Contents → ℕ
group_count c = get_or c.head row.group_count 0

abbrev pub pair_count : Contents → ℕ
pair_count c = get_or c.head row.pair_count 0

abbrev pub ledger_of : Contents → Ledger
ledger_of c = record { groups = groups_of (group_count c) c.groups; pairs = pairs_of (pair_count c) c.pairs }

-- the contents with a ledger laid over them: rows past the counts stay
abbrev pub laid : Ledger → Contents → Contents
laid l c = record {
  head = onto (length l.groups ∷ length l.pairs ∷ []) c.head;
  groups = onto (map group_row l.groups) c.groups;
  pairs = onto (map pair_row l.pairs) c.pairs;
}
