-- The written form, behind refusal 18: "every count within its room and every value within its range here, each group with
-- an owner, no group, pair or owner of a group twice, each pair's group there".
use Rattle.std.specs.Prelude.{ℕ, Bool, cond, not, ◌&&◌, List, eqb, ltb, leb, length}
use Rattle.rules.specs.Lists.{all, present}
use Rattle.rules.specs.Number.{wide_key}
use Rattle.rules.specs.Parameters.{bad_parameters}
use Rattle.rules.specs.Mark.{Mark, timed, leaving_unheard, T1}
pub use Rattle.rules.specs.Owners.{max_owners}
use Rattle.rules.specs.Refusals.{max_groups, max_pairs}
use Rattle.rules.specs.Ledger.{Group, Pair, Ledger, group}
use Rattle.rules.specs.Placing.{Placing}

-- no owner of a group twice: by the placing's form
abbrev pub good_owners : Placing → List ℕ → Bool
good_owners p owners = ltb 0 (length owners) && (leb (length owners) max_owners && (p.owners.form owners && all (λ a. not (wide_key a)) owners))

abbrev pub good_group : Placing → ℕ × Group → Bool
good_group p e = not (wide_key e.0) && (good_owners p e.1.owners && not (bad_parameters e.1.parameters))

-- "states 0 to 6, ticks 0 to 29 in 1 and 4, else 0"
abbrev pub good_mark : Mark → Bool
good_mark m = cond (timed m.state) (ltb m.ticks T1) (leb m.state leaving_unheard && eqb m.ticks 0)

abbrev pub good_pair : Ledger → Pair × Mark → Bool
good_pair l e = not (wide_key e.0.1) && (good_mark e.1 && present (group l e.0.0))

-- no group and no pair twice: by the placing's form, too
abbrev pub written : Placing → Ledger → Bool
written p l =
    leb (length l.groups) max_groups && (leb (length l.pairs) max_pairs
    && (p.groups.form l.groups && (p.pairs.form l.pairs
    && (all (good_group p) l.groups && all (good_pair l) l.pairs))))
