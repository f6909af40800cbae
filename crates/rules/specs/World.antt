-- What stands at a point of the history, one group, one owner, one pair at a time; and what is counted over it.
use Rattle.std.specs.Prelude.{ℕ, Bool, false, List, length}
use Rattle.std.proofs.Math.Option.{Option, none}
use Rattle.rules.specs.Lists.{keep, present, rising, sum}
use Rattle.rules.specs.Parameters.{Parameters, no_parameters}
use Rattle.rules.specs.Mark.{Mark}

-- stands g: the group is there. owner g a: a owns it. mark g r: the pair's mark, none where there is no pair
pub record World : Type 0 where
  pub stands : ℕ → Bool
  pub owner : ℕ → ℕ → Bool
  pub parameters : ℕ → Parameters
  pub mark : ℕ → ℕ → Option Mark

abbrev pub nothing : World
nothing = record { stands = λ g. false; owner = λ g a. false; parameters = λ g. no_parameters; mark = λ g r. none }

-- ---- lists and totals, over the numbers named so far ----

-- the radios of a group, rising
abbrev pub members_in : World → List ℕ → ℕ → List ℕ
members_in w radios g = keep (λ r. present (w.mark g r)) (rising radios)

abbrev pub owners_in : World → List ℕ → ℕ → List ℕ
owners_in w owners g = keep (w.owner g) (rising owners)

abbrev pub group_total : World → List ℕ → ℕ
group_total w groups = length (keep w.stands (rising groups))

abbrev pub pair_total : World → List ℕ → List ℕ → ℕ
pair_total w groups radios = sum (λ g. length (members_in w radios g)) (rising groups)

-- what the refusals and the outgoing orders ask besides: each group's members, rising; how many owners each group has after the order, and
-- the totals after it
pub record Tally : Type 0 where
  pub members : ℕ → List ℕ
  pub owners : ℕ → ℕ
  pub groups : ℕ
  pub pairs : ℕ
