-- Document 02, P10: "Lay each group's pairs in one unbroken stretch, radios rising, stretches in the order of the group numbers."
use Rattle.std.specs.Prelude.{ℕ, ◌≡◌, List, map, eqb}
use Rattle.std.proofs.Math.Option.{some}
use Rattle.rules.specs.Lists.{keep, join, Rising}
use Rattle.rules.specs.Mark.{Mark}
use Rattle.rules.specs.Ledger.{Group, Pair, Ledger, group}

-- the pairs of a group, as they stand
abbrev pub stretch : ℕ → List (Pair × Mark) → List (Pair × Mark)
stretch g l = keep (λ (e : Pair × Mark). eqb g e.0.0) l

abbrev pub group_numbers : Ledger → List ℕ
group_numbers l = map (λ (e : ℕ × Group). e.0) l.groups

pub record InStretches (l : Ledger) : Type 0 where
  -- the groups stand by rising numbers
  pub groups : Rising (group_numbers l)
  -- the groups' stretches, one behind the other, are all the pairs
  pub unbroken : join (λ g. stretch g l.pairs) (group_numbers l) ≡ l.pairs
  -- in each the radios rise
  pub radios : (g : ℕ) → Rising (map (λ (e : Pair × Mark). e.0.1) (stretch g l.pairs))
  -- and so do the owners of a group
  pub owners : (g : ℕ) (x : Group) → group l g ≡ some x → Rising x.owners
