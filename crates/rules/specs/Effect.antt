-- What an accepted step does. It is stated once: Change says what it makes of what stands, Steps what it makes of the lists.
use Rattle.std.specs.Prelude.{ℕ, Bool, false, cond, ◌&&◌, List, [], ◌∷◌, eqb}
use Rattle.std.proofs.Math.Option.{Option, none, some}
use Rattle.rules.specs.Lists.{mem}
use Rattle.rules.specs.Number.{key}
use Rattle.rules.specs.Parameters.{Parameters, no_parameters}
use Rattle.rules.specs.Mark.{Mark, none_wanted, leaving, fresh, begun, ticked, answered}
use Rattle.rules.specs.Owners.{OwnerChange, added, set, kept}
use Rattle.rules.specs.Order.{Delete, Step, define, delete, answer, handover, tick, define_groups, define_radios, define_owners}
use Rattle.rules.specs.Order.{delete_groups, leaves, awaits, handover_group, handover_owners}
use Rattle.rules.specs.World.{World}

pub record Effect : Type 0 where
  -- the groups made where they are missing; their owners become these, and they take the parameters
  pub makes : List ℕ
  pub owners : OwnerChange
  pub parameters : Parameters
  -- the radios that are set in each of those groups, and how
  pub assigns : List ℕ
  pub begins : Mark
  -- the groups that go
  pub removes : ℕ → Bool
  -- what becomes of the mark of a group and a radio that are a pair; none takes the pair away
  pub turns : ℕ → ℕ → Mark → Option Mark

-- no group goes and no pair turns: groups are made or changed, and radios set in them
abbrev pub on_groups : List ℕ → OwnerChange → Parameters → List ℕ → Mark → Effect
on_groups groups owners parameters radios mark = record {
  makes = groups;
  owners = owners;
  parameters = parameters;
  assigns = radios;
  begins = mark;
  removes = λ g. false;
  turns = λ g r m. some m;
}

-- no group is made or assigned: groups go, and pairs turn
abbrev pub only : (ℕ → Bool) → (ℕ → ℕ → Mark → Option Mark) → Effect
only removes turns = record {
  makes = [];
  owners = kept;
  parameters = no_parameters;
  assigns = [];
  begins = fresh none_wanted;
  removes = removes;
  turns = turns;
}

-- what a delete makes of a pair whose radio is to leave: it goes, or "deassigned pairs remain in state 4 (leaving) .., from 0 ticks"
abbrev pub parted : Delete → Option Mark
parted o = cond (awaits o) (some (fresh leaving)) none

-- of a step on what stands before it
abbrev pub effect : World → Step → Effect
effect w (define o room) = on_groups (define_groups o) (added (define_owners o)) o.parameters (define_radios o) (begun o.acknowledgement)
effect w (delete o room) = only
    (λ g. o.delete && mem g (delete_groups o))
    (λ g r m. cond (mem g (delete_groups o) && leaves o r) (parted o) (some m))
effect w (answer a) = only
    (λ g. false)
    (λ g r m. cond (eqb g (key a.group) && eqb r (key a.radio)) (answered a.kind a.result) (some m))
effect w (handover o) = on_groups (handover_group o ∷ []) (set (handover_owners o)) no_parameters [] (fresh none_wanted)
effect w tick = only
    (λ g. false)
    (λ g r m. some (ticked m))
