-- What a step makes of the abstract ledger, under any placing.
use Rattle.std.specs.Prelude.{ℕ, cond, List, [], map, length}
use Rattle.std.proofs.Math.Option.{Option, none, some}
use Rattle.refusal.specs.declared.Refusal.{Refusal}
use Rattle.rules.specs.Lists.{join}
use Rattle.rules.specs.Entries.{alter}
use Rattle.rules.specs.Parameters.{Parameters, replaced}
use Rattle.rules.specs.Owners.{OwnerChange, owners_from}
use Rattle.rules.specs.Order.{Step}
use Rattle.rules.specs.World.{Tally}
use Rattle.rules.specs.Effect.{Effect, effect}
use Rattle.rules.specs.Outgoing.{Outgoing, outgoing}
use Rattle.rules.specs.Refusals.{accepted, refusal}
use Rattle.rules.specs.Ledger.{Group, Pair, Ledger, owners_of, parameters_of, group, view, members, owners}
use Rattle.rules.specs.Placing.{puts, Placing}

-- ---- what an accepted step does ----

-- a group that the step names, of the group that was there: its owners as the placing enters them
abbrev pub owners_after : Placing → OwnerChange → Option Group → List ℕ
owners_after p c x = p.owners.entered (owners_from c (owners_of x))

abbrev pub group_after : Placing → OwnerChange → Parameters → Option Group → Group
group_after p c new x = record { owners = owners_after p c x; parameters = replaced new (parameters_of x) }

-- the group of a number, of what stands
abbrev pub group_made : Placing → Ledger → Effect → ℕ → Group
group_made p l e g = group_after p e.owners e.parameters (group l g)

-- every group with every radio, groups first
abbrev pub product : List ℕ → List ℕ → List Pair
product groups radios = join (λ g. map (λ (r : ℕ). (g, r)) radios) groups

-- groups go and pairs turn where they stand; what is made and assigned is put by the placing
abbrev pub apply : Placing → Ledger → Effect → Ledger
apply p l e = record {
  groups = puts p.groups (alter (λ g x. cond (e.removes g) none (some x)) l.groups) e.makes (group_made p l e);
  pairs = puts p.pairs (alter (λ (k : Pair). e.turns k.0 k.1) l.pairs) (product e.makes e.assigns) (λ k. e.begins);
}

-- ---- a step, for any arguments ----

abbrev pub tally : Placing → Ledger → Effect → Tally
tally p l e =
    let l' = apply p l e in
    record { members = members l; owners = λ g. length (owners l' g); groups = length l'.groups; pairs = length l'.pairs }

-- none where the step is accepted
abbrev pub refused : Placing → Ledger → Step → Option Refusal
refused p l s = refusal (view l) (tally p l (effect (view l) s)) s

-- a refusal changes nothing
abbrev pub step : Placing → Ledger → Step → Ledger
step p l s = cond (accepted (refused p l s)) (apply p l (effect (view l) s)) l

-- what goes out: nothing on a refusal
abbrev pub sent : Placing → Ledger → Step → List Outgoing
sent p l s = cond (accepted (refused p l s)) (outgoing (view l) (tally p l (effect (view l) s)) s) []
