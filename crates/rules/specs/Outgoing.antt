-- The orders that go out to the radios.
use Rattle.std.specs.Prelude.{ℕ, cond, List, [], map}
use Rattle.rules.specs.Lists.{keep, present, join}
use Rattle.rules.specs.Order.{Delete, Step, define, delete, answer, handover, tick, define_groups, define_radios, delete_groups, delete_radios}
use Rattle.rules.specs.World.{World, Tally}

-- "An outgoing order is its kind, radio and group"
pub record Outgoing : Type 0 where
  pub kind : ℕ
  pub radio : ℕ
  pub group : ℕ

-- the kinds
abbrev pub assign : ℕ
assign = 0

abbrev pub deassign : ℕ
deassign = 1

-- an order of this kind to each radio, for group g
abbrev pub orders : ℕ → ℕ → List ℕ → List Outgoing
orders kind g radios = map (λ (r : ℕ). record { kind = kind; radio = r; group = g }) radios

-- the radios that a delete deassigns in group g: "listed radios that are members, or all members", these rising
abbrev pub deassigned : World → Tally → Delete → ℕ → List ℕ
deassigned w t o g = cond o.deassign
    (cond (present o.radios) (keep (λ r. present (w.mark g r)) (delete_radios o)) (t.members g))
    []

-- "groups in list order, then radios in list order"
abbrev pub outgoing : World → Tally → Step → List Outgoing
outgoing w t (define o room) = join (λ g. orders assign g (define_radios o)) (define_groups o)
outgoing w t (delete o room) = join (λ g. orders deassign g (deassigned w t o g)) (delete_groups o)
outgoing w t (answer a) = []
outgoing w t (handover o) = []
outgoing w t tick = []
