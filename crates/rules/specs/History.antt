-- What a history means, by the rules of documents 01 and 02 alone: what stands after it, what is refused and what is replied. No ledger is kept.
use Rattle.std.specs.Prelude.{ℕ, Bool, cond, List, [], ◌++◌, length}
use Rattle.std.proofs.Math.Option.{Option}
use Rattle.refusal.specs.declared.Refusal.{Refusal}
use Rattle.rules.specs.Number.{Number, key}
use Rattle.rules.specs.Mark.{Mark}
use Rattle.rules.specs.Order.{Step}
use Rattle.rules.specs.World.{World, nothing, members_in, owners_in, group_total, pair_total, Tally}
use Rattle.rules.specs.Effect.{Effect, effect}
use Rattle.rules.specs.Change.{after}
use Rattle.rules.specs.Outgoing.{Outgoing, outgoing}
use Rattle.rules.specs.Refusals.{accepted, refusal}
use Rattle.rules.specs.Replies.{Listing, listing, Showing, showing}

infixl 20 ◌then◌
-- any run of steps from empty, refused ones among them
pub data History : Type 0 where
  start : History
  ◌then◌ : History → Step → History

-- ---- the numbers named, over which members and totals are counted ----

pub record Named : Type 0 where
  pub groups : List ℕ
  pub radios : List ℕ
  pub owners : List ℕ

abbrev pub named : Effect → Named → Named
named e n = record { groups = e.makes ++ n.groups; radios = e.assigns ++ n.radios; owners = e.owners.come ++ n.owners }

abbrev pub tally_in : World → Named → Effect → Tally
tally_in w n e = record {
  members = members_in w n.radios;
  owners = λ g. length (owners_in (after w e) n.owners g);
  groups = group_total (after w e) n.groups;
  pairs = pair_total (after w e) n.groups n.radios;
}

-- ---- what stands ----

-- n: with the numbers that the step itself names
abbrev pub judge : World → Named → Step → Option Refusal
judge w n s = refusal w (tally_in w n (effect w s)) s

-- an accepted step has its effect, a refused one has none
abbrev pub taken : World → Named → Step → World
taken w n s = cond (accepted (judge w n s)) (after w (effect w s)) w

-- what stands after a history, and the numbers named in it
pub record Past : Type 0 where
  pub world : World
  pub named : Named

abbrev pub onward : Past → Step → Past
onward p s =
    let n = named (effect p.world s) p.named in
    record { world = taken p.world n s; named = n }

abbrev pub past : History → Past
past start = record { world = nothing; named = record { groups = []; radios = []; owners = [] } }
past (h then s) = onward (past h) s

abbrev pub world : History → World
world h = (past h).world

abbrev pub named_in : History → Named
named_in h = (past h).named

abbrev pub stands : History → ℕ → Bool
stands h = (world h).stands

abbrev pub owner : History → ℕ → ℕ → Bool
owner h = (world h).owner

abbrev pub mark : History → ℕ → ℕ → Option Mark
mark h = (world h).mark

-- the radios of a group, rising
abbrev pub radios_in : History → ℕ → List ℕ
radios_in h = members_in (world h) (named_in h).radios

-- ---- what is replied after the history ----

-- the refusal of a further step; none where it is accepted
abbrev pub refusal_in : History → Step → Option Refusal
refusal_in h s = judge (world h) (named_in (h then s)) s

-- what goes out for it: nothing on a refusal
abbrev pub sent_in : History → Step → List Outgoing
sent_in h s = cond (accepted (refusal_in h s))
    (outgoing (world h) (tally_in (world h) (named_in (h then s)) (effect (world h) s)) s)
    []

abbrev pub list_in : History → Number → Number → ℕ → Listing
list_in h asker g room = listing (world h) asker g (radios_in h (key g)) room

abbrev pub show_in : History → Number → Number → Showing
show_in h asker g = showing (world h) asker g (owners_in (world h) (named_in h).owners (key g))
