-- The abstract ledger: groups and pairs, what they say, and its replies to a list and to a show. How entries stand is the placing's.
use Rattle.std.specs.Prelude.{ℕ, Bool, cond, ◌&&◌, List, [], ◌∷◌, eqb}
use Rattle.std.proofs.Math.Option.{Option, none, some}
use Rattle.rules.specs.Lists.{present, mem, rising}
use Rattle.rules.specs.Entries.{find}
use Rattle.rules.specs.Number.{Number, key}
use Rattle.rules.specs.Parameters.{Parameters, no_parameters}
use Rattle.rules.specs.Mark.{Mark}
use Rattle.rules.specs.World.{World}
use Rattle.rules.specs.Replies.{Listing, listing, Showing, showing}

pub record Group : Type 0 where
  pub owners : List ℕ
  pub parameters : Parameters

-- a pair's key: group, radio
abbrev pub Pair : Type 0
Pair = ℕ × ℕ

abbrev pub same_pair : Pair → Pair → Bool
same_pair a b = eqb a.0 b.0 && eqb a.1 b.1

pub record Ledger : Type 0 where
  pub groups : List (ℕ × Group)
  pub pairs : List (Pair × Mark)

abbrev pub empty : Ledger
empty = record { groups = []; pairs = [] }

-- ---- what the ledger says ----

abbrev pub owners_of : Option Group → List ℕ
owners_of none = []
owners_of (some x) = x.owners

abbrev pub parameters_of : Option Group → Parameters
parameters_of none = no_parameters
parameters_of (some x) = x.parameters

abbrev pub group : Ledger → ℕ → Option Group
group l g = find eqb l.groups g

abbrev pub view : Ledger → World
view l = record {
  stands = λ g. present (group l g);
  owner = λ g a. mem a (owners_of (group l g));
  parameters = λ g. parameters_of (group l g);
  mark = λ g r. find same_pair l.pairs (g, r);
}

-- the radios of group g, in the order of the pairs
abbrev pub radios_of : ℕ → List (Pair × Mark) → List ℕ
radios_of g [] = []
radios_of g (e ∷ l) = cond (eqb g e.0.0) (e.0.1 ∷ radios_of g l) (radios_of g l)

abbrev pub members : Ledger → ℕ → List ℕ
members l g = rising (radios_of g l.pairs)

-- a group's owners, each once, rising
abbrev pub owners : Ledger → ℕ → List ℕ
owners l g = rising (owners_of (group l g))

-- ---- the orders that change nothing, for any arguments ----

abbrev pub list : Ledger → Number → Number → ℕ → Listing
list l asker g room = listing (view l) asker g (members l (key g)) room

abbrev pub show : Ledger → Number → Number → Showing
show l asker g = showing (view l) asker g (owners l (key g))
