-- Document 02, P3: "A neighbour's radio had the SSI of one of ours and was listed in our group." Two radios with one SSI and two extensions.
use Rattle.std.specs.Prelude.{ℕ, ◌≡◌, true, false, [], ◌∷◌}
use Rattle.rules.specs.Lists.{present}
use Rattle.rules.specs.Number.{Number, key, wide_number}
use Rattle.rules.specs.Order.{Define, Delete, Answer, Step, define, delete, answer, define_radios, delete_radios}
use Rattle.rules.specs.Ledger.{same_pair}
use Rattle.rules.specs.History.{History, ◌then◌, mark}

pub record Visitor (ours theirs : Number) : Type 0 where
  pub narrow_ours : wide_number ours ≡ false
  pub narrow_theirs : wide_number theirs ≡ false
  pub ssi : ours.ssi ≡ theirs.ssi
  pub extension : ours.extension ≡ theirs.extension → ⊥

-- an order about this radio and no other: its answer, its deassignment, its assignment
pub data About (radio : Number) : Step → Type 0 where
  answers : (a : Answer) → a.radio ≡ radio → About radio (answer a)
  deassigns : (o : Delete) (room : ℕ) → o.delete ≡ false → present o.radios ≡ true → delete_radios o ≡ key radio ∷ [] → About radio (delete o room)
  assigns : (o : Define) (room : ℕ) → define_radios o ≡ key radio ∷ [] → About radio (define o room)

-- they are two pairs in any group, and an order about the one leaves the other's pair as it is, whatever went before
pub record Apart (ours theirs : Number) : Type 0 where
  pub pairs : (g : ℕ) → same_pair (g, key ours) (g, key theirs) ≡ false
  pub leaves : (h : History) (s : Step) → About theirs s → (g : ℕ) → mark (h then s) g (key ours) ≡ mark h g (key ours)
