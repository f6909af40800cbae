-- What becomes of each pair in a tick and in a delete.
use Rattle.std.specs.Prelude.{ℕ, Bool, true, cond, ◌&&◌, List, Some, None}
use Rattle.std.specs.Prelude as std
use Rattle.std.proofs.Math.Option.{Option, none, some}
use Rattle.rules.specs.Lists.{mem}
use Rattle.rules.specs.Mark.{Mark, leaving, fresh, ticked}
use Rattle.rules.specs.Ledger.{Pair}
use Rattle.store.specs.Storage.{pair_row}
use Rattle.turning.specs.declared.Turn.{Turn}
use Rattle.turning.specs.declared.Turn.TheVariants.{Tick, Remove, Leave}

-- whether a radio is listed, or none are
abbrev pub listed : std.Option (List ℕ) → ℕ → Bool
listed None r = true
listed (Some radios) r = mem r radios

-- whether an order names the pair: its group and, where radios are listed, its radio
abbrev pub named : List ℕ → std.Option (List ℕ) → Pair → Bool
named groups radios k = mem k.0 groups && listed radios k.1

-- the pair's mark then, where it stays, by whether it is named
abbrev pub turned : Turn → Bool → Mark → Option Mark
turned Tick names m = some (ticked m)
turned Remove names m = cond names none (some m)
turned Leave names m = some (cond names (fresh leaving) m)

abbrev pub turn_of : Turn → List ℕ → std.Option (List ℕ) → Pair → Mark → Option Mark
turn_of t groups radios k m = turned t (named groups radios k) m

-- and its row
abbrev pub row_of : Pair → Option Mark → std.Option (List ℕ)
row_of k none = None
row_of k (some m) = Some (pair_row (k, m))
