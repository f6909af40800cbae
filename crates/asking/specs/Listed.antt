-- A group's pairs as a list has them.
use Rattle.std.specs.Prelude.{◌≡◌, ℕ, ◌<◌, [], length, get_or}
use Rattle.rules.specs.Mark.{Mark}
use Rattle.rules.specs.Replies.{Entry}
use Rattle.rules.specs.Ledger.{Pair}
use Rattle.store.specs.Storage.{Rows, pair_of}

-- a pair's radio, and its state
abbrev pub listed : Pair × Mark → Entry
listed e = (e.0.1, e.1.state)

-- each row is a pair of the group
abbrev pub OfGroup : ℕ → Rows → Type 0
OfGroup g rows = (i : ℕ) → i < length rows → (pair_of (get_or rows i [])).0.0 ≡ g
