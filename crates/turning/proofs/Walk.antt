-- A turn of the walk over the pairs: the pair at hand stays, and its row is written behind those that stayed, or it goes.
use mathlib.Core.Path.{◌≡◌}
use mathlib.Core.List.{List, []}
use mathlib.Core.Option.{Option, none, some}
use Prim.Native.Nat.{ℕ, ◌+◌, ◌≤◌, ◌<◌}
use native.Mathlib.Omega.{arith}
use lib.ListN.{length, get_or, set}
use Rattle.std.specs.Prelude.{Some, None}
use Rattle.rules.specs.Entries.{alter}
use Rattle.rules.specs.Mark.{Mark}
use Rattle.rules.specs.Ledger.{Pair}
use Rattle.store.specs.Lists.{Fills}
use Rattle.store.specs.Storage.{Rows, pair_of, pair_row, pairs_of}
use Rattle.store.proofs.Rows.{alter-in, alter-out}
use Rattle.turning.specs.Turns.{row_of}

module _ (f : Pair → Mark → Option Mark) (rows was : Rows) (i k : ℕ) (h : i < length rows) (s : k ≤ i)
    (w : Fills pair_row (alter f (pairs_of i rows)) rows was k) where
  -- the pair at hand
  abbrev pair : Pair × Mark
  pair = pair_of (get_or was i [])

  pub pair-stays : (o : Option Mark) → f pair.0 pair.1 ≡ o → (row : List ℕ) → row_of pair.0 o ≡ Some row
      → Fills pair_row (alter f (pairs_of (i + 1) rows)) rows (set was k row) (k + 1)
  pair-stays none q row e = let z : ◌≡◌ {A = ℕ} 0 1 = cc in absurd (omega arith)
  pair-stays (some m) q row e =
      let r : row ≡ pair_row (pair.0, m) = cc in
      let t = alter-in f pair_of pair_row rows was i k h s w.counts w.rows m row q r in
      record { counts = t.0; rows = t.1 }

  pub pair-goes : (o : Option Mark) → f pair.0 pair.1 ≡ o → row_of pair.0 o ≡ None
      → Fills pair_row (alter f (pairs_of (i + 1) rows)) rows was k
  pair-goes none q e =
      let t = alter-out f pair_of pair_row rows was i k h s w.counts w.rows q in
      record { counts = t.0; rows = t.1 }
  pair-goes (some m) q e = let z : ◌≡◌ {A = ℕ} 0 1 = cc in absurd (omega arith)
