-- Laws of the orders of a define: one group's after the other's stand in the lent room.
use mathlib.Core.Path.{◌≡◌, sym, ap, ◌∙◌}
use mathlib.Core.List.{List, map}
use Prim.Native.Nat.{ℕ, ◌+◌, ◌≤◌, ◌<◌}
use native.Mathlib.Omega.{arith}
use lib.ListN.{length, get_or, take, length-map, length-append}
use lib.Seq.{paste}
use Rattle.rules.specs.Lists.{join}
use Rattle.rules.specs.Outgoing.{Outgoing, assign, orders}
use Rattle.order.proofs.Walks.{onto-length}
use Rattle.store.specs.Lists.{Fills}
use Rattle.store.specs.Storage.{Rows}
use Rattle.replies.specs.Sending.{order_row}
use Rattle.sending.specs.Pushed.{pushed}
use Rattle.sending.proofs.Pushing.{pushed-fits, length-rows, join-turn, join_front, send-turn}
use Rattle.defining.specs.Sent.{assign_orders}

module _ (rs gs : List ℕ) (out₀ out : Rows) (i at : ℕ) (w : Fills order_row (assign_orders rs (take i gs)) out₀ out at)
    (fits : length (assign_orders rs gs) ≤ length out₀) where
  abbrev each : ℕ → List Outgoing
  each g = orders assign g rs

  pub assign-length : length out ≡ length out₀
  assign-length =
      ap length w.rows
      ∙ onto-length (map order_row (join each (take i gs))) out₀ (rw (length-map (join each (take i gs)) order_row) (omega (arith, join_front each gs i)))

  pub assign-room : i < length gs → at + length rs ≤ length out
  assign-room h =
      let n : length (each (get_or gs i 0)) ≡ length rs = length-map rs (λ (r : ℕ). record { kind = assign; radio = r; group = get_or gs i 0 }) in
      let t = ap length (join-turn each gs i h) ∙ length-append (join each (take i gs)) (each (get_or gs i 0)) in
      omega (arith, n, t, join_front each gs (i + 1), w.counts, assign-length)

  -- a turn
  pub assign-next : i < length gs → (g width : ℕ) → g ≡ get_or gs i 0 → width ≡ length rs → (out' : Rows)
      → out' ≡ pushed out at (map order_row (orders assign g rs)) → Fills order_row (assign_orders rs (take (i + 1) gs)) out₀ out' (at + width)
  assign-next h g width e q out' d =
      let rows = map order_row (each (get_or gs i 0)) in
      let n : length rs ≡ length (each (get_or gs i 0)) = sym (length-map rs (λ (r : ℕ). record { kind = assign; radio = r; group = get_or gs i 0 })) in
      let m = length-rows assign (get_or gs i 0) rs in
      let s = send-turn each gs out out' out₀ i at (length rs) h w.counts n w.rows
      (d ∙ ap (λ (x : ℕ). pushed out at (map order_row (each x))) e ∙ pushed-fits out at rows (omega (arith, m, assign-room h)) ∙ ap (paste out at rows) m) in
      record { counts = ap (λ (k : ℕ). at + k) q ∙ s.0; rows = s.1 }
