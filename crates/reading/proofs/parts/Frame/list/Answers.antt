-- `Frame::list` meets its contract: the count, then the items.
-- Assumes nothing.
use Prim.Native.Nat.{◌+◌}
use mathlib.Core.Path.{subst}
use mathlib.Core.List.{[], ◌∷◌}
use Rattle.layout.specs.Shape.{rows_of, repeated, times}
use Rattle.table.specs.Fields.{row_for}
use Rattle.reading.specs.Reads.{bits_in, Fills}
use Rattle.reading.proofs.FillLaws.{left_by, fills-then, fills-stop}
use Rattle.reading.proofs.parts.Frame.list.Goals as goal

pub returns-in_err-next : goal.returns-in_err-next
unfolding rows_of
returns-in_err-next c =
    let a = c.args in
    let first = subst (λ f. Fills (row_for f [] ∷ []) (bits_in a.self) a.at a.into.now c.field.new.into c.field.result) c.count_field.ensures c.field.ensures in
    fills-stop first (repeated a.items a.into.now.place (a.into.now.place + 1) 0 (times a.items)) c.in_err-next.was
    (left_by c.from_residual.result c.from_residual.ensures.1)

pub returns : goal.returns
unfolding rows_of
returns c =
    let a = c.args in
    let first = subst (λ f. Fills (row_for f [] ∷ []) (bits_in a.self) a.at a.into.now c.field.new.into c.field.result) c.count_field.ensures c.field.ensures in
    fills-then first c.in_ok-next.was c.items.ensures
