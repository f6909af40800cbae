-- `order::numbers_at` meets its contract.
use Rattle.std.proofs.Common.{ℕ, ◌+◌, ◌*◌, rules}
use Rattle.rows.specs.Layout.{max_listed}
use Rattle.order.specs.Recorded.{identity_in}
use Rattle.order.proofs.ListLaws.{nobody}
use Rattle.order.proofs.Recorded.{identities-made}
use Rattle.order.proofs.Words.{made-at}
use Rattle.order.proofs.record.numbers_at.Goals as goal

pub returns : goal.returns
returns c =
    let a = c.args in
    let made = c.from_fn.ensures.items in
    let each = made-at _ _ (λ (i : ℕ). identity_in a.place (a.k + 1 + 4 * i)) c.from_fn.result nobody (λ i y q call. search rules) max_listed made in
    let identity = identities-made a.place max_listed (a.k + 1) c.from_fn.result nobody made.long each in
    λ i. record { code = c.one_down.ensures i; identity = identity i }
