-- What `order_row` promises is one row, and what `push_orders` promises leaves one room.
use mathlib.Core.Path.{◌≡◌, sym, ◌∙◌}
use contract.Lifetimes.{Lfts}
use borrow.Fn.Kinds.{Dens, res_t, ended_of}
use denote.Triple.Clauses.{AtExit}
use Rattle.sending.proofs.order_row.Kinds as order-row-kinds
use Rattle.sending.proofs.order_row.Reads as order_row
use Rattle.sending.proofs.push_orders.Kinds as kinds
use Rattle.sending.proofs.push_orders.Reads as push-orders

module _ (κs : Lfts 0) (a : Dens κs order-row-kinds.ps) (r r' : (res_t order-row-kinds.r κs).Denot)
    (s s' : AtExit (ended_of 0 order-row-kinds.ps order-row-kinds.r) κs) where
  pub order-row-unique : order_row.Post κs a r s → order_row.Post κs a r' s' → r ≡ r'
  order-row-unique p q = p ∙ sym q

module _ (κs : Lfts 2) (a : Dens κs kinds.ps) (r r' : (res_t kinds.r κs).Denot) (s s' : AtExit (ended_of 2 kinds.ps kinds.r) κs) where
  pub push-orders-unique : push-orders.Post κs a r s → push-orders.Post κs a r' s' → s.0.now ≡ s'.0.now
  push-orders-unique p q = p ∙ sym q
