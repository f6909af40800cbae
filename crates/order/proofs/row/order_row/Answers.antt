-- `order::order_row` meets its contract.
use Rattle.std.proofs.Common.{rules}
use Rattle.rows.specs.Layout.{group_words}
use Rattle.order.specs.Row.{order_word, order_row_of}
use Rattle.order.proofs.Words.{words-all, made-at}
use Rattle.order.proofs.row.order_row.Goals as goal

pub returns : goal.returns
unfolding order_row_of
returns c =
    let made = c.from_fn.ensures.items in
    let word = order_word c.args.place in
    words-all word group_words c.from_fn.result made.long (made-at _ _ word c.from_fn.result 0 (λ i y q call. search rules) group_words made)
