-- `making::made_row` meets its contract.
use Rattle.std.proofs.Common.{rules}
use Rattle.rows.specs.Layout.{group_words}
use Rattle.order.specs.Keys.{keys_held}
use Rattle.order.proofs.Words.{words-all, made-at}
use Rattle.making.specs.Row.{made_word, made_row}
use Rattle.making.proofs.made_row.Goals as goal

pub returns : goal.returns
unfolding made_row
returns c =
    let a = c.args in
    let made = c.from_fn.ensures.items in
    let word = made_word a.group.0 a.order a.old (keys_held a.owners.now) in
    words-all word group_words c.from_fn.result made.long (made-at _ _ word c.from_fn.result 0 (λ i y q call. search rules) group_words made)
