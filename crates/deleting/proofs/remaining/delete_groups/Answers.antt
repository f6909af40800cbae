-- `deleting::delete_groups` meets its contract.
use mathlib.Core.Path.{sym}
use Rattle.store.specs.Storage.{group_of, group_row}
use Rattle.store.proofs.Rows.{length-items, lay-plain}
use Rattle.deleting.proofs.remaining.delete_groups.Goals as goal

pub returns-then-not-asked : goal.returns-then-not-asked
returns-then-not-asked c =
    let a = c.args in
    let p = c.requires in
    rw c.if-not-asked.true (record {
      counts = sym (length-items group_of group_row a.groups.now a.count p.0);
      rows = sym (lay-plain group_of group_row a.groups.now a.count p.0 p.1);
    })
