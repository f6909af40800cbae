-- `store::named::owners_of` meets its contract: no row has more owners than there is room for, whatever its count says.
use Rattle.store.proofs.Groups.{owners-few}
use borrow.Author.Rules.{rules}
use Rattle.store.proofs.named.owners_of.Goals as goal

pub returns : goal.returns
returns c = owners-few c.args.row.now (search rules) c.lesser-count.result c.lesser-count.ensures
