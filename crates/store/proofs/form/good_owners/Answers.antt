-- `store::good_owners` meets its contract.
use Rattle.store.proofs.Groups.{owners-good}
use borrow.Author.Rules.{rules}
use Rattle.store.proofs.form.good_owners.Goals as goal

pub returns : goal.returns
returns c =
    owners-good c.args.row.now (search rules) c.rising_keys.result c.requires c.rising_keys.ensures
