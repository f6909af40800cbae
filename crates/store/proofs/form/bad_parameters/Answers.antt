-- `store::bad_parameters` meets its contract.
use Rattle.store.proofs.Groups.{parameters-bad}
use borrow.Author.Rules.{rules}
use Rattle.store.proofs.form.bad_parameters.Goals as goal

pub returns : goal.returns
returns c =
    parameters-bad c.args.row.now (search rules) c.large.result c.requires c.large.ensures
