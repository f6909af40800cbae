-- `store::form::groups_ok` meets its contract: those left are good where all are, and the rows passed are rows of groups.
use mathlib.Core.Path.{◌≡◌}
use lib.ListN.{drop}
use Rattle.store.specs.Lists.{Plain}
use Rattle.store.specs.Storage.{group_of, group_row}
use Rattle.store.specs.Form.{good_groups}
use Rattle.store.proofs.form.groups_ok.Given as goal

abbrev pub invariant-loop-row : goal.invariant-loop-row
invariant-loop-row l = (good_groups l.least (drop l.row-index l.groups) ≡ good_groups 0 l.groups) × Plain group_of group_row l.row-index l.groups
