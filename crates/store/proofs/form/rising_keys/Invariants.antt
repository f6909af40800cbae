-- `store::form::rising_keys` meets its contract: what it says of the keys left is what it says of all.
use mathlib.Core.Path.{◌≡◌}
use lib.ListN.{drop}
use Rattle.store.specs.Form.{rising_keys}
use Rattle.store.proofs.form.rising_keys.Given as goal

abbrev pub invariant-loop-key : goal.invariant-loop-key
invariant-loop-key l = rising_keys l.least (drop l.key-index l.list) ≡ rising_keys 0 l.list
