-- `store::form::group_ok` meets its contract.
use mathlib.Core.Path.{◌≡◌, refl, sym, ◌∙◌}
use mathlib.Core.Bool.{Bool, true, false, not, ◌&&◌}
use lib.Dec.{leb}
use lib.ListN.{get_or}
use Rattle.rules.specs.Number.{key_limit}
use Rattle.store.proofs.Tests.{and_both}
use Rattle.store.proofs.Groups.{number_of}
use Rattle.store.proofs.form.group_ok.Goals as goal

-- four tests, the first of them first
and-four : (a b d e : Bool) → (((a && b) && d) && e) ≡ (a && (b && (d && e)))
and-four true true true e = refl
and-four true true false e = refl
and-four true false d e = refl
and-four false b d e = refl

pub returns : goal.returns
returns c =
    let row = c.args.row.now in
    let four = and-four c.blank_ends.result (not (leb key_limit (get_or row 0 0))) c.good_owners.result (not c.bad_parameters.result) in (
      four ∙ rw (← c.blank_ends.ensures.0, number_of row, ← c.good_owners.ensures, ← c.bad_parameters.ensures),
      λ e. c.blank_ends.ensures.1 (and_both c.blank_ends.result _ (sym four ∙ e)).0,
    )
