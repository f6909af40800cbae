-- The tests of a handover's form.
use Rattle.std.specs.Prelude.{Bool, ◌||◌, List, [], ◌∷◌}
use Rattle.std.proofs.Math.Option.{some}
use Rattle.refusal.specs.declared.Refusal.{Refusal}
use Rattle.refusal.specs.declared.Refusal.TheVariants.{BadOrder, FormNotTaken, BadRange, TooManyNumbers}
use Rattle.rules.specs.Number.{wide_number, bad_identity, bad_list, short, untaken}
use Rattle.rules.specs.Named.{bad_range, too_many, max_listed_owners}
use Rattle.order.specs.Numbers.{radio_number}
use Rattle.order.specs.Lists.{identity_of, numbers_of}
use Rattle.order.specs.declared.Identity.{Identity}
use Rattle.order.specs.declared.Itsi.{Itsi}
use Rattle.order.specs.declared.Numbers.{Numbers}

abbrev pub form_tests : Itsi → Identity → Numbers → List (Refusal × Bool)
form_tests asker group owners =
    let named = some (numbers_of owners) in
    (BadOrder, wide_number (radio_number asker) || (bad_identity (identity_of group) || bad_list named))
    ∷ (FormNotTaken, short (identity_of group) || untaken named)
    ∷ (BadRange, bad_range asker.1 named)
    ∷ (TooManyNumbers, too_many max_listed_owners asker.1 named)
    ∷ []
