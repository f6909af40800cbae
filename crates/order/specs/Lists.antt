-- Lists of numbers as an order lends them: number type and ten identities, given or not.
use Rattle.std.specs.Prelude.{ℕ, List, map, Option, Some, None}
use Rattle.std.proofs.Math.Option.{none, some}
use Rattle.std.proofs.Math.Option as rules
use Rattle.rules.specs.Number as number
use Rattle.order.specs.declared.Identity.{Identity}
use Rattle.order.specs.declared.Numbers.{Numbers}

abbrev pub identity_of : Identity → number.Identity
identity_of i = record { form = i.form; sna = i.sna; ssi = i.ssi; extension = i.extension }

abbrev pub numbers_as : ℕ → List Identity → number.Numbers
numbers_as code identity = record { code = code; places = map identity_of identity }

abbrev pub numbers_of : Numbers → number.Numbers
numbers_of n = numbers_as n.code n.identity

abbrev pub list_of : Option Numbers → rules.Option number.Numbers
list_of None = none
list_of (Some n) = some (numbers_of n)
