-- Numbers as callers hand them over and get them back: SSI, then extension.
use Rattle.std.specs.Prelude.{ℕ}
use Rattle.rules.specs.Number.{Number, ssi_of, extension_of}
use Rattle.order.specs.declared.Gtsi.{Gtsi}
use Rattle.order.specs.declared.Itsi.{Itsi}
use Rattle.order.specs.declared.GroupAsked.{GroupAsked}
use Rattle.order.specs.declared.GroupAsked.TheVariants.{Whole, Plain}

abbrev pub radio_number : Itsi → Number
radio_number r = record { ssi = r.0; extension = r.1 }

abbrev pub group_number : Gtsi → Number
group_number g = record { ssi = g.0; extension = g.1 }

-- the numbers of keys
abbrev pub radio_at : ℕ → Itsi
radio_at k = (ssi_of k, extension_of k)

abbrev pub group_at : ℕ → Gtsi
group_at k = (ssi_of k, extension_of k)

-- the group that a list or a show asks for: "plain SSI takes the asker's"
abbrev pub asked_group : Itsi → GroupAsked → Gtsi
asked_group asker (Whole group) = group
asked_group asker (Plain ssi) = (ssi, asker.1)

abbrev pub asked_number : Itsi → GroupAsked → Number
asked_number asker asked = group_number (asked_group asker asked)
