-- Any two results that a function's contract allows are equal. `Post` is a contract's claim as the checker reads it.
-- Assumes nothing.
use mathlib.Core.Path.{◌≡◌, sym, ◌∙◌}
use borrow.Fn.Kinds.{Dens, res_t, ended_of}
use contract.Lifetimes.{Lfts}
use denote.Triple.Clauses.{AtExit}
pub use Rattle.refusal.proofs.Unique.{Unique}
use Rattle.table.proofs.fields.count_field.Kinds as count-field-kinds
use Rattle.table.proofs.fields.count_field.Reads as count-field
use Rattle.table.proofs.fields.number.Kinds as number-kinds
use Rattle.table.proofs.fields.number.Reads as number
use Rattle.table.proofs.fields.choice.Kinds as choice-kinds
use Rattle.table.proofs.fields.choice.Reads as choice
use Rattle.table.proofs.items.least_for.Kinds as least-for-kinds
use Rattle.table.proofs.items.least_for.Reads as least-for
use Rattle.table.proofs.items.stride_of.Kinds as stride-of-kinds
use Rattle.table.proofs.items.stride_of.Reads as stride-of
use Rattle.table.proofs.items.places_of.Kinds as places-of-kinds
use Rattle.table.proofs.items.places_of.Reads as places_of
use Rattle.table.proofs.items.times_of.Kinds as times-of-kinds
use Rattle.table.proofs.items.times_of.Reads as times-of
use Rattle.table.proofs.lines.table_of.Kinds as table-of-kinds
use Rattle.table.proofs.lines.table_of.Reads as table_of
use Rattle.table.proofs.lines.action_type.Kinds as action-type-kinds
use Rattle.table.proofs.lines.action_type.Reads as action-type
use Rattle.table.proofs.place.kind_places.Kinds as kind-places-kinds
use Rattle.table.proofs.place.kind_places.Reads as kind-places
use Rattle.table.proofs.tests.holds.Kinds as holds-kinds
use Rattle.table.proofs.tests.holds.Reads as holds
use Rattle.table.proofs.tests.there.Kinds as there-kinds
use Rattle.table.proofs.tests.there.Reads as there
use Rattle.table.proofs.tests.nothing_since.Kinds as nothing-since-kinds
use Rattle.table.proofs.tests.nothing_since.Reads as nothing-since

pub count-field-unique : Unique count-field-kinds.ps count-field-kinds.r count-field.Post
count-field-unique κs a r r' s s' p q = p ∙ sym q

pub number-unique : Unique number-kinds.ps number-kinds.r number.Post
number-unique κs a r r' s s' p q = p ∙ sym q

pub choice-unique : Unique choice-kinds.ps choice-kinds.r choice.Post
choice-unique κs a r r' s s' p q = p ∙ sym q

pub least-for-unique : Unique least-for-kinds.ps least-for-kinds.r least-for.Post
least-for-unique κs a r r' s s' p q = p ∙ sym q

pub stride-of-unique : Unique stride-of-kinds.ps stride-of-kinds.r stride-of.Post
stride-of-unique κs a r r' s s' p q = p ∙ sym q

pub times-of-unique : Unique times-of-kinds.ps times-of-kinds.r times-of.Post
times-of-unique κs a r r' s s' p q = p ∙ sym q

pub places-of-unique : Unique places-of-kinds.ps places-of-kinds.r places_of.Post
places-of-unique κs a r r' s s' p q = p ∙ sym q

-- the same elements
module _ (κs : Lfts 1) (a : Dens κs table-of-kinds.ps) (r r' : (res_t table-of-kinds.r κs).Denot)
    (s s' : AtExit (ended_of 1 table-of-kinds.ps table-of-kinds.r) κs) where
  pub table-of-unique : table_of.Post κs a r s → table_of.Post κs a r' s' → r.now ≡ r'.now
  table-of-unique p q = p ∙ sym q

pub action-type-unique : Unique action-type-kinds.ps action-type-kinds.r action-type.Post
action-type-unique κs a r r' s s' p q = p ∙ sym q

pub kind-places-unique : Unique kind-places-kinds.ps kind-places-kinds.r kind-places.Post
kind-places-unique κs a r r' s s' p q = p ∙ sym q

pub holds-unique : Unique holds-kinds.ps holds-kinds.r holds.Post
holds-unique κs a r r' s s' p q = p ∙ sym q

pub there-unique : Unique there-kinds.ps there-kinds.r there.Post
there-unique κs a r r' s s' p q = p ∙ sym q

pub nothing-since-unique : Unique nothing-since-kinds.ps nothing-since-kinds.r nothing-since.Post
nothing-since-unique κs a r r' s s' p q = p ∙ sym q
