-- Any two results that a function's contract allows are equal. `Post` is a contract's claim as the checker reads it.
use mathlib.Core.Path.{◌≡◌, sym, ◌∙◌}
use denote.Param.Laws.{Laws, IsCopy}
use denote.RattleType.{RattleType}
use mir.Syntax.{Dict}
use contract.Lifetimes.{Lfts}
use borrow.Fn.Kinds.{Dens, res_t, ended_of}
use denote.Triple.Clauses.{AtExit}
use Rattle.std.specs.declared.clone.Clone as Clone
use Rattle.store.specs.declared.places.Row as Row
use Rattle.order.proofs.Unique.{Unique}
use Rattle.store.proofs.form.Lent.roomy.Kinds as roomy-kinds
use Rattle.store.proofs.form.Lent.roomy.Reads as roomy
use Rattle.store.proofs.form.Lent.group_rows.Kinds as group-rows-kinds
use Rattle.store.proofs.form.Lent.group_rows.Reads as group-rows
use Rattle.store.proofs.form.Lent.pair_rows.Kinds as pair-rows-kinds
use Rattle.store.proofs.form.Lent.pair_rows.Reads as pair-rows
use Rattle.store.proofs.form.Lent.written.Kinds as written-kinds
use Rattle.store.proofs.form.Lent.written.Reads as written
use Rattle.store.proofs.places.stands.Kinds as stands-kinds
use Rattle.store.proofs.places.stands.Reads as stands
use Rattle.store.proofs.places.place.Kinds as place-kinds
use Rattle.store.proofs.places.place.Reads as place
use Rattle.store.proofs.places.ArrayU64GROUPWORDSRow.is_before.Kinds as group-before-kinds
use Rattle.store.proofs.places.ArrayU64GROUPWORDSRow.is_before.Reads as group_before
use Rattle.store.proofs.places.ArrayU64GROUPWORDSRow.is_of.Kinds as group-of-kinds
use Rattle.store.proofs.places.ArrayU64GROUPWORDSRow.is_of.Reads as group_of
use Rattle.store.proofs.places.ArrayU64PAIRWORDSRow.is_before.Kinds as pair-before-kinds
use Rattle.store.proofs.places.ArrayU64PAIRWORDSRow.is_before.Reads as pair_before
use Rattle.store.proofs.places.ArrayU64PAIRWORDSRow.is_of.Kinds as pair-of-kinds
use Rattle.store.proofs.places.ArrayU64PAIRWORDSRow.is_of.Reads as pair_of
use Rattle.store.proofs.places.stretch_of.Kinds as stretch-of-kinds
use Rattle.store.proofs.places.stretch_of.Reads as stretch-of
use Rattle.store.proofs.places.state_in.Kinds as state-in-kinds
use Rattle.store.proofs.places.state_in.Reads as state-in
use Rattle.store.proofs.places.find.Kinds as find-kinds
use Rattle.store.proofs.places.find.Reads as find
use Rattle.store.proofs.named.owners_of.Kinds as owners-of-kinds
use Rattle.store.proofs.named.owners_of.Reads as owners-of
use Rattle.store.proofs.named.owner_in.Kinds as owner-in-kinds
use Rattle.store.proofs.named.owner_in.Reads as owner-in
use Rattle.store.proofs.named.owned_by.Kinds as owned-by-kinds
use Rattle.store.proofs.named.owned_by.Reads as owned_by
use Rattle.store.proofs.named.any_group.Kinds as any-group-kinds
use Rattle.store.proofs.named.any_group.Reads as any-group
use Rattle.store.proofs.form.timed.Kinds as timed-kinds
use Rattle.store.proofs.form.timed.Reads as timed

pub stands-unique : Unique stands-kinds.ps stands-kinds.r stands.Post
stands-unique κs a r r' s s' p q = p ∙ sym q

-- of rows of any kind: of groups' rows and of pairs'
module _ (R : RattleType) (K : RattleType) (laws : Laws R) (key-laws : Laws K) (key-copy : IsCopy K)
    (row : Row.Ghosts R.Denot K.Denot) (row-dict : Dict) (clone : Clone.Ghosts K.Denot) (clone-dict : Dict) where
  pub place-unique : Unique (place-kinds.ps R K laws key-laws key-copy) (place-kinds.r R K laws key-laws key-copy)
      (place.Post R K laws key-laws key-copy row row-dict clone clone-dict)
  place-unique κs a r r' s s' p q = p ∙ sym q

pub group-before-unique : Unique group-before-kinds.ps group-before-kinds.r group_before.Post
group-before-unique κs a r r' s s' p q = p ∙ sym q

pub group-of-unique : Unique group-of-kinds.ps group-of-kinds.r group_of.Post
group-of-unique κs a r r' s s' p q = p ∙ sym q

pub pair-before-unique : Unique pair-before-kinds.ps pair-before-kinds.r pair_before.Post
pair-before-unique κs a r r' s s' p q = p ∙ sym q

pub pair-of-unique : Unique pair-of-kinds.ps pair-of-kinds.r pair_of.Post
pair-of-unique κs a r r' s s' p q = p ∙ sym q

pub stretch-of-unique : Unique stretch-of-kinds.ps stretch-of-kinds.r stretch-of.Post
stretch-of-unique κs a r r' s s' p q = p ∙ sym q

pub state-in-unique : Unique state-in-kinds.ps state-in-kinds.r state-in.Post
state-in-unique κs a r r' s s' p q = p ∙ sym q

pub find-unique : Unique find-kinds.ps find-kinds.r find.Post
find-unique κs a r r' s s' p q = p ∙ sym q

pub owner-in-unique : Unique owner-in-kinds.ps owner-in-kinds.r owner-in.Post
owner-in-unique κs a r r' s s' p q = p ∙ sym q

pub owned-by-unique : Unique owned-by-kinds.ps owned-by-kinds.r owned_by.Post
owned-by-unique κs a r r' s s' p q = p ∙ sym q

pub any-group-unique : Unique any-group-kinds.ps any-group-kinds.r any-group.Post
any-group-unique κs a r r' s s' p q = p ∙ sym q

pub timed-unique : Unique timed-kinds.ps timed-kinds.r timed.Post
timed-unique κs a r r' s s' p q = p ∙ sym q

pub roomy-unique : Unique roomy-kinds.ps roomy-kinds.r roomy.Post
roomy-unique κs a r r' s s' p q = p ∙ sym q

pub written-unique : Unique written-kinds.ps written-kinds.r written.Post
written-unique κs a r r' s s' p q = p.0 ∙ sym q.0

-- what the lent rows are
module _ (κs : Lfts 1) (a : Dens κs group-rows-kinds.ps) (r r' : (res_t group-rows-kinds.r κs).Denot)
    (s s' : AtExit (ended_of 1 group-rows-kinds.ps group-rows-kinds.r) κs) where
  pub group-rows-unique : group-rows.Post κs a r s → group-rows.Post κs a r' s' → r.now ≡ r'.now
  group-rows-unique p q = p ∙ sym q

module _ (κs : Lfts 1) (a : Dens κs pair-rows-kinds.ps) (r r' : (res_t pair-rows-kinds.r κs).Denot)
    (s s' : AtExit (ended_of 1 pair-rows-kinds.ps pair-rows-kinds.r) κs) where
  pub pair-rows-unique : pair-rows.Post κs a r s → pair-rows.Post κs a r' s' → r.now ≡ r'.now
  pair-rows-unique p q = p ∙ sym q

-- the owners' words of a row
module _ (κs : Lfts 1) (a : Dens κs owners-of-kinds.ps) (r r' : (res_t owners-of-kinds.r κs).Denot)
    (s s' : AtExit (ended_of 1 owners-of-kinds.ps owners-of-kinds.r) κs) where
  pub owners-of-unique : owners-of.Post κs a r s → owners-of.Post κs a r' s' → r.now ≡ r'.now
  owners-of-unique p q = p ∙ sym q
