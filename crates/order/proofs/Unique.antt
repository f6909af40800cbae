-- Any two results that a function's contract allows are equal, and what `enter` leaves is one. `Post` is a contract's claim as the checker reads it.
-- Assumes nothing.
use mathlib.Core.Path.{◌≡◌, sym, ◌∙◌}
use contract.Lifetimes.{Lfts}
use borrow.Fn.Kinds.{Dens, res_t, ended_of}
use denote.Triple.Clauses.{AtExit}
pub use Rattle.table.proofs.Unique.{Unique}
use Prim.Native.Nat.{ℕ}
use denote.Param.Laws.{Laws, IsCopy}
use denote.RattleType.{RattleType}
use mir.Syntax.{Dict, w64}
use mir.Val.{Fits}
use Rattle.order.specs.declared.Key as Key
use Rattle.order.specs.contracts.GroupKey as group
use Rattle.order.specs.contracts.GroupKeyKey.TheImpl as group-impl
use Rattle.order.specs.contracts.GroupKeyKey.TheImpl.Laws as group-impl-laws
use Rattle.order.proofs.GroupKey.TheLaws as group-laws
use Rattle.order.specs.contracts.RadioKey as radio
use Rattle.order.specs.contracts.RadioKeyKey.TheImpl as radio-impl
use Rattle.order.specs.contracts.RadioKeyKey.TheImpl.Laws as radio-impl-laws
use Rattle.order.proofs.RadioKey.TheLaws as radio-laws
use Rattle.std.specs.declared.clone.Clone as Clone
use Rattle.order.proofs.lists.member.Kinds as member-kinds
use Rattle.order.proofs.lists.member.Reads as member
use Rattle.order.proofs.lists.wide_radio.Kinds as wide-radio-kinds
use Rattle.order.proofs.lists.wide_radio.Reads as wide-radio
use Rattle.order.proofs.lists.wide_group.Kinds as wide-group-kinds
use Rattle.order.proofs.lists.wide_group.Reads as wide-group
use Rattle.order.proofs.lists.used_count.Kinds as used-count-kinds
use Rattle.order.proofs.lists.used_count.Reads as used-count
use Rattle.order.proofs.lists.bad_identity.Kinds as bad-identity-kinds
use Rattle.order.proofs.lists.bad_identity.Reads as bad-identity
use Rattle.order.proofs.lists.short.Kinds as short-kinds
use Rattle.order.proofs.lists.short.Reads as short
use Rattle.order.proofs.lists.bad_list.Kinds as bad-list-kinds
use Rattle.order.proofs.lists.bad_list.Reads as bad-list
use Rattle.order.proofs.lists.untaken.Kinds as untaken-kinds
use Rattle.order.proofs.lists.untaken.Reads as untaken
use Rattle.order.proofs.ranges.bad_range.Kinds as bad-range-kinds
use Rattle.order.proofs.ranges.bad_range.Reads as bad-range
use Rattle.order.proofs.ranges.too_many.Kinds as too-many-kinds
use Rattle.order.proofs.ranges.too_many.Reads as too_many
use Rattle.order.proofs.ranges.too_many_owners.Kinds as too-many-owners-kinds
use Rattle.order.proofs.ranges.too_many_owners.Reads as too-many-owners
use Rattle.order.proofs.keys.GroupKeyFromGtsi.from.Kinds as group-key-kinds
use Rattle.order.proofs.keys.GroupKeyFromGtsi.from.Reads as group-key
use Rattle.order.proofs.keys.RadioKeyFromItsi.from.Kinds as radio-key-kinds
use Rattle.order.proofs.keys.RadioKeyFromItsi.from.Reads as radio-key
use Rattle.order.proofs.keys.GtsiFromGroupKey.from.Kinds as group-of-kinds
use Rattle.order.proofs.keys.GtsiFromGroupKey.from.Reads as Group-of
use Rattle.order.proofs.keys.ItsiFromRadioKey.from.Kinds as radio-of-kinds
use Rattle.order.proofs.keys.ItsiFromRadioKey.from.Reads as radio-of
use Rattle.order.proofs.keys.asked_group.Kinds as asked-group-kinds
use Rattle.order.proofs.keys.asked_group.Reads as asked-group
use Rattle.order.proofs.keys.extension_in.Kinds as extension-in-kinds
use Rattle.order.proofs.keys.extension_in.Reads as extension-in
use Rattle.order.proofs.keys.identity_key.Kinds as identity-key-kinds
use Rattle.order.proofs.keys.identity_key.Reads as identity-key
use Rattle.order.proofs.keys.group_in.Kinds as group-in-kinds
use Rattle.order.proofs.keys.group_in.Reads as group-in
use Rattle.order.proofs.keys.owners_in.Kinds as owners-in-kinds
use Rattle.order.proofs.keys.owners_in.Reads as owners-in
use Rattle.order.proofs.keys.keys_named.Kinds as keys-named-kinds
use Rattle.order.proofs.keys.keys_named.Reads as keys-named
use Rattle.order.proofs.keys.Keys.len.Kinds as len-kinds
use Rattle.order.proofs.keys.Keys.len.Reads as len
use Rattle.order.proofs.keys.Keys.as_slice.Kinds as as-slice-kinds
use Rattle.order.proofs.keys.Keys.as_slice.Reads as as-slice
use Rattle.order.proofs.keys.Keys.at.Kinds as at-kinds
use Rattle.order.proofs.keys.Keys.at.Reads as at
use Rattle.order.proofs.keys.Keys.rising.Kinds as rising-kinds
use Rattle.order.proofs.keys.Keys.rising.Reads as rising
use Rattle.order.proofs.GroupKeyKey.of.Kinds as group-key-of-kinds
use Rattle.order.proofs.GroupKeyKey.of.Reads as group-key-of
use Rattle.order.proofs.GroupKeyKey.word.Kinds as group-key-word-kinds
use Rattle.order.proofs.GroupKeyKey.word.Reads as group-key-word
use Rattle.order.proofs.RadioKeyKey.of.Kinds as radio-key-of-kinds
use Rattle.order.proofs.RadioKeyKey.of.Reads as radio-key-of
use Rattle.order.proofs.RadioKeyKey.word.Kinds as radio-key-word-kinds
use Rattle.order.proofs.RadioKeyKey.word.Reads as radio-key-word
use Rattle.order.proofs.record.lists_of.Kinds as lists-of-kinds
use Rattle.order.proofs.record.lists_of.Reads as Lists-of
use Rattle.order.proofs.record.first_state.Kinds as first-state-kinds
use Rattle.order.proofs.record.first_state.Reads as first-state
use Rattle.order.proofs.rising.enter.Kinds as enter-kinds
use Rattle.order.proofs.rising.enter.Reads as enter
use Rattle.order.proofs.row.order_row.Kinds as order-row-kinds
use Rattle.order.proofs.row.order_row.Reads as order_row

pub member-unique : Unique member-kinds.ps member-kinds.r member.Post
member-unique κs a r r' s s' p q = p ∙ sym q

pub wide-radio-unique : Unique wide-radio-kinds.ps wide-radio-kinds.r wide-radio.Post
wide-radio-unique κs a r r' s s' p q = p ∙ sym q

pub wide-group-unique : Unique wide-group-kinds.ps wide-group-kinds.r wide-group.Post
wide-group-unique κs a r r' s s' p q = p ∙ sym q

pub used-count-unique : Unique used-count-kinds.ps used-count-kinds.r used-count.Post
used-count-unique κs a r r' s s' p q = p ∙ sym q

pub bad-identity-unique : Unique bad-identity-kinds.ps bad-identity-kinds.r bad-identity.Post
bad-identity-unique κs a r r' s s' p q = p ∙ sym q

pub short-unique : Unique short-kinds.ps short-kinds.r short.Post
short-unique κs a r r' s s' p q = p ∙ sym q

pub bad-list-unique : Unique bad-list-kinds.ps bad-list-kinds.r bad-list.Post
bad-list-unique κs a r r' s s' p q = p ∙ sym q

pub untaken-unique : Unique untaken-kinds.ps untaken-kinds.r untaken.Post
untaken-unique κs a r r' s s' p q = p ∙ sym q

pub bad-range-unique : Unique bad-range-kinds.ps bad-range-kinds.r bad-range.Post
bad-range-unique κs a r r' s s' p q = p ∙ sym q

pub too-many-unique : Unique too-many-kinds.ps too-many-kinds.r too_many.Post
too-many-unique κs a r r' s s' p q = p ∙ sym q

pub too-many-owners-unique : Unique too-many-owners-kinds.ps too-many-owners-kinds.r too-many-owners.Post
too-many-owners-unique κs a r r' s s' p q = p ∙ sym q

pub group-key-unique : Unique group-key-kinds.ps group-key-kinds.r group-key.Post
group-key-unique κs a r r' s s' p q = λ i. record { 0 = (p ∙ sym q) i }

pub radio-key-unique : Unique radio-key-kinds.ps radio-key-kinds.r radio-key.Post
radio-key-unique κs a r r' s s' p q = λ i. record { 0 = (p ∙ sym q) i }

pub group-of-unique : Unique group-of-kinds.ps group-of-kinds.r Group-of.Post
group-of-unique κs a r r' s s' p q = p ∙ sym q

pub radio-of-unique : Unique radio-of-kinds.ps radio-of-kinds.r radio-of.Post
radio-of-unique κs a r r' s s' p q = p ∙ sym q

pub asked-group-unique : Unique asked-group-kinds.ps asked-group-kinds.r asked-group.Post
asked-group-unique κs a r r' s s' p q = p ∙ sym q

pub extension-in-unique : Unique extension-in-kinds.ps extension-in-kinds.r extension-in.Post
extension-in-unique κs a r r' s s' p q = p ∙ sym q

pub identity-key-unique : Unique identity-key-kinds.ps identity-key-kinds.r identity-key.Post
identity-key-unique κs a r r' s s' p q = p ∙ sym q

pub group-in-unique : Unique group-in-kinds.ps group-in-kinds.r group-in.Post
group-in-unique κs a r r' s s' p q = λ i. record { 0 = (p ∙ sym q) i }

pub owners-in-unique : Unique owners-in-kinds.ps owners-in-kinds.r owners-in.Post
owners-in-unique κs a r r' s s' p q = p ∙ sym q

pub group-key-of-unique : Unique group-key-of-kinds.ps group-key-of-kinds.r group-key-of.Post
group-key-of-unique κs a r r' s s' p q = λ i. record { 0 = (p ∙ sym q) i }

pub group-key-word-unique : Unique group-key-word-kinds.ps group-key-word-kinds.r group-key-word.Post
group-key-word-unique κs a r r' s s' p q = p ∙ sym q

pub radio-key-of-unique : Unique radio-key-of-kinds.ps radio-key-of-kinds.r radio-key-of.Post
radio-key-of-unique κs a r r' s s' p q = λ i. record { 0 = (p ∙ sym q) i }

pub radio-key-word-unique : Unique radio-key-word-kinds.ps radio-key-word-kinds.r radio-key-word.Post
radio-key-word-unique κs a r r' s s' p q = p ∙ sym q

-- whatever the keys are of, and however many places there are
module _ (K : RattleType) (laws : Laws K) (copy : IsCopy K) (key : Key.Ghosts K.Denot) (key-dict : Dict) (clone : Clone.Ghosts K.Denot)
    (clone-dict : Dict) where
  pub keys-named-unique :
      Unique (keys-named-kinds.ps K laws copy) (keys-named-kinds.r K laws copy) (keys-named.Post K laws copy key key-dict clone clone-dict)
  keys-named-unique κs a r r' s s' p q = p ∙ sym q

  module _ (n : ℕ) (fits : Fits w64 n) where
    pub len-unique :
        Unique (len-kinds.ps K n laws fits copy) (len-kinds.r K n laws fits copy) (len.Post K n laws fits copy key key-dict clone clone-dict)
    len-unique κs a r r' s s' p q = p.0 ∙ sym q.0

    -- what the lent words are
    module _ (κs : Lfts 3) (a : Dens κs (as-slice-kinds.ps K n laws fits copy)) (r r' : (res_t (as-slice-kinds.r K n laws fits copy) κs).Denot)
        (s s' : AtExit (ended_of 3 (as-slice-kinds.ps K n laws fits copy) (as-slice-kinds.r K n laws fits copy)) κs) where
      pub as-slice-unique : as-slice.Post K n laws fits copy key key-dict clone clone-dict κs a r s
          → as-slice.Post K n laws fits copy key key-dict clone clone-dict κs a r' s' → r.now ≡ r'.now
      as-slice-unique p q = p ∙ sym q

    -- at-unique takes the trait's law: keys of one word are one
    pub at-unique : ((x y : K.Denot) → key.word_of x ≡ key.word_of y → x ≡ y)
        → Unique (at-kinds.ps K n laws fits copy) (at-kinds.r K n laws fits copy) (at.Post K n laws fits copy key key-dict clone clone-dict)
    at-unique alike κs a r r' s s' p q = alike r r' (p ∙ sym q)

    pub rising-unique :
        Unique (rising-kinds.ps K n laws fits copy) (rising-kinds.r K n laws fits copy) (rising.Post K n laws fits copy key key-dict clone clone-dict)
    rising-unique κs a r r' s s' p q = p ∙ sym q

-- keys of groups and of radios keep that law, in however many places
module _ (n : ℕ) (fits : Fits w64 n) (clone-dict : Dict) where
  module _ (clone : Clone.Ghosts group.the_row.Denot) where
    pub group-at-unique : Unique (at-kinds.ps group.the_row n group-laws.the_row_laws fits group-laws.the_row_copy)
        (at-kinds.r group.the_row n group-laws.the_row_laws fits group-laws.the_row_copy)
        (at.Post group.the_row n group-laws.the_row_laws fits group-laws.the_row_copy group-impl.ghosts group-impl.dict clone clone-dict)
    group-at-unique =
        at-unique group.the_row group-laws.the_row_laws group-laws.the_row_copy group-impl.ghosts group-impl.dict clone clone-dict n fits group-impl-laws.alike-law

  module _ (clone : Clone.Ghosts radio.the_row.Denot) where
    pub radio-at-unique : Unique (at-kinds.ps radio.the_row n radio-laws.the_row_laws fits radio-laws.the_row_copy)
        (at-kinds.r radio.the_row n radio-laws.the_row_laws fits radio-laws.the_row_copy)
        (at.Post radio.the_row n radio-laws.the_row_laws fits radio-laws.the_row_copy radio-impl.ghosts radio-impl.dict clone clone-dict)
    radio-at-unique =
        at-unique radio.the_row radio-laws.the_row_laws radio-laws.the_row_copy radio-impl.ghosts radio-impl.dict clone clone-dict n fits radio-impl-laws.alike-law

pub lists-of-unique : Unique lists-of-kinds.ps lists-of-kinds.r Lists-of.Post
lists-of-unique κs a r r' s s' p q = p ∙ sym q

pub first-state-unique : Unique first-state-kinds.ps first-state-kinds.r first-state.Post
first-state-unique κs a r r' s s' p q = p ∙ sym q

pub order-row-unique : Unique order-row-kinds.ps order-row-kinds.r order_row.Post
order-row-unique κs a r r' s s' p q = p ∙ sym q

module _ (κs : Lfts 1) (a : Dens κs enter-kinds.ps) (r r' : (res_t enter-kinds.r κs).Denot) (s s' : AtExit (ended_of 1 enter-kinds.ps enter-kinds.r) κs) where
  pub enter-unique : enter.Post κs a r s → enter.Post κs a r' s' → (r ≡ r') × (s.0.now ≡ s'.0.now)
  enter-unique p q = (p.counts ∙ sym q.counts, p.keys ∙ sym q.keys)
