-- Document 02, P6, over the contracts: no define takes an owner's group from him, and a handover leaves exactly those whom it names.
use mathlib.Core.Path.{◌≡◌, refl, ap, ◌∙◌}
use mathlib.Core.Bool.{true, false}
use mathlib.Core.Option.{Option, some}
use Prim.Native.Nat.{ℕ}
use lib.ListN.{length}
use Rattle.std.specs.Prelude.{Result, Ok, Err}
use Rattle.layout.specs.declared.Record.{Record}
use Rattle.refusal.specs.declared.Refusal.{Refusal}
use Rattle.refusal.specs.declared.Refusal.TheVariants.{NotOwner}
use Rattle.rules.specs.Lists.{mem}
use Rattle.rules.specs.Number.{Number, key, wide_number}
use Rattle.rules.specs.Order.{handover_owners, handover_group}
use Rattle.rules.specs.Refusals.{show_refusal}
use Rattle.rules.specs.Recorded.{define_of}
use Rattle.rules.specs.History.{History, ◌then◌, world, stands, refusal_in}
use Rattle.rules.specs.History as history
use Rattle.rules.specs.Ownership as ownership
use Rattle.rules.specs.Demand.{Owns}
use Rattle.rules.proofs.Ownership.{define-keeps, handover-sets}
use Rattle.order.specs.Numbers.{radio_number, asked_number}
use Rattle.order.specs.Steps.{define_step, handover_of, handover_step}
use Rattle.order.specs.declared.Itsi.{Itsi}
use Rattle.order.specs.declared.Identity.{Identity}
use Rattle.order.specs.declared.GroupAsked.{GroupAsked}
use Rattle.order.specs.declared.Numbers.{Numbers}
use Rattle.replies.specs.Orders.{answered}
use Rattle.replies.specs.Showing.{shown_as}
use Rattle.replies.specs.declared.Shown.{Shown}
use Rattle.replies.proofs.Orders.{reply-none}
use Rattle.store.specs.Storage.{Rows, Contents}
use Rattle.demand.specs.Calls.{Defines, HandsOver, Shows}
use Rattle.demand.specs.Runs.{Kept, defined, handed_over}
use Rattle.demand.specs.Demand.{shown_owner, ShowsExactly}
use Rattle.demand.proofs.Demand.{demand}

-- whoever owned a group is shown it after any define, and is among the owners shown: "the creator lost the group" no more
pub owner-stays : {c c' : Contents} {h : History} → Kept c h
    → {asker : Itsi} {values : Record} {room sent : Rows} {reply : Result ℕ Refusal} → Defines asker values room sent c c' reply
    → {owner : Itsi} {asked : GroupAsked} {shown : Result Shown Refusal} → Shows owner asked c' shown → Owns h (radio_number owner) (asked_number owner asked)
    → ShowsExactly (h then define_step asker values.place (length room)) (asked_number owner asked) shown × (shown_owner shown (radio_number owner) ≡ true)
owner-stays {h = h} k {asker} {values} {room} e {owner} {asked} shows o =
    let g = asked_number owner asked in
    let own = define-keeps h (key g) (key (radio_number owner)) o.owns (define_of (radio_number asker) values.place) (length room) in
    let shown = (demand (defined k e)).owner_shows shows (record { narrow_asker = o.narrow_asker; narrow_group = o.narrow_group; owns = own }) in
    (shown, shown.says (radio_number owner) o.narrow_asker ∙ own)

-- after a handover that is taken
module _ {c c' : Contents} {h : History} (k : Kept c h) {asker : Itsi} {group : Identity} {owners : Numbers}
    (e : HandsOver asker group owners c c' (Ok tt)) (owner : Itsi) (asked : GroupAsked)
    (same : key (asked_number owner asked) ≡ handover_group (handover_of asker group owners)) where
  abbrev after : History
  after = h then handover_step asker group owners

  abbrev one : Number
  one = radio_number owner

  abbrev of : Number
  of = asked_number owner asked

  sets : ownership.HandsOver h (handover_of asker group owners)
  sets = handover-sets h (handover_of asker group owners) (reply-none (refusal_in h (handover_step asker group owners)) ((demand k).hands_over e))

  owned : (a : ℕ) → history.owner after (key of) a ≡ mem a (handover_owners (handover_of asker group owners))
  owned a = ap (λ (g : ℕ). history.owner after g a) same ∙ sets.exactly a

  -- an owner is shown the asker and those listed, and no one else
  pub handed-over : {shown : Result Shown Refusal} → Shows owner asked c' shown → Owns after one of
      → ShowsExactly after of shown × ((n : Number) → wide_number n ≡ false → shown_owner shown n ≡ mem (key n) (handover_owners (handover_of asker group owners)))
  handed-over shows own =
      let shown = (demand (handed_over k e)).owner_shows shows own in
      (shown, λ n w. shown.says n w ∙ owned (key n))

  -- "whoever is not listed is out", who was an owner before too
  pub not-listed-out : {shown : Result Shown Refusal} → Shows owner asked c' shown → wide_number one ≡ false → wide_number of ≡ false
      → mem (key one) (handover_owners (handover_of asker group owners)) ≡ false → shown ≡ Err NotOwner
  not-listed-out shows narrow narrow' out =
      let refusal : show_refusal (world after) one of ≡ some NotOwner = rw (narrow, narrow', stood, owned (key one) ∙ out) refl in
      let told = history.show_in after one of in
      (demand (handed_over k e)).shows shows ∙ ap (λ (o : Option Refusal). answered o (shown_as told.owners told.parameters)) refusal
    where
      stood : stands after (key of) ≡ true
      stood = ap (stands after) same ∙ sets.stood
