-- Document 02, P7, over the contracts: an acknowledged deassign takes no radio off an owner's list, and a radio goes off it by three ways alone.
use mathlib.Core.Path.{◌≡◌, refl, sym, ap, ◌∙◌}
use mathlib.Core.Bool.{true, false}
use mathlib.Core.Option.{Option, none, some}
use Prim.Native.Nat.{ℕ}
use lib.ListN.{length, take}
use Rattle.std.specs.Prelude.{Result, Ok}
use Rattle.refusal.specs.declared.Refusal.{Refusal}
use Rattle.rules.specs.Lists.{present}
use Rattle.rules.specs.Number.{Number, key, wide_number}
use Rattle.rules.specs.Mark.{Mark, leaving}
use Rattle.rules.specs.Order.{Step}
use Rattle.rules.specs.Demand.{Owns, told}
use Rattle.rules.specs.History.{History, ◌then◌, stands, mark, refusal_in, sent_in}
use Rattle.rules.specs.Leaving.{names, LeavesAll, LetsGo}
use Rattle.rules.proofs.Tests.{split, clash}
use Rattle.rules.proofs.Demand.{told-present}
use Rattle.rules.proofs.Anew.{gone-bare}
use Rattle.rules.proofs.Leaving.{leaves_all, pair_left}
use Rattle.store.specs.Storage.{Rows, Contents}
use Rattle.demand.specs.Arguments.{Deletion, deletion_order, deletion_step}
use Rattle.demand.specs.Calls.{Deletes}
use Rattle.demand.specs.Runs.{Kept}
use Rattle.demand.specs.Demand.{state_in, ListsExactly}
use Rattle.demand.proofs.Demand.{demand}
use Rattle.demand.proofs.Anew.{sent-none}

-- what an owner's list says of a radio
abbrev says : {h : History} {g : Number} {room listed : Rows} {reply : Result ℕ Refusal} → ListsExactly h g room listed reply → Number → Option ℕ
says {listed = listed} l n = state_in (take (length l.entries) listed) n

-- it has the radio where there is the pair
listed-there : {h : History} {g : Number} {room listed : Rows} {reply : Result ℕ Refusal} (l : ListsExactly h g room listed reply) (n : Number)
    → wide_number n ≡ false → present (says l n) ≡ present (mark h (key g) (key n))
listed-there {h = h} {g = g} l n narrow = ap present (l.says n narrow) ∙ told-present (mark h (key g) (key n))

-- an acknowledged deassign; an owner lists his group before it and after it
module _ {h : History} (d : Deletion) (stay : d.remove ≡ false) (asked : d.acknowledgement ≡ true) (space : Rows) {g : Number}
    {room listed room' listed' : Rows} {reply reply' : Result ℕ Refusal} (l : ListsExactly h g room listed reply)
    (l' : ListsExactly (h then deletion_step d (length space)) g room' listed' reply') (n : Number) (narrow : wide_number n ≡ false) where
  all : LeavesAll h (deletion_order d) (length space)
  all = leaves_all h (deletion_order d) (length space) (record { groups_stay = stay; asked = asked })

  -- every radio that was listed is listed
  pub still-listed : present (says l' n) ≡ present (says l n)
  still-listed = listed-there l' n narrow ∙ all.stays (key g) (key n) ∙ sym (listed-there l n narrow)

  -- one that it does not name is listed as it was
  pub others-listed : names (deletion_order d) (key g) (key n) ≡ false → says l' n ≡ says l n
  others-listed other = l'.says n narrow ∙ ap told (all.others (key g) (key n) other) ∙ sym (l.says n narrow)

  -- one that it names is listed as leaving, where the call is taken
  pub leaving-listed : {c c' : Contents} {sent : Rows} {count : ℕ} → Kept c h → Deletes d space sent c c' (Ok count)
      → names (deletion_order d) (key g) (key n) ≡ true → present (says l n) ≡ true → says l' n ≡ some leaving
  leaving-listed {count = count} k e named there =
      let s = deletion_step d (length space) in
      let taken = sent-none (refusal_in h s) count (length (sent_in h s)) ((demand k).deletes e).0 in
      l'.says n narrow ∙ ap told (all.named taken (key g) (key n) named (sym (listed-there l n narrow) ∙ there))

-- an owner who lists his group before a call and after it, and misses a radio
pub off-the-list : {h : History} {s : Step} {g : Number} {room listed room' listed' : Rows} {reply reply' : Result ℕ Refusal} {owner : Number}
    → Owns (h then s) owner g → (l : ListsExactly h g room listed reply) (l' : ListsExactly (h then s) g room' listed' reply')
    → (n : Number) → wide_number n ≡ false → present (says l n) ≡ true → says l' n ≡ none → LetsGo h (key g) (key n) s
off-the-list {h = h} {s = s} {g = g} {owner = owner} own l l' n narrow there gone =
    pair_left h (key g) (key n) (sym (listed-there l n narrow) ∙ there) s
    (split (stands (h then s) (key g)) (λ y. y) (λ z. clash (sym own.owns ∙ (gone-bare (h then s) (key g) z).owners (key owner))))
    (no-mark (mark (h then s) (key g) (key n)) (sym (l'.says n narrow) ∙ gone))
  where
    no-mark : (o : Option Mark) → told o ≡ none → o ≡ none
    no-mark none e = refl
    no-mark (some m) e = clash (ap present e)
