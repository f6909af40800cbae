-- Document 02, P5: "Demand 3 reads a range as the list of its numbers". An order with a range, and the same order with a list that names
-- the range's numbers one by one, wherever both can be written: such a list has at most ten.
use Rattle.std.specs.Prelude.{◌≡◌, true, false, cond, map, ℕ, eqb, length}
use Rattle.std.proofs.Math.Option.{Option, some}
use Rattle.rules.specs.Number.{Identity, Numbers, ssi_of, extension_of, used, identity_key, bad_list, untaken}
use Rattle.rules.specs.Named.{numbers, bad_range}
use Rattle.rules.specs.Order.{Define, Delete, Handover, Step, define, delete, handover}
use Rattle.rules.specs.Ledger.{Ledger}
use Rattle.rules.specs.Placing.{Placing}
use Rattle.rules.specs.Steps.{refused, step, sent}

-- a range that may be taken, and a list, no range, whose identities name its numbers in their order
pub record Spells (home : ℕ) (range list : Numbers) : Type 0 where
  pub is_range : eqb range.code 1 ≡ true
  pub is_list : eqb list.code 1 ≡ false
  pub good : bad_list (some range) ≡ false
  pub taken : untaken (some range) ≡ false
  pub rises : bad_range home (some range) ≡ false
  pub good_list : bad_list (some list) ≡ false
  pub taken_list : untaken (some list) ≡ false
  pub names : map (identity_key home) (used list) ≡ numbers home range

-- the same list, or one spelled out
pub data Said (home : ℕ) : Option Numbers → Option Numbers → Type 0 where
  same : (l : Option Numbers) → Said home l l
  spelled : (range list : Numbers) → Spells home range list → Said home (some range) (some list)

-- the same order with other lists
abbrev pub define_with : Define → Option Numbers → Option Numbers → Option Numbers → Define
define_with o groups owners radios = record {
  asker = o.asker;
  judged = o.judged;
  call = o.call;
  groups = groups;
  owners = owners;
  radios = radios;
  acknowledgement = o.acknowledgement;
  parameters = o.parameters;
}

abbrev pub delete_with : Delete → Numbers → Option Numbers → Delete
delete_with o groups radios = record {
  asker = o.asker;
  groups = groups;
  delete = o.delete;
  deassign = o.deassign;
  radios = radios;
  acknowledgement = o.acknowledgement;
}

abbrev pub handover_with : Handover → Numbers → Handover
handover_with o owners = record { asker = o.asker; group = o.group; owners = owners }

-- an order, and the same order with some of its ranges spelled out
pub data AsListed : Step → Step → Type 0 where
  defines : (o : Define) (room : ℕ) (groups owners radios : Option Numbers)
      → Said o.asker.extension o.groups groups → Said o.asker.extension o.owners owners → Said o.asker.extension o.radios radios
      → AsListed (define o room) (define (define_with o groups owners radios) room)
  deletes : (o : Delete) (room : ℕ) (groups : Numbers) (radios : Option Numbers)
      → Said o.asker.extension (some o.groups) (some groups) → Said o.asker.extension o.radios radios
      → AsListed (delete o room) (delete (delete_with o groups radios) room)
  hands_over : (o : Handover) (owners : Numbers)
      → Said o.asker.extension (some o.owners) (some owners) → AsListed (handover o) (handover (handover_with o owners))

-- what such orders do is one: under any placing, in any ledger, they are refused alike, leave one ledger, and send the same
pub record AsOne (p : Placing) (l : Ledger) (s s' : Step) : Type 0 where
  pub refuses : refused p l s ≡ refused p l s'
  pub leaves : step p l s ≡ step p l s'
  pub sends : sent p l s ≡ sent p l s'

-- ---- there is such a list for every range of at most ten numbers ----

-- a number's identity, with SSI and extension
abbrev pub whole : ℕ → Identity
whole k = record { form = 2; sna = 0; ssi = ssi_of k; extension = extension_of k }

-- number type 0 for one number, else how many
abbrev pub spelled_out : ℕ → Numbers → Numbers
spelled_out home range =
    let n = length (numbers home range) in
    record { code = cond (eqb n 1) 0 n; places = map whole (numbers home range) }
