-- Demand 3: after any history an owner's list, with room, is exactly the history's, and so is an owner's show.
use Prim.Native.Nat.{ℕ, ◌≤◌}
use mathlib.Core.Path.{◌≡◌, refl, sym, ap, ◌∙◌, subst}
use mathlib.Core.Bool.{true, false, cond}
use mathlib.Core.List.{List, [], ◌∷◌}
use mathlib.Core.Option.{Option, none, some}
use lib.Dec.{eqb}
use lib.ListN.{length}
use borrow.Author.Tests.{le-ltb}
use Rattle.rules.specs.Lists.{present, mem, rising, Rising}
use Rattle.rules.specs.Entries.{find}
use Rattle.rules.specs.Number.{Number, key, wide_key}
use Rattle.rules.specs.Parameters.{no_parameters}
use Rattle.rules.specs.Mark.{Mark}
use Rattle.rules.specs.World.{World, owners_in}
use Rattle.rules.specs.Refusals.{accepted, show_refusal, list_refusal}
use Rattle.rules.specs.Replies.{Entry, entries, Listing, Showing}
use Rattle.rules.specs.Ledger.{Group, same_pair, group, owners_of, list, show}
use Rattle.rules.specs.Placing.{Placing, Lawful}
use Rattle.rules.specs.ByNumber.{by_number}
use Rattle.rules.specs.Written.{good_mark}
use Rattle.rules.specs.History.{History, named_in, world, stands, owner, mark, radios_in, list_in, show_in}
use Rattle.rules.specs.Run.{run}
use Rattle.rules.specs.Demand.{Owns, told, entry_radios, Exactly, Tells}
use Rattle.rules.proofs.Tests.{split, clash}
use Rattle.rules.proofs.ListLaws.{rising-keep, rising-rising}
use Rattle.rules.proofs.ByNumber.{by_number_lem}
use Rattle.rules.proofs.Totals.{within-history, narrow}
use Rattle.rules.proofs.Agree.{run_agree, list-agree, show-agree}
use Rattle.rules.proofs.Written.{run-form, standing-narrow}
use Rattle.rules.proofs.Listing.{same-listed, entries-radios, entries-say}

-- ---- the history's own list ----

-- the radios of a group are those with a mark
pub radios-marked : (h : History) (g r : ℕ) → mem r (radios_in h g) ≡ present (mark h g r)
radios-marked h g r = sym (narrow r (λ r. present (mark h g r)) (named_in h).radios ((within-history h).radios g r))

owners-owning : (h : History) (g a : ℕ) → mem a (owners_in (world h) (named_in h).owners g) ≡ owner h g a
owners-owning h g a = sym (narrow a (owner h g) (named_in h).owners ((within-history h).owners g a))

entries-exact : (h : History) (g : ℕ) → Exactly h g (entries (world h) (radios_in h g) g)
entries-exact h g = record {
  rises = subst Rising (sym (entries-radios (world h) g (radios_in h g)))
      (rising-keep (λ r. present (mark h g r)) (rising (named_in h).radios) (rising-rising (named_in h).radios));
  says = entries-say (world h) g (radios_in h g) (radios-marked h g);
}

module _ (p : Placing) (laws : Lawful p) (h : History) where
  -- ---- an owner is not refused ----

  -- what stands are keys in range
  pub radio-narrow : (g r : ℕ) → present (mark h g r) ≡ true → wide_key r ≡ false
  radio-narrow g r = subst (λ (w : World). present (w.mark g r) ≡ true → wide_key r ≡ false) (run_agree p laws h)
      (there (find same_pair (run p h).pairs (g, r)) ((run-form p laws h).marks g r))
    where
      there : (o : Option Mark) → ((m : Mark) → o ≡ some m → (wide_key r ≡ false) × (good_mark m ≡ true)) → present o ≡ true → wide_key r ≡ false
      there none f e = clash (sym e)
      there (some m) f e = (f m refl).0

  pub owner-narrow : (g a : ℕ) → owner h g a ≡ true → wide_key a ≡ false
  owner-narrow g a = subst (λ (w : World). w.owner g a ≡ true → wide_key a ≡ false) (run_agree p laws h) (standing-narrow p (run p h) (run-form p laws h) g a)

  -- a group that has an owner stands
  owned-stands : (g a : ℕ) → owner h g a ≡ true → stands h g ≡ true
  owned-stands g a = subst (λ (w : World). w.owner g a ≡ true → w.stands g ≡ true) (run_agree p laws h) (there (group (run p h) g))
    where
      there : (o : Option Group) → mem a (owners_of o) ≡ true → present o ≡ true
      there none e = clash (sym e)
      there (some x) e = refl

  -- ---- the demand ----

  -- by an owner, with room for the group's radios: the list is accepted, and is exactly the history's
  pub list-exact : (asker g : Number) (room : ℕ) → Owns h asker g → length (radios_in h (key g)) ≤ room
      → ((list (run p h) asker g room).refused ≡ none) × Exactly h (key g) (list (run p h) asker g room).entries
  list-exact asker g room o n =
      subst (λ (l : Listing). (l.refused ≡ none) × Exactly h (key g) l.entries) (sym (list-agree p laws h asker g room ∙ told-all))
      (refl, entries-exact h (key g))
    where
      taken : list_refusal (world h) asker g (radios_in h (key g)) room ≡ none
      taken = cc (o.narrow_asker, o.narrow_group, owned-stands (key g) (key asker) o.owns, o.owns, le-ltb room (length (radios_in h (key g))) n)

      told-all : list_in h asker g room ≡ record { refused = none; entries = entries (world h) (radios_in h (key g)) (key g) }
      told-all = λ i. record { refused = taken i; entries = cond (accepted (taken i)) (entries (world h) (radios_in h (key g)) (key g)) [] }

  -- by an owner: the show is accepted, and tells what the history says
  pub show-exact : (asker g : Number) → Owns h asker g
      → ((show (run p h) asker g).refused ≡ none) × Tells h (key g) (show (run p h) asker g).owners (show (run p h) asker g).parameters
  show-exact asker g o =
      subst (λ (s : Showing). (s.refused ≡ none) × Tells h (key g) s.owners s.parameters) (sym (show-agree p laws h asker g ∙ told-all)) (
        refl,
        record {
          rises = rising-keep (owner h (key g)) (rising (named_in h).owners) (rising-rising (named_in h).owners);
          owns = owners-owning h (key g);
          has = refl;
        },
      )
    where
      taken : show_refusal (world h) asker g ≡ none
      taken = cc (o.narrow_asker, o.narrow_group, owned-stands (key g) (key asker) o.owns, o.owns)

      owners : List ℕ
      owners = owners_in (world h) (named_in h).owners (key g)

      told-all : show_in h asker g ≡ record { refused = none; owners = owners; parameters = (world h).parameters (key g) }
      told-all = λ i. record {
        refused = taken i;
        owners = cond (accepted (taken i)) owners [];
        parameters = cond (accepted (taken i)) ((world h).parameters (key g)) no_parameters;
      }

-- something is told of a pair where there is one
pub told-present : (o : Option Mark) → present (told o) ≡ present o
told-present none = refl
told-present (some m) = refl

-- an exact list has radios in range
pub exact-narrow : (h : History) (g : ℕ) (l : List Entry) → Exactly h g l → (r : ℕ) → mem r (entry_radios l) ≡ true → wide_key r ≡ false
exact-narrow h g l x r m = radio-narrow by_number by_number_lem h g r
    (sym (told-present (mark h g r)) ∙ sym (ap present (x.says r)) ∙ sym (entries-found l r) ∙ m)
  where
    entries-found : (l : List Entry) (r : ℕ) → mem r (entry_radios l) ≡ present (find eqb l r)
    entries-found [] r = refl
    entries-found (e ∷ l) r = split (eqb r e.0) (λ q. rw q refl) (λ q. rw q (entries-found l r))

-- only one list is exact
pub exactly-unique : (h : History) (g : ℕ) (a b : List Entry) → Exactly h g a → Exactly h g b → a ≡ b
exactly-unique h g a b p q = same-listed a b p.rises q.rises (λ x. p.says x ∙ sym (q.says x))
