-- A group's stretch of rising pairs is the list of the rules; and only one rising list says the same of every radio.
use Prim.Native.Nat.{ℕ}
use mathlib.Core.Path.{◌≡◌, refl, sym, ◌∙◌, ap, subst}
use mathlib.Core.Bool.{Bool, true, cond}
use mathlib.Core.List.{List, [], ◌∷◌}
use mathlib.Core.Option.{Option, none, some}
use lib.Dec.{eqb, ltb}
use borrow.Author.Tests.{eqb-true, lt-ltb}
use Rattle.rules.specs.Lists.{present, rises, mem, Above, Rising}
use Rattle.rules.specs.Entries.{find}
use Rattle.rules.specs.Mark.{Mark, state_of}
use Rattle.rules.specs.World.{World}
use Rattle.rules.specs.Replies.{Entry, entries}
use Rattle.rules.specs.Ledger.{Pair, same_pair, Ledger, view, radios_of, members}
use Rattle.rules.specs.ByNumber.{lower, below_pair}
use Rattle.rules.specs.Listing.{gathered}
use Rattle.rules.specs.Demand.{told, entry_radios}
use Rattle.rules.proofs.Tests.{split}
use Rattle.rules.proofs.ListLaws.{mem-rising, rising-rising}
use Rattle.rules.proofs.Rises.{Over, Climbs}
use Rattle.rules.proofs.ByKey.{key-climbs, same_entries}
use Rattle.rules.proofs.ByNumber.{numbers-linear, pairs-linear, above-radio}
use Rattle.rules.proofs.Totals.{mem-radios}

-- ---- rising entries go by what is found ----

climbs-entries : (l : List Entry) → Rising (entry_radios l) → Climbs (lower ltb) l
climbs-entries [] r = tt
climbs-entries (e ∷ l) r = (over l r.0, climbs-entries l r.1)
  where
    over : (l : List Entry) → Above e.0 (entry_radios l) → Over (lower ltb) e l
    over [] a = tt
    over (x ∷ l) a = (lt-ltb e.0 x.0 a.0, over l a.1)

pub same-listed : (a b : List Entry) → Rising (entry_radios a) → Rising (entry_radios b) → ((x : ℕ) → find eqb a x ≡ find eqb b x) → a ≡ b
same-listed a b r s = same_entries numbers-linear a b (climbs-entries a r) (climbs-entries b s)

-- ---- the entries of the rules ----

pub entries-radios : (w : World) (g : ℕ) (radios : List ℕ) → entry_radios (entries w radios g) ≡ radios
entries-radios w g [] = refl
entries-radios w g (r ∷ l) = ap (λ (k : List ℕ). r ∷ k) (entries-radios w g l)

entries-find : (w : World) (g r : ℕ) (radios : List ℕ) → find eqb (entries w radios g) r ≡ cond (mem r radios) (some (state_of (w.mark g r))) none
entries-find w g r [] = refl
entries-find w g r (x ∷ l) = split (eqb r x) (λ e. cc (eqb-true r x e)) (λ e. cc (entries-find w g r l))

told_is : (m : Option Mark) → cond (present m) (some (state_of m)) none ≡ told m
told_is none = refl
told_is (some m) = refl

-- entries for just the radios that have a mark say each its state, and nothing of others
pub entries-say : (w : World) (g : ℕ) (radios : List ℕ) → ((r : ℕ) → mem r radios ≡ present (w.mark g r))
    → (r : ℕ) → find eqb (entries w radios g) r ≡ told (w.mark g r)
entries-say w g radios h r =
    entries-find w g r radios ∙ ap (λ (b : Bool). cond b (some (state_of (w.mark g r))) none) (h r) ∙ told_is (w.mark g r)

-- ---- a group's stretch ----

gathered-find : (g : ℕ) (l : List (Pair × Mark)) (r : ℕ) → find eqb (gathered g l) r ≡ told (find same_pair l (g, r))
gathered-find g [] r = refl
gathered-find g (e ∷ l) r = split (eqb g e.0.0)
    (λ a. split (eqb r e.0.1) (λ b. cc) (λ b. cc (gathered-find g l r)))
    (λ a. cc (gathered-find g l r))

-- rising pairs have each group's radios rising
over-gathered : (g : ℕ) (x : Pair × Mark) (l : List (Pair × Mark)) → eqb g x.0.0 ≡ true → Over (lower below_pair) x l
    → Above x.0.1 (entry_radios (gathered g l))
over-gathered g x [] q h = tt
over-gathered g x (e ∷ l) q h = split (eqb g e.0.0)
    (λ a. rw a (above-radio x.0 e.0 (sym (eqb-true g x.0.0 q) ∙ eqb-true g e.0.0 a) h.0, over-gathered g x l q h.1))
    (λ a. rw a (over-gathered g x l q h.1))

gathered-rising : (g : ℕ) (l : List (Pair × Mark)) → Climbs (lower below_pair) l → Rising (entry_radios (gathered g l))
gathered-rising g [] c = tt
gathered-rising g (e ∷ l) c = split (eqb g e.0.0)
    (λ a. rw a (over-gathered g e l a c.0, gathered-rising g l c.1))
    (λ a. rw a (gathered-rising g l c.1))

-- so its stretch is the list of the rules
pub listed-members : (l : Ledger) (g : ℕ) → rises (lower below_pair) l.pairs ≡ true → gathered g l.pairs ≡ entries (view l) (members l g) g
listed-members l g s = same-listed (gathered g l.pairs) (entries (view l) (members l g) g)
    (gathered-rising g l.pairs (key-climbs pairs-linear l.pairs s))
    (subst Rising (sym (entries-radios (view l) g (members l g))) (rising-rising (radios_of g l.pairs)))
    (λ r. gathered-find g l.pairs r
    ∙ sym (entries-say (view l) g (members l g) (λ r. mem-rising r (radios_of g l.pairs) ∙ mem-radios g r l.pairs) r))

gathered-radios : (g : ℕ) (l : List (Pair × Mark)) → entry_radios (gathered g l) ≡ radios_of g l
gathered-radios g [] = refl
gathered-radios g (e ∷ l) = split (eqb g e.0.0) (λ a. cc (gathered-radios g l)) (λ a. cc (gathered-radios g l))

-- and its radios are the members
pub stretch-members : (l : Ledger) (g : ℕ) → rises (lower below_pair) l.pairs ≡ true → radios_of g l.pairs ≡ members l g
stretch-members l g s = sym (gathered-radios g l.pairs) ∙ ap entry_radios (listed-members l g s) ∙ entries-radios (view l) g (members l g)
