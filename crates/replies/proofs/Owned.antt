-- The reply by whose a group is: 12, then 13.
use mathlib.Core.Path.{◌≡◌, refl, ap, ◌∙◌}
use mathlib.Core.Bool.{Bool, true, false, cond, not}
use mathlib.Core.List.{List, [], ◌∷◌}
use mathlib.Core.Option.{Option, none, some}
use Prim.Native.Nat.{ℕ}
use lib.Dec.{eqb, ltb}
use Rattle.std.specs.Prelude.{Result, Ok, Err, ⊤}
use Rattle.refusal.specs.declared.Refusal.{Refusal}
use Rattle.refusal.specs.declared.Refusal.TheVariants.{NoSuchGroup, NotOwner}
use Rattle.rules.specs.Lists.{mem, present}
use Rattle.rules.specs.Entries.{find}
use Rattle.rules.specs.Refusals.{first}
use Rattle.rules.specs.Ledger.{Group, owners_of, view}
use Rattle.rules.proofs.ByNumber.{numbers-linear}
use Rattle.store.specs.Storage.{Contents, ledger_of}
use Rattle.store.specs.Form.{Sound}
use Rattle.store.specs.Places.{looked_up}
use Rattle.store.specs.Named.{owned_as}
use Rattle.store.proofs.FormLaws.{groups-rise}
use Rattle.store.proofs.PlaceLaws.{looked-found}
use Rattle.replies.specs.Orders.{reply_of}

-- the tests that tell it
abbrev pub owned_tests : Contents → ℕ → ℕ → List (Refusal × Bool)
owned_tests c g a = (NoSuchGroup, not ((view (ledger_of c)).stands g)) ∷ (NotOwner, not ((view (ledger_of c)).owner g a)) ∷ []

-- whether a group is the asker's, looked up, is what these tests tell
pub owned-replies : (c : Contents) → Sound c → (g a : ℕ) → owned_as (looked_up ltb eqb (ledger_of c).groups g) a ≡ reply_of (first (owned_tests c g a))
owned-replies c w g a =
    ap (λ (x : Option Group). owned_as x a) (looked-found numbers-linear (ledger_of c).groups g (groups-rise c w))
    ∙ found (find eqb (ledger_of c).groups g)
  where
    owns : (b : Bool) → ◌≡◌ {A = Result ⊤ Refusal} (cond b (Ok tt) (Err NotOwner)) (reply_of (cond (not b) (some NotOwner) none))
    owns true = refl
    owns false = refl

    found : (x : Option Group) → owned_as x a ≡ reply_of (cond (not (present x)) (some NoSuchGroup) (cond (not (mem a (owners_of x))) (some NotOwner) none))
    found none = refl
    found (some x) = owns (mem a x.owners)
