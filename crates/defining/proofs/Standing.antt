-- Rows have room for the groups that stand, and for those that a define which is taken makes of them.
use mathlib.Core.Path.{◌≡◌}
use mathlib.Core.Bool.{false}
use Prim.Native.Nat.{ℕ, ◌≤◌}
use lib.Dec.{ltb}
use lib.ListN.{length}
use Rattle.rules.specs.Lists.{any, rising}
use Rattle.rules.specs.Owners.{max_owners}
use Rattle.rules.specs.Order.{Define, define, define_groups, define_owners}
use Rattle.rules.specs.Effect.{effect}
use Rattle.rules.specs.Ledger.{view}
use Rattle.rules.specs.Steps.{tally}
use Rattle.rules.proofs.Rises.{rises-rising}
use Rattle.rules.proofs.ListLaws.{rising-rising}
use Rattle.rules.proofs.JoinLaws.{rising-late}
use Rattle.rules.proofs.ByNumber.{by_number_lem}
use Rattle.rules.proofs.Written.{good-owners, few-owners}
use Rattle.store.specs.Storage.{Contents, placing, ledger_of}
use Rattle.store.specs.Form.{Sound}
use Rattle.making.proofs.Standing.{formed, fine-found}
use Rattle.defining.specs.Groups.{Grows}

-- a define that passes 21: the owners who come are those of the order, rising
pub define-grows : (c : Contents) → Sound c → (o : Define) (room : ℕ)
    → any (λ g. ltb max_owners ((tally placing (ledger_of c) (effect (view (ledger_of c)) (define o room))).owners g)) (define_groups o) ≡ false
    → length (rising (define_owners o)) ≤ max_owners → Grows (ledger_of c).groups (define_groups o) (rising (define_owners o))
define-grows c w o room h fits =
    let l = ledger_of c in
    let f = formed c w in
    record {
      fine = λ g x e. (fine-found c w g x e, rises-rising x.owners (good-owners placing l f g x e).form);
      few = λ g x m e. rw (rising-late x.owners (define_owners o)) (rw e at (few-owners placing by_number_lem l f o room h g m));
      rises = rising-rising (define_owners o);
      fits = fits;
    }
