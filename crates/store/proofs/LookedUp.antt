-- Among rising entries, what a place tells and what is wrong with named groups go by what is found.
use mathlib.Core.Path.{◌≡◌, ap, ◌∙◌}
use mathlib.Core.Bool.{Bool, true}
use mathlib.Core.List.{List}
use Prim.Native.Nat.{ℕ}
use lib.Dec.{eqb, ltb}
use Rattle.rules.specs.Lists.{any, present, rises}
use Rattle.rules.specs.Entries.{find}
use Rattle.rules.specs.ByNumber.{lower}
use Rattle.rules.specs.Ledger.{Group}
use Rattle.rules.proofs.ByKey.{Linear}
use Rattle.rules.proofs.ByNumber.{numbers-linear}
use Rattle.store.specs.Named.{group_fault}
use Rattle.store.specs.Places.{looked_up, place_of, stands_at}
use Rattle.store.specs.declared.Standing.{Standing}
use Rattle.store.proofs.PlaceLaws.{place-present, looked-found}

pub place_found : {K X : Type 0} {same below : K → K → Bool} (o : Linear same below) (l : List (K × X)) (k : K) → rises (lower below) l ≡ true
    → stands_at (place_of below same l k) ≡ present (find same l k)
place_found {same = same} {below = below} o l k r = place-present below same l k ∙ ap present (looked-found o l k r)

pub faults-found : (l : List (ℕ × Group)) → rises (lower ltb) l ≡ true → (s : Standing) (asker : ℕ) (named : List ℕ)
    → any (λ g. group_fault s (looked_up ltb eqb l g) asker) named ≡ any (λ g. group_fault s (find eqb l g) asker) named
faults-found l r s asker named = λ i. any (λ g. group_fault s (looked-found numbers-linear l g r i) asker) named
