-- Contents in their written form are in the law's, and a group that stands has room in its row.
use mathlib.Core.Path.{◌≡◌}
use mathlib.Core.Bool.{not, ◌&&◌}
use mathlib.Core.Option.{some}
use Prim.Native.Nat.{ℕ}
use lib.Dec.{eqb}
use borrow.Author.Tests.{not-true}
use Rattle.rules.specs.Entries.{find}
use Rattle.rules.specs.Number.{wide_key}
use Rattle.rules.specs.Parameters.{bad_parameters}
use Rattle.rules.specs.Ledger.{Group}
use Rattle.rules.specs.Written.{good_owners}
use Rattle.rules.proofs.Tests.{and_r}
use Rattle.rules.proofs.Ranges.{in-range}
use Rattle.rules.proofs.Written.{Form, written-form, good-owners}
use Rattle.store.specs.Storage.{Contents, placing, ledger_of}
use Rattle.store.specs.Form.{Sound}
use Rattle.store.proofs.FormLaws.{law-form}
use Rattle.making.specs.Fine.{Fine}

pub formed : (c : Contents) → Sound c → Form placing (ledger_of c)
formed c w = written-form placing (ledger_of c) (law-form c w)

pub fine-found : (c : Contents) → Sound c → (g : ℕ) (x : Group) → find eqb (ledger_of c).groups g ≡ some x → Fine x
fine-found c w g x e =
    let f = formed c w in
    let good = good_owners placing x.owners in
    let bad = bad_parameters x.parameters in
    let fine = and_r good (not bad) (and_r (not (wide_key g)) (good && not bad) (f.groups g x e)) in
    ((in-range x.parameters (not-true bad fine)).name, (good-owners placing (ledger_of c) f g x e).few)
