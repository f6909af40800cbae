-- `Frame::after_form` meets its contract: form 1 is an SNA, a higher one an SSI, form 3 with an extension.
-- Assumes nothing.
use Rattle.std.proofs.lemmas.Result.{IfOk-at_ok, on_ok_weaker}
use mathlib.Core.Path.{◌≡◌, refl}
use Prim.Native.Nat.{◌+◌}
use native.Mathlib.Omega.{arith}
use Rattle.reading.specs.Reads.{bits_in}
use Rattle.reading.proofs.ReadLaws.{reading}
use Rattle.reading.proofs.FillLaws.{reads_as, fills, left_by}
use Rattle.table.proofs.IdentityLaws.{form-sna, form-none, form-stop, form-ssi}
use Rattle.reading.proofs.parts.Frame.after_form.Goals as goal

pub returns-in-0 : goal.returns-in-0
returns-in-0 c =
    let a = c.args in
    fills (a.form + 1) c.requires.0 c.skip.ensures.0 refl c.skip.ensures.1
    (form-none (reading (bits_in a.self)) a.form a.into.now.values (omega arith) a.at c.in-0.is (λ q h. a.into.now.clear q (omega arith)))

pub returns-in_err-next-in-1 : goal.returns-in_err-next-in-1
returns-in_err-next-in-1 c =
    let a = c.args in
    fills (a.form + 1) c.requires.0 refl (left_by c.from_residual.result c.from_residual.ensures.1) tt
    (form-sna (reading (bits_in a.self)) a.form a.into.now.values (omega arith) a.at _ _ c.in-1.is (λ q h. a.into.now.clear q (omega arith))
    (reads_as (a.form + 1) c.requires.0 refl c.in_err-next-in-1.was c.field.ensures))

pub returns-in_ok-next-in-1 : goal.returns-in_ok-next-in-1
returns-in_ok-next-in-1 c =
    let a = c.args in
    let moved = IfOk-at_ok _ c.in_ok-next-in-1.was c.field.ensures.moved in
    fills (a.form + 1) c.requires.0 c.skip-in-1.ensures.0 refl (omega (arith, moved, c.skip-in-1.ensures.1))
    (form-sna (reading (bits_in a.self)) a.form a.into.now.values (omega arith) a.at _ _ c.in-1.is (λ q h. a.into.now.clear q (omega arith))
    (reads_as (a.form + 1) c.requires.0 refl c.in_ok-next-in-1.was c.field.ensures))

pub returns-in_err-next-in_default : goal.returns-in_err-next-in_default
returns-in_err-next-in_default c =
    let a = c.args in
    let place : c.skip-in_default.new.self.place ≡ a.form + 2 = omega (arith, c.skip-in_default.ensures.1) in
    fills (a.form + 1) c.requires.0 refl (left_by c.from_residual-in_err-next-in_default.result c.from_residual-in_err-next-in_default.ensures.1) tt
    (form-stop (reading (bits_in a.self)) a.form a.into.now.values (omega arith) a.at _ _ (omega arith) (λ q h. a.into.now.clear q (omega arith))
    (reads_as (a.form + 2) place c.skip-in_default.ensures.0 c.in_err-next-in_default.was c.field-in_default.ensures) _ refl tt)

pub returns-in_ok-next-in_default : goal.returns-in_ok-next-in_default
returns-in_ok-next-in_default c =
    let a = c.args in
    let place : c.skip-in_default.new.self.place ≡ a.form + 2 = omega (arith, c.skip-in_default.ensures.1) in
    let moved = IfOk-at_ok _ c.in_ok-next-in_default.was c.field-in_default.ensures.moved in
    let behind : c.field-in_default.new.into.place ≡ a.form + 3 = omega (arith, place, moved) in
    fills (a.form + 1) c.requires.0 refl refl (on_ok_weaker c.extension.result (λ m. omega (arith, m, behind)) c.extension.ensures.moved)
    (form-ssi (reading (bits_in a.self)) a.form a.into.now.values (omega arith) a.at _ _ (omega arith) (λ q h. a.into.now.clear q (omega arith))
    (reads_as (a.form + 2) place c.skip-in_default.ensures.0 c.in_ok-next-in_default.was c.field-in_default.ensures) _ _ _ refl
    (reads_as (a.form + 3) behind refl refl c.extension.ensures))
