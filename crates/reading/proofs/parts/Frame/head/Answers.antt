-- `Frame::head` meets its contract: a cut element first, then SS-Type, then action type.
-- Assumes nothing.
use Prim.Native.Nat.{ℕ, ◌*◌, ◌≤◌}
use mathlib.Core.Path.{◌≡◌, sym, ap, ap₂, ◌∙◌}
use mathlib.Core.List.{List, []}
use lib.ListN.{length}
use native.Mathlib.Omega.{arith}
use Rattle.std.specs.Prelude.{Option, Some, None, Err}
use Rattle.std.specs.Option.{ok_or}
use Rattle.refusal.specs.declared.Refusal.TheVariants.{EndsInside}
use Rattle.bits.specs.Field.{first_two}
use Rattle.layout.specs.Frame.{rows}
use Rattle.reading.specs.Reads.{bits_in, onward}
use Rattle.reading.proofs.ReadLaws.{Seen, seen}
use Rattle.reading.proofs.FillLaws.{left_by}
use Rattle.reading.proofs.Going.{head-cut, head-short, head-type, head-action, head-good}
use Rattle.reading.proofs.parts.Frame.head.Goals as goal

-- what the two fields hold
module _ (bytes : List ℕ) (count : ℕ) (lent : count ≤ 8 * length bytes) (two : Option ℕ × Option ℕ) (is : two ≡ first_two bytes count 6 4) where
  first-seen : (t : Option ℕ) → two.0 ≡ t → Seen bytes count 0 6 t
  first-seen t e = seen bytes count 0 6 lent (omega arith) t (sym e ∙ ap (λ (x : Option ℕ × Option ℕ). x.0) is)

  second-seen : (t : Option ℕ) → two.1 ≡ t → Seen bytes count 6 4 t
  second-seen t e = seen bytes count 6 4 lent (omega arith) t (sym e ∙ ap (λ (x : Option ℕ × Option ℕ). x.1) is)

pub returns-in_err-ss : goal.returns-in_err-ss
returns-in_err-ss c =
    let f = c.args.self in
    let none : c.first_two-first.result.0 ≡ None = grind arith in
    let same : c.from_residual.result ≡ Err (record { refusal = EndsInside; bit = 0 }) =
    left_by c.from_residual.result c.from_residual.ensures.1 ∙ sym c.in_err-ss.was ∙ c.ok_or.ensures.value ∙ ap₂ ok_or none c.refused.ensures in
    head-cut c.args.kind f.bytes.now f.bits f.lent (first-seen f.bytes.now f.bits f.lent c.first_two-first.result c.first_two-first.ensures None none)
    ∙ ap (onward (rows c.args.kind) (bits_in f) []) (sym same)

pub returns-in_err-action : goal.returns-in_err-action
returns-in_err-action c =
    let f = c.args.self in
    let some : c.first_two-first.result.0 ≡ Some c.in_ok-ss.ss = grind arith in
    let none : c.first_two-first.result.1 ≡ None = grind arith in
    let same : c.from_residual-in_err-action.result ≡ Err (record { refusal = EndsInside; bit = 6 }) =
    left_by c.from_residual-in_err-action.result c.from_residual-in_err-action.ensures.1 ∙ sym c.in_err-action.was
    ∙ c.ok_or-2.ensures.value ∙ ap₂ ok_or none c.refused-2.ensures in
    let x = first-seen f.bytes.now f.bits f.lent c.first_two-first.result c.first_two-first.ensures (Some _) some in
    head-short c.args.kind f.bytes.now f.bits f.lent x.0
    (second-seen f.bytes.now f.bits f.lent c.first_two-first.result c.first_two-first.ensures None none)
    ∙ ap (onward (rows c.args.kind) (bits_in f) []) (sym same)

pub returns-then-ss-ne-SS_TYPE : goal.returns-then-ss-ne-SS_TYPE
returns-then-ss-ne-SS_TYPE c =
    let f = c.args.self in
    let ss : c.first_two-first.result.0 ≡ Some c.in_ok-ss.ss = grind arith in
    let action : c.first_two-first.result.1 ≡ Some c.in_ok-action.action = grind arith in
    let x = first-seen f.bytes.now f.bits f.lent c.first_two-first.result c.first_two-first.ensures (Some _) ss in
    let y = second-seen f.bytes.now f.bits f.lent c.first_two-first.result c.first_two-first.ensures (Some _) action in
    rw c.refused-then-ss-ne-SS_TYPE.ensures (head-type c.args.kind f.bytes.now f.bits f.lent y.0 _ _ x.1 y.1 c.if-ss-ne-SS_TYPE.true)

pub returns-then-action-action_type : goal.returns-then-action-action_type
returns-then-action-action_type c =
    let f = c.args.self in
    let ss : c.first_two-first.result.0 ≡ Some c.in_ok-ss.ss = grind arith in
    let action : c.first_two-first.result.1 ≡ Some c.in_ok-action.action = grind arith in
    let x = first-seen f.bytes.now f.bits f.lent c.first_two-first.result c.first_two-first.ensures (Some _) ss in
    let y = second-seen f.bytes.now f.bits f.lent c.first_two-first.result c.first_two-first.ensures (Some _) action in
    rw c.refused-then-action-action_type.ensures (head-action c.args.kind f.bytes.now f.bits f.lent y.0 _ _ x.1 y.1 c.if-ss-ne-SS_TYPE.false
    (λ e. c.if-action-action_type.true (e ∙ sym c.action_type.ensures)))

pub returns : goal.returns
returns c =
    let f = c.args.self in
    let ss : c.first_two-first.result.0 ≡ Some c.in_ok-ss.ss = grind arith in
    let action : c.first_two-first.result.1 ≡ Some c.in_ok-action.action = grind arith in
    let x = first-seen f.bytes.now f.bits f.lent c.first_two-first.result c.first_two-first.ensures (Some _) ss in
    let y = second-seen f.bytes.now f.bits f.lent c.first_two-first.result c.first_two-first.ensures (Some _) action in
    head-good c.args.kind f.bytes.now f.bits f.lent y.0 _ _ x.1 y.1 c.if-ss-ne-SS_TYPE.false (c.if-action-action_type.false ∙ c.action_type.ensures)
