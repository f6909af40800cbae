-- `answering::answer` meets its contract.
use mathlib.Core.Path.{◌≡◌, sym, ◌∙◌}
use native.Mathlib.Omega.{arith}
use Prim.Native.Nat.{ℕ}
use mathlib.Core.List.{map}
use lib.ListN.{take}
use Rattle.rules.specs.Ledger.{same_pair}
use Rattle.rules.specs.ByNumber.{below_pair}
use Rattle.rules.specs.Number.{key}
use Rattle.order.specs.Steps.{answer_step}
use Rattle.order.specs.Numbers.{radio_number, group_number}
use Rattle.order.specs.declared.Gtsi.{Gtsi}
use Rattle.order.specs.declared.Itsi.{Itsi}
use Rattle.store.specs.Storage.{Rows, Contents, contents, pair_of, pair_count, ledger_of}
use Rattle.store.specs.Form.{Sound}
use Rattle.store.specs.Places.{place_of}
use Rattle.std.specs.Prelude.{Result, Ok}
use Rattle.std.proofs.lemmas.Result.{err_from_is_err_and}
use Rattle.replies.specs.Orders.{reply_of, verdict}
use Rattle.replies.proofs.Orders.{refused-stays, taken_step, taken-after}
use Rattle.answering.proofs.Answered.{pair_named, pair-in-rows, answered-laid, no-pair-refused}
use Rattle.answering.proofs.answer.Goals as goal
use Rattle.answering.proofs.answer.Goals.{After-answer_fault, After-place}

-- the place that was looked for
looked : (x : Contents) (radio : Itsi) (group : Gtsi) (rows : Rows) (g r : ℕ) (p : Result ℕ ℕ) → rows ≡ take (pair_count x) x.pairs
    → g ≡ key (group_number group) → r ≡ key (radio_number radio) → p ≡ place_of below_pair same_pair (map pair_of rows) (g, r)
    → p ≡ place_of below_pair same_pair (ledger_of x).pairs (pair_named radio group)
looked x radio group rows g r p l e h s = rw (l, e, h) at s

place : (c : After-place) → let a = c.args in
    let x = contents a.head.now a.groups.now a.pairs.now in
    c.place.result ≡ place_of below_pair same_pair (ledger_of x).pairs (pair_named a.radio a.group)
place c =
    let a = c.args in
    looked (contents a.head.now a.groups.now a.pairs.now) a.radio a.group _ _ _ _ c.pair_rows.ensures c.from.ensures c.from-2.ensures c.place.ensures

pub returns-in_err-answer_fault : goal.returns-in_err-answer_fault
returns-in_err-answer_fault c =
    let a = c.args in
    let e = err_from_is_err_and c.from_residual.result c.from_residual.ensures.1 in
    let told = sym c.in_err-answer_fault.was ∙ c.answer_fault.ensures.judges in
    rw (e.1, e.2)
    (record { replies = told; leaves = refused-stays (contents a.head.now a.groups.now a.pairs.now) (answer_step a.radio a.group a.kind a.res) _ told })

pub unreachable-requires : goal.unreachable-requires
unreachable-requires c =
    let a = c.args in
    let x = contents a.head.now a.groups.now a.pairs.now in
    let s = answer_step a.radio a.group a.kind a.res in
    -- an answer that is taken finds the contents in their form
    let w : Sound x = c.answer_fault.ensures.sound c.in_ok-answer_fault.was in
    let taken : Ok tt ≡ reply_of (verdict x s) = sym c.in_ok-answer_fault.was ∙ c.answer_fault.ensures.judges in
    no-pair-refused x w a.radio a.group a.kind a.res _ (sym c.in_default.is ∙ place (goal.at.unreachable-requires c).After-place) (taken_step x s taken).1

pub settle-requires : goal.settle-requires
settle-requires c =
    let a = c.args in
    let x = contents a.head.now a.groups.now a.pairs.now in
    let w : Sound x = c.answer_fault.ensures.sound c.in_ok-answer_fault.was in
    let r = pair-in-rows x w (Ok c.in-Ok.at) (pair_named a.radio a.group) (sym c.in-Ok.is ∙ place (goal.at.settle-requires c).After-place) in
    (r.inside, omega (arith, w.pairs, w.few_pairs), w.pair_rows)

pub returns : goal.returns
returns c =
    let a = c.args in
    let x = contents a.head.now a.groups.now a.pairs.now in
    let s = answer_step a.radio a.group a.kind a.res in
    let w : Sound x = c.answer_fault.ensures.sound c.in_ok-answer_fault.was in
    let taken : Ok tt ≡ reply_of (verdict x s) = sym c.in_ok-answer_fault.was ∙ c.answer_fault.ensures.judges in
    let u = taken_step x s taken in
    record {
      replies = taken;
      leaves = answered-laid x w a.radio a.group a.kind a.res _ _ _ (sym c.in-Ok.is ∙ place (goal.at.returns c).After-place)
          (rw c.outcome.ensures at c.settle.ensures) ∙ sym (taken-after x s u.0 u.1).1;
    }
