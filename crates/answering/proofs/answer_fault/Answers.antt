-- `answering::answer_fault` meets its contract: past the tests of the order's form and its ranges, whether the group stands and the pair is open.
use mathlib.Core.Path.{◌≡◌, sym, ap, ◌∙◌}
use mathlib.Core.Bool.{Bool, false, ◌||◌}
use mathlib.Core.List.{map}
use Prim.Native.Nat.{ℕ}
use lib.Dec.{eqb, ltb}
use lib.ListN.{take}
use Rattle.std.specs.Prelude.{Result, Option}
use Rattle.std.proofs.Common.{rules, tests}
use Rattle.rules.specs.Lists.{present}
use Rattle.rules.specs.Entries.{find}
use Rattle.rules.specs.Number.{key, wide_number}
use Rattle.rules.specs.Ledger.{same_pair}
use Rattle.rules.specs.ByNumber.{below_pair}
use Rattle.rules.specs.Mark.{open?}
use Rattle.rules.specs.declared.AnswerKind.{AnswerKind}
use Rattle.rules.proofs.ByNumber.{numbers-linear, pairs-linear}
use Rattle.order.specs.Numbers.{radio_number, group_number}
use Rattle.order.specs.declared.Gtsi.{Gtsi}
use Rattle.order.specs.declared.Itsi.{Itsi}
use Rattle.store.specs.Lent.{contents_of}
use Rattle.store.specs.Storage.{Rows, Contents, group_of, pair_of, group_count, pair_count, ledger_of}
use Rattle.store.specs.Places.{stands_at, place_of, looked_up, found_of}
use Rattle.store.specs.Form.{Sound}
use Rattle.store.proofs.PlaceLaws.{place-present, looked-found}
use Rattle.store.proofs.FormLaws.{groups-rise, pairs-rise}
use Rattle.replies.proofs.Orders.{not_done}
use Rattle.answering.specs.Answers.{as_mark}
use Rattle.answering.proofs.Answered.{pair_named, found-open}
use Rattle.answering.proofs.answer_fault.Goals as goal
use Rattle.answering.proofs.answer_fault.Goals.{After-stands, After-is_open}

module _ (x : Contents) (w : Sound x) where
  -- whether the group stands
  there : (group : Gtsi) (rows : Rows) (g : ℕ) (p : Result ℕ ℕ) (b : Bool) → rows ≡ take (group_count x) x.groups → g ≡ key (group_number group)
      → p ≡ place_of ltb eqb (map group_of rows) g → b ≡ stands_at p → present (find eqb (ledger_of x).groups (key (group_number group))) ≡ b
  there group rows g p b r e q s = rw (s, q, r, e)
      (sym (place-present ltb eqb (ledger_of x).groups (key (group_number group))
      ∙ ap present (looked-found numbers-linear (ledger_of x).groups (key (group_number group)) (groups-rise x w))))

  -- whether the pair is open
  opened : (kind : AnswerKind) (radio : Itsi) (group : Gtsi) (rows : Rows) (g r : ℕ) (f : Option ℕ) (b : Bool) → rows ≡ take (pair_count x) x.pairs
      → g ≡ key (group_number group) → r ≡ key (radio_number radio) → f ≡ found_of (looked_up below_pair same_pair (map pair_of rows) (g, r))
      → b ≡ open? kind (as_mark f) → open? kind (find same_pair (ledger_of x).pairs (pair_named radio group)) ≡ b
  opened kind radio group rows g r f b l e h q s = rw (s, q, l, e, h)
      (sym (found-open kind (looked_up below_pair same_pair (ledger_of x).pairs (pair_named radio group))
      ∙ ap (open? kind) (looked-found pairs-linear (ledger_of x).pairs (pair_named radio group) (pairs-rise x w))))

-- the contents are in their form, and the order is within its ranges
sound : (c : After-stands) → Sound (contents_of c.args.lent)
sound c = c.written.ensures.1 c.if-not-written.false

good : (c : After-stands) → let a = c.args in
    (wide_number (radio_number a.radio) || (wide_number (group_number a.group) || (eqb a.res 0 || ltb 4 a.res))) ≡ false
good c = rw (sym c.wide_radio.ensures ∙ c.if-wide_radio.false, sym c.wide_group.ensures ∙ c.if-wide_group.false) (search (tests, rules))

stands : (c : After-stands) → let a = c.args in present (find eqb (ledger_of (contents_of a.lent)).groups (key (group_number a.group))) ≡ c.stands.result
stands c = there _ (sound c) c.args.group _ _ _ _ c.group_rows.ensures c.from-group.ensures c.place.ensures c.stands.ensures

pub returns-then-not-stands : goal.returns-then-not-stands
returns-then-not-stands c =
    let p = (goal.at.returns-then-not-stands c).After-stands in
    record { judges = rw ((sound p).form, good p, stands p, c.if-not-stands.true); sound = not_done _ }

opens : (c : After-is_open) → let a = c.args in
    Sound (contents_of a.lent) → open? a.kind (find same_pair (ledger_of (contents_of a.lent)).pairs (pair_named a.radio a.group)) ≡ c.is_open.result
opens c w =
    let a = c.args in
    opened _ w a.kind a.radio a.group _ _ _ _ _ c.pair_rows.ensures c.from-group.ensures c.from.ensures c.find.ensures c.is_open.ensures

pub returns-then-not-is_open : goal.returns-then-not-is_open
returns-then-not-is_open c =
    let at = goal.at.returns-then-not-is_open c in
    let p = at.After-stands in
    record {
      judges = rw ((sound p).form, good p, stands p, c.if-not-stands.false, opens at.After-is_open (sound p), c.if-not-is_open.true);
      sound = not_done _;
    }

pub returns : goal.returns
returns c =
    let at = goal.at.returns c in
    let p = at.After-stands in
    record {
      judges = rw ((sound p).form, good p, stands p, c.if-not-stands.false, opens at.After-is_open (sound p), c.if-not-is_open.false);
      sound = λ e. sound p;
    }
