-- Every history that callers may ask for is the history of some run: the contracts forbid none, so the demand speaks of all.
use mathlib.Core.Path.{◌≡◌, refl, sym, ap, ◌∙◌, subst}
use mathlib.Core.Bool.{true, cond}
use mathlib.Core.List.{List, [], ◌∷◌, map}
use mathlib.Core.Option.{Option, none, some}
use Prim.Native.Nat.{ℕ}
use lib.ListN.{length, replicate, length-replicate}
use lib.Seq.{set-get_or}
use denote.MutBor.{MutBor}
use denote.Ref.{Bor}
use Rattle.std.specs.Prelude.{Ok}
use Rattle.refusal.specs.declared.Refusal.{Refusal}
use Rattle.refusal.specs.declared.Refusal.TheVariants.{NotWritten}
use Rattle.layout.specs.declared.Record.{Record}
use Rattle.rules.specs.Entries.{alter}
use Rattle.rules.specs.Effect.{effect}
use Rattle.rules.specs.Ledger.{Pair, empty, view}
use Rattle.rules.specs.Steps.{refused}
use Rattle.rules.specs.Mark as mark
use Rattle.rules.specs.Order as order
use Rattle.rules.specs.Refusals.{max_groups, max_pairs}
use Rattle.rows.specs.Layout.{head_words, group_words, pair_words, order_words}
use Rattle.rules.specs.History.{◌then◌}
use Rattle.rules.proofs.Walks.{alter-all}
use Rattle.rules.proofs.ByNumber.{by_number_lem}
use Rattle.rules.proofs.Written.{handover-count}
use Rattle.order.specs.Steps.{handover_of, handover_step, define_step}
use Rattle.order.specs.Walks.{onto}
use Rattle.store.specs.Storage.{Rows, Contents, contents, pair_row, pairs_of, group_count, pair_count, placing, ledger_of, laid}
use Rattle.store.specs.Form.{roomy, Sound}
use Rattle.replies.specs.Orders.{answered as replied, reply_of, verdict, contents_after}
use Rattle.replies.specs.Sending.{order_row, sent_on}
use Rattle.order.specs.declared.Itsi.{Itsi}
use Rattle.order.specs.declared.Identity.{Identity}
use Rattle.order.specs.declared.Numbers.{Numbers}
use Rattle.replies.proofs.Orders.{refused-stays, taken-after, head-counts, count-groups, count-pairs, pairs-stay}
use Rattle.making.proofs.Standing.{formed}
use Rattle.answering.proofs.Answered.{turned-laid, ticked-laid}
use Rattle.demand.specs.Arguments.{Deletion, Answering, deletion_step, answering_step}
use Rattle.demand.specs.Calls.{Storage, read_only, Empties, Ticks, Answers, HandsOver, Defines, Deletes}
use Rattle.demand.specs.Runs.{Kept, begun, defined, deleted, answered, handed_over, ticked}
use Rattle.demand.specs.Asked as asked
use Rattle.demand.specs.Asked.{Asked, history_of, Reached}
use Rattle.demand.proofs.Runs.{run-stands}

-- something lent
abbrev lend : {X : Type 0} → X → MutBor X
lend x = record { ref_ptr = (0, 0); ghost_name = 0; now = x }

-- and lent to be looked at alone
abbrev show_only : {X : Type 0} → X → Bor X
show_only x = read_only (lend x)

abbrev lends : Contents → Storage
lends c = record { head = lend c.head; groups = lend c.groups; pairs = lend c.pairs }

defines : (asker : Itsi) (values : Record) (room : Rows) (c : Contents)
    → let s = define_step asker values.place (length room) in
    Defines asker values room (onto (map order_row (sent_on c s)) room) c (contents_after c s) (replied (verdict c s) (length (sent_on c s)))
defines asker values room c =
    let s = define_step asker values.place (length room) in
    let to = lends (contents_after c s) in
    record {
      lifetimes = ([], ([], ([], ([], tt))));
      lent = lends c;
      out = lend room;
      left = (to.head, (to.groups, (to.pairs, (asker, (values, (lend (onto (map order_row (sent_on c s)) room), tt))))));
      starts = refl;
      roomed = refl;
      meets = record { replies = refl; leaves = refl; sends = refl };
      ends = refl;
      sends = refl;
    }

deletes : (d : Deletion) (room : Rows) (c : Contents) → let s = deletion_step d (length room) in
    Deletes d room (onto (map order_row (sent_on c s)) room) c (contents_after c s) (replied (verdict c s) (length (sent_on c s)))
deletes d room c =
    let s = deletion_step d (length room) in
    let to = lends (contents_after c s) in
    let orders = lend (onto (map order_row (sent_on c s)) room) in
    record {
      lifetimes = ([], ([], ([], ([], tt))));
      lent = lends c;
      out = lend room;
      left = (to.head, (to.groups, (to.pairs, (d.asker, (d.named, (d.remove, (d.deassign, (d.radios, (d.acknowledgement, (orders, tt))))))))));
      starts = refl;
      roomed = refl;
      meets = record { replies = refl; leaves = refl; sends = refl };
      ends = refl;
      sends = refl;
    }

-- the groups' rows stay through an answer
answer-stays : (a : Answering) (c : Contents) → Sound c → (contents_after c (answering_step a)).groups ≡ c.groups
answer-stays a c w = go (refused placing (ledger_of c) (answering_step a)) refl
  where
    turns : ℕ → ℕ → mark.Mark → Option mark.Mark
    turns = (effect (view (ledger_of c)) (answering_step a)).turns

    go : (o : Option Refusal) → refused placing (ledger_of c) (answering_step a) ≡ o → (contents_after c (answering_step a)).groups ≡ c.groups
    go none e = ap (λ (x : Contents). x.groups) ((taken-after c (answering_step a) w.form e).1 ∙ sym (turned-laid c w turns _ _ refl refl))
    go (some r) e = ap (λ (x : Contents). x.groups)
        (sym (refused-stays c (answering_step a) r (λ i. reply_of (cond (sym w.form i) (sym e i) (some NotWritten)))))

answers : (a : Answering) (c : Contents) → Sound c → let s = answering_step a in Answers a c (contents_after c s) (reply_of (verdict c s))
answers a c w =
    let s = answering_step a in
    let to = lends (contents_after c s) in
    let e : contents (contents_after c s).head c.groups (contents_after c s).pairs ≡ contents_after c s = λ i. contents (contents_after c s).head
    (sym (answer-stays a c w) i) (contents_after c s).pairs in
    record {
      lifetimes = ([], ([], ([], tt)));
      lent = lends c;
      left = (to.head, (show_only c.groups, (to.pairs, (a.radio, (a.group, (a.kind, (a.result, tt)))))));
      starts = refl;
      meets = record { replies = refl; leaves = e };
      ends = e;
    }

-- head and pairs stay through a handover
handover-stays : (asker : Itsi) (group : Identity) (owners : Numbers) (c : Contents) → Sound c
    → let s = handover_step asker group owners in ((contents_after c s).head ≡ c.head) × ((contents_after c s).pairs ≡ c.pairs)
handover-stays asker group owners c w = go (refused placing (ledger_of c) s) refl
  where
    s : order.Step
    s = handover_step asker group owners

    go : (o : Option Refusal) → refused placing (ledger_of c) s ≡ o → ((contents_after c s).head ≡ c.head) × ((contents_after c s).pairs ≡ c.pairs)
    go none e =
        let after = (taken-after c s w.form e).1 in
        let groups = handover-count placing by_number_lem (ledger_of c) (formed c w) (handover_of asker group owners) e ∙ count-groups c w in (
          ap (λ (x : Contents). x.head) after
              ∙ (λ i. onto (groups i ∷ (ap length (alter-all (ledger_of c).pairs) ∙ count-pairs c w) i ∷ []) c.head)
              ∙ sym (head-counts c.head (group_count c) (pair_count c) w.head refl) ∙ set-get_or c.head 1 0,
          ap (λ (x : Contents). x.pairs) after
              ∙ ap (λ (l : List (Pair × mark.Mark)). onto (map pair_row l) c.pairs) (alter-all (ledger_of c).pairs) ∙ pairs-stay c w,
        )
    go (some r) e =
        let stays = sym (refused-stays c s r (λ i. reply_of (cond (sym w.form i) (sym e i) (some NotWritten)))) in
        (ap (λ (x : Contents). x.head) stays, ap (λ (x : Contents). x.pairs) stays)

hands_over : (asker : Itsi) (group : Identity) (owners : Numbers) (c : Contents) → Sound c
    → let s = handover_step asker group owners in HandsOver asker group owners c (contents_after c s) (reply_of (verdict c s))
hands_over asker group owners c w =
    let s = handover_step asker group owners in
    let stays = handover-stays asker group owners c w in
    let e : contents c.head (contents_after c s).groups c.pairs ≡ contents_after c s =
    λ i. contents (sym stays.0 i) (contents_after c s).groups (sym stays.1 i) in
    record {
      lifetimes = ([], ([], ([], tt)));
      lent = lends c;
      left = (show_only c.head, (lend (contents_after c s).groups, (show_only c.pairs, (asker, (group, (owners, tt))))));
      starts = refl;
      meets = record { replies = refl; leaves = e };
      ends = e;
    }

ticks : (c : Contents) → Sound c → Ticks c (contents_after c order.tick) (reply_of (verdict c order.tick))
ticks c w =
    let rows = onto (map pair_row (alter (λ (k : Pair) m. some (mark.ticked m)) (pairs_of (pair_count c) c.pairs))) c.pairs in
    let e : contents c.head c.groups rows ≡ contents_after c order.tick = ticked-laid c w rows refl ∙ sym (taken-after c order.tick w.form refl).1 in
    record {
      lifetimes = ([], ([], ([], tt)));
      lent = lends c;
      left = (show_only c.head, (show_only c.groups, (lend rows, tt)));
      starts = refl;
      meets = record { replies = refl; leaves = e };
      ends = e;
    }

empties : (c : Contents) → roomy c ≡ true → Empties c (laid empty c) (Ok tt)
empties c r = record {
  lifetimes = ([], ([], ([], tt)));
  lent = lends c;
  left = (lend (laid empty c).head, (show_only c.groups, (show_only c.pairs, tt)));
  starts = refl;
  meets = record { replies = λ i. reply_of (cond (sym r i) none (some NotWritten)); leaves = λ i. cond (sym r i) (laid empty c) c };
  ends = refl;
}

-- a row of a room for orders
abbrev blank : List ℕ
blank = replicate order_words 0

-- the space asked for
abbrev space : Contents
space = contents (replicate head_words 0) (replicate max_groups (replicate group_words 0)) (replicate max_pairs (replicate pair_words 0))

space-roomy : roomy space ≡ true
space-roomy = refl

pub reached : (l : List Asked) → Reached (history_of l)
reached [] = record { left = laid empty space; kept = begun (empties space space-roomy) }
reached (asked.define asker values n ∷ l) =
    let r = reached l in
    let room : Rows = replicate n blank in
    record {
      left = contents_after r.left (define_step asker values.place (length room));
      kept = subst (λ (m : ℕ). Kept (contents_after r.left (define_step asker values.place (length room)))
          (history_of l then define_step asker values.place m)) (length-replicate {A = List ℕ} n blank)
          (defined r.kept (defines asker values room r.left));
    }
reached (asked.delete d n ∷ l) =
    let r = reached l in
    let room : Rows = replicate n blank in
    record {
      left = contents_after r.left (deletion_step d (length room));
      kept = subst (λ (m : ℕ). Kept (contents_after r.left (deletion_step d (length room))) (history_of l then deletion_step d m))
          (length-replicate {A = List ℕ} n blank) (deleted r.kept (deletes d room r.left));
    }
reached (asked.answer a ∷ l) =
    let r = reached l in
    record {
      left = contents_after r.left (answering_step a);
      kept = answered r.kept (answers a r.left (run-stands r.kept).sound);
    }
reached (asked.handover asker group owners ∷ l) =
    let r = reached l in
    record {
      left = contents_after r.left (handover_step asker group owners);
      kept = handed_over r.kept (hands_over asker group owners r.left (run-stands r.kept).sound);
    }
reached (asked.tick ∷ l) =
    let r = reached l in
    record { left = contents_after r.left order.tick; kept = ticked r.kept (ticks r.left (run-stands r.kept).sound) }
