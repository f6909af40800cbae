-- Demand 3 over the contracts: on the contents that any run has left, every call answers as the run's history says.
use mathlib.Core.Path.{◌≡◌, refl, sym, ap, ◌∙◌}
use mathlib.Core.Bool.{Bool, true, false, cond}
use mathlib.Core.List.{List, [], map}
use mathlib.Core.Option.{Option, some}
use Prim.Native.Nat.{ℕ, ◌≤◌}
use lib.ListN.{length, take, replicate, length-map}
use lib.Seq.{take-append_seam}
use Rattle.std.specs.Prelude.{Result, ⊤}
use Rattle.refusal.specs.declared.Refusal.{Refusal}
use Rattle.refusal.specs.declared.Refusal.TheVariants.{NotWritten}
use Rattle.rules.specs.Lists.{any, mem}
use Rattle.rules.specs.Number.{Number, key, same_number, wide_key}
use Rattle.rules.specs.Order.{Step}
use Rattle.rules.specs.Outgoing.{Outgoing}
use Rattle.rules.specs.Parameters.{no_parameters}
use Rattle.rules.specs.Refusals.{accepted}
use Rattle.rules.specs.Ledger.{Ledger, list, show}
use Rattle.rules.specs.Steps.{refused, sent}
use Rattle.rules.specs.History.{History, radios_in, refusal_in, sent_in}
use Rattle.rules.specs.Run.{run}
use Rattle.rules.specs.Written.{max_owners}
use Rattle.rules.specs.Demand.{Owns}
use Rattle.rules.proofs.ByNumber.{by_number_lem}
use Rattle.rules.proofs.Agree.{refusal-agree, sent-agree, list-agree, show-agree}
use Rattle.rules.proofs.Demand.{list-exact, show-exact, exact-narrow, owner-narrow}
use Rattle.order.specs.Numbers.{radio_number, group_number, radio_at, asked_group, asked_number}
use Rattle.order.specs.Walks.{onto}
use Rattle.store.specs.Storage.{Rows, Contents, placing}
use Rattle.replies.specs.Orders.{answered, reply_of, verdict, Replies}
use Rattle.replies.specs.Sending.{order_row, sent_on, Sends}
use Rattle.replies.specs.Listing.{entry_row, list_on, members_of}
use Rattle.replies.specs.Showing.{show_on, nobody, shown_as, shown_of}
use Rattle.order.specs.declared.Gtsi.{Gtsi}
use Rattle.order.specs.declared.Itsi.{Itsi}
use Rattle.order.specs.declared.GroupAsked.{GroupAsked}
use Rattle.replies.specs.declared.Shown.{Shown}
use Rattle.demand.specs.Calls.{Lists, Shows}
use Rattle.demand.specs.Runs.{Kept}
use Rattle.demand.specs.Demand.{state_in, ListsExactly, shown_owner, ShowsExactly, Faithful}
use Rattle.demand.proofs.Calls.{tick-says, answer-says, handover-says, define-says, delete-says, list-says, show-says}
use Rattle.demand.proofs.Parts.{state-told, owner-told}
use Rattle.demand.proofs.Runs.{Stands, run-stands}

-- what is sent twice over, sent once
once-sent : (b : Bool) (l : List Outgoing) → cond b (cond b l []) [] ≡ cond b l []
once-sent true l = refl
once-sent false l = refl

module _ {c : Contents} {h : History} (k : Stands c h) where
  -- the refusal is the history's, and never 18
  pub judged-alike : (s : Step) → verdict c s ≡ refusal_in h s
  judged-alike s = (λ i. cond (k.sound.form i) (refused placing (k.says i) s) (some NotWritten)) ∙ refusal-agree placing by_number_lem h s

  pub sent-alike : (s : Step) → sent_on c s ≡ sent_in h s
  sent-alike s =
      (λ i. cond (accepted (judged-alike s i)) ((ap (λ (l : Ledger). sent placing l s) k.says ∙ sent-agree placing by_number_lem h s) i) [])
      ∙ once-sent (accepted (refusal_in h s)) _

  pub listed-alike : (asker : Itsi) (group : Gtsi) (room : ℕ) → list_on c asker group room ≡ list (run placing h) (radio_number asker) (group_number group) room
  listed-alike asker group room = λ i. cond (k.sound.form i) (list (k.says i) (radio_number asker) (group_number group) room)
      (record { refused = some NotWritten; entries = [] })

  pub shown-alike : (asker : Itsi) (group : Gtsi) → show_on c asker group ≡ show (run placing h) (radio_number asker) (group_number group)
  shown-alike asker group = λ i. cond (k.sound.form i) (show (k.says i) (radio_number asker) (group_number group))
      (record { refused = some NotWritten; owners = []; parameters = no_parameters })

  replies-alike : {s : Step} {c' : Contents} {reply : Result ⊤ Refusal} → Replies s c c' reply → reply ≡ reply_of (refusal_in h s)
  replies-alike {s} e = e.replies ∙ ap reply_of (judged-alike s)

  sends-alike : {step : ℕ → Step} {room out : Rows} {c' : Contents} {reply : Result ℕ Refusal} → Sends step room out c c' reply
      → let s = step (length room) in (reply ≡ answered (refusal_in h s) (length (sent_in h s))) × (out ≡ onto (map order_row (sent_in h s)) room)
  sends-alike {step} {room} e = let s = step (length room) in (
    e.replies ∙ (λ i. answered (judged-alike s i) (length (sent-alike s i))),
    e.sends ∙ (λ i. onto (map order_row (sent-alike s i)) room),
  )

  module _ (asker : Itsi) (asked : GroupAsked) where
    abbrev by : Number
    by = radio_number asker

    abbrev of : Number
    of = asked_number asker asked

    lists-alike : {room listed : Rows} {reply : Result ℕ Refusal} → Lists asker asked room listed c reply
        → let l = list (run placing h) by of (length room) in (reply ≡ members_of l) × (listed ≡ onto (map entry_row l.entries) room)
    lists-alike {room} e =
        let s = list-says e in
        let l = listed-alike asker (asked_group asker asked) (length room) in
        (s.0 ∙ ap members_of l, s.1 ∙ (λ i. onto (map entry_row (l i).entries) room))

    lists-exactly : {room listed : Rows} {reply : Result ℕ Refusal} → Lists asker asked room listed c reply → Owns h by of
        → length (radios_in h (key of)) ≤ length room → ListsExactly h of room listed reply
    lists-exactly {room} {listed} e o n =
        let l = (list (run placing h) by of (length room)).entries in
        let x = list-exact placing by_number_lem h by of (length room) o n in
        let s = lists-alike e in
        let front : take (length l) listed ≡ map entry_row l =
        ap (take (length l)) s.1 ∙ ap (λ (n : ℕ). take n (onto (map entry_row l) room)) (sym (length-map l entry_row)) ∙ take-append_seam (map entry_row l) _ in
        record {
          entries = l;
          counts = s.0 ∙ ap (λ (r : Option Refusal). answered r (length l)) x.0;
          rows = s.1;
          exact = x.1;
          says = λ n w. ap (λ (rows : Rows). state_in rows n) front ∙ state-told n w l (exact-narrow h (key of) l x.1) ∙ x.1.says (key n);
        }

    shows_alike : {reply : Result Shown Refusal} → Shows asker asked c reply → reply ≡ shown_of (show (run placing h) by of)
    shows_alike e = show-says e ∙ ap shown_of (shown-alike asker (asked_group asker asked))

    shows-exactly : {reply : Result Shown Refusal} → Shows asker asked c reply → Owns h by of → ShowsExactly h of reply
    shows-exactly e o =
        let s = show (run placing h) by of in
        let x = show-exact placing by_number_lem h by of o in
        let holds = shows_alike e ∙ ap (λ (r : Option Refusal). answered r (shown_as s.owners s.parameters)) x.0 in
        let front = ap (λ (n : ℕ). take n (onto (map radio_at s.owners) (replicate max_owners nobody))) (sym (length-map s.owners radio_at))
        ∙ take-append_seam (map radio_at s.owners) _ in
        let narrow : (a : ℕ) → mem a s.owners ≡ true → wide_key a ≡ false =
        λ a m. owner-narrow placing by_number_lem h (key of) a (sym (x.1.owns a) ∙ m) in
        record {
          owners = s.owners;
          parameters = s.parameters;
          holds = holds;
          tells = x.1;
          says = λ n w. ap (λ (r : Result Shown Refusal). shown_owner r n) holds ∙ ap (any (λ (o : Itsi). same_number n (radio_number o))) front
              ∙ owner-told n w s.owners narrow ∙ x.1.owns (key n);
        }

-- the demand
pub demand : {c : Contents} {h : History} → Kept c h → Faithful c h
demand {c} {h} run =
    let k = run-stands run in
    record {
      written = k.sound.form;
      holds = k.says;
      defines = λ e. sends-alike k (define-says e);
      deletes = λ e. sends-alike k (delete-says e);
      answers = λ e. replies-alike k (answer-says e);
      hands_over = λ e. replies-alike k (handover-says e);
      ticks = λ e. replies-alike k (tick-says e);
      lists = λ {asker} {asked} {room} e. let s = lists-alike k asker asked e in
          let l = list-agree placing by_number_lem h (radio_number asker) (asked_number asker asked) (length room) in
          (s.0 ∙ ap members_of l, s.1 ∙ (λ i. onto (map entry_row (l i).entries) room));
      shows = λ {asker} {asked} e. shows_alike k asker asked e ∙ ap shown_of (show-agree placing by_number_lem h (radio_number asker) (asked_number asker asked));
      owner-lists = λ {asker} {asked} e. lists-exactly k asker asked e;
      owner_shows = λ {asker} {asked} e. shows-exactly k asker asked e;
    }
