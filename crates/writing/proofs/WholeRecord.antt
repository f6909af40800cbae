-- The walk over a table's elements: what is passed so far, and what is left.
-- Assumes nothing.
use Rattle.std.proofs.Common.{◌≡◌, ℕ, suc, ◌+◌, ◌*◌, ◌<◌, ◌≤◌, Bool, true, false, ◌&&◌, T, leb, eqb, Option, Some, None, Ok, Err, List, [], ◌∷◌, ◌++◌}
use Rattle.std.proofs.Common.{length, get_or, take, drop, replicate, sym, refl, ap, ◌∙◌, subst, ap₂, append_assoc, append-nil, zero-add, arith}
use Rattle.std.proofs.Common.{drop_of_length-le, length-take-le, drop-drop, take_at}
use lib.ListN.{length-replicate}
use Rattle.layout.specs.declared.Element.{Element}
use Rattle.layout.specs.declared.Kind.{Kind}
use Rattle.layout.specs.declared.Shape.{Shape}
use Rattle.layout.specs.declared.Shape.TheVariants.{Number, Choice, Identity, Ending, Missing, Nothing}
use Rattle.layout.specs.declared.Shape.TheVariants as shape
use Rattle.layout.specs.Row.{Row, all, present}
use Rattle.layout.specs.Shape.{rows_of, span, conditions_of, unrolled}
use Rattle.layout.specs.Kinds.{table_of}
use Rattle.layout.specs.Frame.{rows, places, head_bits, laid, clean}
use Rattle.layout.specs.Write.{Laid, lay, good, good_but_group, vals, emit}
use Rattle.layout.specs.Chain.{looks, earlier, chained, chained_from, bound, bounded}
use Rattle.layout.proofs.Tests.{left, right, and-true, and-false, all_append, all_weaker}
use Rattle.layout.proofs.Chains.{tables-chained, tables-bounded, chain_first, looks-agree, missing-agrees}
use Rattle.table.specs.Sound.{Clear, sound}
use Rattle.table.proofs.Absent.{length-shape}
use Rattle.table.proofs.Walks.{clear_none, clear_later}
use Rattle.table.proofs.ShapeLaws.{sound-nothing}
use Rattle.table.proofs.TableLaws.{Placed, placed-none, first, element-room, element-sound, element-rows, element-more}
use Rattle.writing.specs.Pass.{Pass, Judge, Lay}
use Rattle.writing.specs.declared.walk.Passed.{Passed}
use Rattle.writing.specs.declared.walk.Passed.TheVariants.{Empty, Held}
use Rattle.writing.specs.declared.walk.Passed.TheVariants as passed
use Rattle.refusal.specs.declared.Refusal.TheVariants.{Reserved, NoGroup}
use Rattle.writing.specs.Lay.{Lent, Stays, Does, Finds, Lies, Ready, Within, reached}
use Rattle.writing.specs.Found.{Looks, LooksAlong, Found, Puts}
use Rattle.writing.specs.Whole.{Outcome, Walks}
use Rattle.writing.proofs.LayLaws.{lay-append, vals-append, lies-none, lies-join, stays_none, stays_on, finds, finds_on, finds_by}
use Rattle.writing.proofs.Since.{Since, since_none, since-empty, since-held}

-- what has a code has one or is the missing group's
pub good-coded : (l : List Laid) → all good l ≡ true → all good_but_group l ≡ true
good-coded l e = all_weaker good good_but_group (λ x t. rw t) l e

pub not_good : (l : List Laid) → all good_but_group l ≡ false → all good l ≡ false
not_good l h = go (all good l) refl
  where
    go : (b : Bool) → all good l ≡ b → b ≡ false
    go false e = refl
    go true e = sym (good-coded l e) ∙ h

-- not both
clash : {A : Type 0} (l : List Laid) → all good l ≡ true → all good l ≡ false → A
clash l g h = let d = sym g ∙ h in let z : ◌≡◌ {A = ℕ} 0 1 = cc in absurd (omega arith)

-- what is found of the rows so far: the walk that judges knows whether they are good, and the other that they are not where a group is missing
abbrev Fine : Pass → List Laid → Bool → Type 0
Fine Judge done grouped = (all good done ≡ grouped) × (all good_but_group done ≡ true)
Fine Lay done grouped = grouped ≡ false → all good done ≡ false

-- `count` elements of the kind's table are passed, and the next begins at the place p
pub record Wrote (pass : Pass) (kind : Kind) (es : List Element) (s : List ℕ) (out₀ out : Lent) (grouped : Bool) (last at p count : ℕ) : Type 0 where
  pub vs : List ℕ
  pub size : length vs ≡ places
  pub clear : Clear vs p
  pub done : List Laid
  pub whole : laid kind s ≡ done ++ lay (unrolled (drop count (es)) p) (take p vs) (drop p s)
  pub lies : Lies pass done p head_bits at 0 (replicate places 0) vs out₀ out
  pub lent : Stays out₀ out
  pub low : at ≤ 32 * p + head_bits
  pub fine : Fine pass done grouped
  pub placed : Placed (es) p count
  pub chained : T (chained_from (rows kind) (drop count (es)) p)
  pub bounds : T (bounded (es) (drop count (es)))
  pub since : Finds pass (Since (es) count vs p last)

-- ---- before the first element
pub wrote_none : (pass : Pass) (kind : Kind) (es : List Element) (s : List ℕ) (out : Lent) → es ≡ table_of kind
    → Wrote pass kind es s out out true 0 head_bits 0 0
unfolding rows
wrote_none pass kind es s out table =
    subst (λ (l : List Element). Wrote pass kind l s out out true 0 head_bits 0 0) (sym table)
    (record {
      vs = replicate places 0;
      size = length-replicate {A = ℕ} places 0;
      clear = clear_none places 0;
      done = [];
      whole = refl;
      lies = lies-none pass head_bits 0 (replicate places 0) out;
      lent = stays_none;
      low = omega arith;
      fine = fine pass;
      placed = placed-none kind;
      chained = tables-chained kind;
      bounds = tables-bounded kind;
      since = finds pass (since_none (table_of kind) (replicate places 0));
    })
  where
    fine : (pass : Pass) → Fine pass [] true
    fine Judge = (refl, refl)
    fine Lay = λ d. d

module _ {pass : Pass} {kind : Kind} {es : List Element} {s : List ℕ} {out₀ out : Lent} {grouped : Bool} {last at p count : ℕ}
    (now : Wrote pass kind es s out₀ out grouped last at p count) where
  -- the cleaned record so far is the whole one's front
  front : take p now.vs ≡ take p (clean kind s)
  unfolding clean
  front =
      let rest = lay (unrolled (drop count es) p) (take p now.vs) (drop p s) in
      let here : take p now.vs ≡ vals now.done = ap (λ (n : ℕ). take n now.vs) (sym (zero-add p)) ∙ now.lies.front in
      let n : length (vals now.done) ≡ p = sym (ap length here) ∙ length-take-le p now.vs (omega (arith, now.size, now.placed.room)) in
      here
      ∙ sym (ap (λ (l : List Laid). take p (vals l)) now.whole ∙ ap (take p) (vals-append now.done rest) ∙ take_at (vals now.done) (vals rest) p n)

  -- ---- a turn: the element that comes, whatever stands past the end
  module _ (d : Element) (less : count < length es) where
    abbrev e : Element
    e = get_or es count d

    next : drop count es ≡ e ∷ drop (count + 1) es
    next = first d now.placed less

    pub turn-room : p + span e.1 ≤ places
    turn-room = element-room d now.placed less

    -- what its passing starts from
    pub turn-ready : Ready at p (span e.1) × T (sound e.1 p)
    turn-ready = (record { room = turn-room; low = now.low }, element-sound d now.placed less)

    chain : T (chained_from (rows kind) (e ∷ drop (count + 1) es) p)
    chain = subst (λ (l : List Element). T (chained_from (rows kind) l p)) next now.chained

    bounds : T (bound es e.1 && bounded es (drop (count + 1) es))
    unfolding bounded
    bounds = subst (λ (l : List Element). T (bounded es l)) next now.bounds

    -- what it looks at, the caller's record tells as the cleaned one would
    looks-along : LooksAlong pass s last p e now.vs
    looks-along = record { hang = agree.0; looks = λ on. go e.1 refl on }
      where
        links : T (chained (rows kind) [] (looks e)) × T (all (earlier p) (looks e))
            × T (chained_from (rows kind) (drop (count + 1) es) (p + span e.1))
        links = chain_first (rows kind) e (drop (count + 1) es) p chain

        agree : (present now.vs (conditions_of e.0) ≡ present s (conditions_of e.0)) × (present now.vs (looks e) ≡ present s (looks e))
        agree = looks-agree kind s now.vs p e links.0 links.1 front

        noted : (o : ℕ) → e.1 ≡ Nothing o → Since es count now.vs p last → leb last (suc o) ≡ all (λ v. eqb v 0) (drop (suc o) (take p now.vs))
        noted o q since =
            let bounded = subst (λ (x : Shape). T (bound es x)) q (left (bound es e.1) (bounded es (drop (count + 1) es)) bounds) in
            since.tells (suc o) bounded (omega (arith, sound-nothing e.1 p o q (element-sound d now.placed less)))

        go : (x : Shape) → x ≡ e.1 → present s (conditions_of e.0) ≡ true → Looks pass s last p x now.vs
        go (Number w) q on = tt
        go (Choice w m) q on = tt
        go Identity q on = tt
        go (shape.List items) q on = tt
        go Ending q on = tt
        go (Missing o) q on = missing-agrees kind s now.vs p e links.0 links.1 front o (sym q) on
        go (Nothing o) q on = finds_on pass (noted o (sym q)) now.since

    abbrev own-rows : List Row
    own-rows = rows_of e.1 (conditions_of e.0) p

    abbrev here : List Laid
    here = lay own-rows (take p now.vs) (drop p s)

    abbrev later : List Row
    later = unrolled (drop (count + 1) es) (p + span e.1)

    split : laid kind s ≡ now.done ++ (here ++ lay later (take p now.vs ++ vals here) (drop (length own-rows) (drop p s)))
    split =
        now.whole
        ∙ ap (λ (l : List Row). now.done ++ lay l (take p now.vs) (drop p s)) (element-rows d now.placed less)
        ∙ ap (λ (l : List Laid). now.done ++ l) (lay-append own-rows later (take p now.vs) (drop p s))

    n-rows : length own-rows ≡ span e.1
    n-rows = length-shape e.1 (conditions_of e.0) p

    module _ {out' : Lent} {at' : ℕ} {r : Option Passed} {w : ℕ} (f : Puts pass (LooksAlong pass s last p e) own-rows s at p out out' at' r)
        (takes : w ≡ span e.1) where
      after : (vs' : List ℕ) × (length vs' ≡ length now.vs) × Found pass here (length own-rows) at p now.vs vs' out out' at' r
      after = f.finds now.vs now.size now.clear looks-along

      -- one element more
      more : (grouped' : Bool) (last' : ℕ) → Lies pass here (length own-rows) at at' p now.vs after.0 out out' → at' ≤ at + 32 * length own-rows
          → Fine pass (now.done ++ here) grouped' → Finds pass (Since es (count + 1) after.0 (p + span e.1) last')
          → Wrote pass kind es s out₀ out' grouped' last' at' (p + w) (count + 1)
      more grouped' last' g small fine since =
          let vs' = after.0 in
          let left_over : List Element = drop (count + 1) es in
          subst (λ (x : ℕ). Wrote pass kind es s out₀ out' grouped' last' at' (p + x) (count + 1)) (sym takes)
          (record {
            vs = vs';
            size = after.1 ∙ now.size;
            clear = λ q l. clear_later (length own-rows) p now.vs vs' g.stays now.clear q (omega (arith, n-rows));
            done = now.done ++ here;
            whole =
                split ∙ sym (append_assoc now.done here (lay later (take p now.vs ++ vals here) (drop (length own-rows) (drop p s))))
                ∙ ap₂ (λ (a b : List ℕ). now.done ++ here ++ lay later a b) (sym g.front) (drop-drop (length own-rows) p s)
                ∙ ap (λ (x : ℕ). now.done ++ here ++ lay later (take (p + x) vs') (drop (p + x) s)) n-rows;
            lies =
                subst (λ (x : ℕ). Lies pass (now.done ++ here) (p + x) head_bits at' 0 (replicate places 0) vs' out₀ out') n-rows
                (lies-join pass now.done here p (length own-rows) head_bits at at' 0 (replicate places 0) now.vs vs' out₀ out out' now.lies
                (subst (λ (x : ℕ). Lies pass here (length own-rows) at at' x now.vs vs' out out') (sym (zero-add p)) g));
            lent = stays_on now.lent f.lent;
            low = omega (arith, now.low, n-rows);
            fine = fine;
            placed = element-more d now.placed less;
            chained = (chain_first (rows kind) e left_over p chain).2;
            bounds = right (bound es e.1) (bounded es left_over) bounds;
            since = since;
          })

      fine-on : (pass : Pass) → Fine pass now.done grouped → Finds pass (all good here ≡ true) → Fine pass (now.done ++ here) grouped
      fine-on Judge a g = (
        all_append good now.done here ∙ ap₂ ◌&&◌ a.0 g ∙ and-true grouped,
        all_append good_but_group now.done here ∙ ap₂ ◌&&◌ a.1 (good-coded here g),
      )
      fine-on Lay a g = λ x. all_append good now.done here ∙ ap (λ (b : Bool). b && all good here) (a x)

      fine-missing : (pass : Pass) → Fine pass now.done grouped → all good here ≡ false → all good_but_group here ≡ true → Fine pass (now.done ++ here) false
      fine-missing Judge a g h = (
        all_append good now.done here ∙ ap₂ ◌&&◌ a.0 g ∙ and-false grouped,
        all_append good_but_group now.done here ∙ ap₂ ◌&&◌ a.1 h,
      )
      fine-missing Lay a g h = λ x. all_append good now.done here ∙ ap (λ (b : Bool). all good now.done && b) g ∙ and-false (all good now.done)

      room' : p + span e.1 ≤ length after.0
      room' = omega (arith, after.1, now.size, turn-room)

      found : (x : Option Passed) → r ≡ x → Found pass here (length own-rows) at p now.vs after.0 out out' at' x
      found x e = subst (Found pass here (length own-rows) at p now.vs after.0 out out' at') e after.2

      within : (x : Option Passed) → r ≡ x → Within (reached x at') (at + 32 * length own-rows)
      within x e = subst (λ (y : Option Passed). Within (reached y at') (at + 32 * length own-rows)) e f.within

      pub turn-empty : r ≡ Some Empty → Wrote pass kind es s out₀ out' grouped last at' (p + w) (count + 1)
      turn-empty q =
          let g = found (Some Empty) q in
          more grouped last g.0.0 (within (Some Empty) q) (fine-on pass now.fine g.0.1)
          (finds_by pass (λ (z : Clear after.0 p) (a : Since es count now.vs p last). since-empty es count now.vs after.0 p last e a next room' g.0.0.before z)
          g.1 now.since)

      pub turn-held : r ≡ Some Held → Wrote pass kind es s out₀ out' grouped (p + 1) at' (p + w) (count + 1)
      turn-held q =
          let g = found (Some Held) q in
          more grouped (p + 1) g.0.0 (within (Some Held) q) (fine-on pass now.fine g.0.1)
          (finds_by pass (λ (some : get_or after.0 p 0 ≡ 0 → ⊥) (a : Since es count now.vs p last).
          since-held es count now.vs after.0 p last e a next room' g.0.0.before some) g.1 now.since)

      pub turn-missing : r ≡ Some passed.NoGroup → Wrote pass kind es s out₀ out' false last at' (p + w) (count + 1)
      turn-missing q =
          let g = found (Some passed.NoGroup) q in
          more false last g.0 (within (Some passed.NoGroup) q) (fine-missing pass now.fine g.1 g.2)
          (finds_on pass (λ (a : Since es count now.vs p last). since-empty es count now.vs after.0 p last e a next room' g.0.before g.3) now.since)

      pub turn-bad : r ≡ None → Walks pass (laid kind s) out₀ out' (Err Reserved)
      turn-bad q = record { lent = stays_on now.lent f.lent; outcome = outcome pass }
        where
          coded : all good_but_group (laid kind s) ≡ false
          coded =
              let rest = lay later (take p now.vs ++ vals here) (drop (length own-rows) (drop p s)) in
              ap (all good_but_group) split ∙ all_append good_but_group now.done (here ++ rest)
              ∙ ap (λ (b : Bool). all good_but_group now.done && b)
              (all_append good_but_group here rest ∙ ap (λ (b : Bool). b && all good_but_group rest) (found None q))
              ∙ and-false (all good_but_group now.done)

          outcome : (pass : Pass) → Outcome pass (laid kind s) out₀ out' (Err Reserved)
          outcome Judge = (not_good (laid kind s) coded, rw coded)
          outcome Lay = λ g. clash (laid kind s) g (not_good (laid kind s) coded)

  -- ---- after the last element
  module _ (over : length es ≤ count) where
    all_done : laid kind s ≡ now.done
    unfolding unrolled lay
    all_done =
        now.whole
        ∙ ap (λ (l : List Element). now.done ++ lay (unrolled l p) (take p now.vs) (drop p s))
        (drop_of_length-le es {i = count} over)
        ∙ append-nil now.done

    laid-over : (pass : Pass) → Lies pass now.done p head_bits at 0 (replicate places 0) now.vs out₀ out → Does pass (laid kind s) head_bits out₀ out
    laid-over pass f = subst (λ (l : List Laid). Does pass l head_bits out₀ out) (sym all_done) f.does

    pub wrote-bits : grouped ≡ true → Walks pass (laid kind s) out₀ out (Ok at)
    wrote-bits g = record { lent = now.lent; outcome = outcome pass now.lies now.fine }
      where
        outcome : (pass : Pass) → Lies pass now.done p head_bits at 0 (replicate places 0) now.vs out₀ out → Fine pass now.done grouped
            → Outcome pass (laid kind s) out₀ out (Ok at)
        outcome Judge f a = (
          ap (all good) all_done ∙ a.0 ∙ g,
          f.on ∙ ap (λ (l : List Laid). head_bits + length (emit l)) (sym all_done),
        )
        outcome Lay f a = laid-over Lay f

    pub wrote-group : grouped ≡ false → Walks pass (laid kind s) out₀ out (Err NoGroup)
    wrote-group g = record { lent = now.lent; outcome = outcome pass now.lies now.fine }
      where
        outcome : (pass : Pass) → Lies pass now.done p head_bits at 0 (replicate places 0) now.vs out₀ out → Fine pass now.done grouped
            → Outcome pass (laid kind s) out₀ out (Err NoGroup)
        outcome Judge f a = (ap (all good) all_done ∙ a.0 ∙ g, rw (ap (all good_but_group) all_done ∙ a.1))
        outcome Lay f a = λ x. clash (laid kind s) x (ap (all good) all_done ∙ a g)
