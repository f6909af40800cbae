-- Entries put among lent rows by rising keys, from the last key down: what stands, and a turn.
use mathlib.Core.Path.{◌≡◌, refl, sym, ap, subst, ◌∙◌}
use mathlib.Core.Bool.{Bool, true}
use mathlib.Core.List.{List, [], ◌∷◌, ◌++◌, map, map-append, append-nil, append_assoc}
use Prim.Native.Nat.{ℕ, suc, ◌+◌, ◌-◌, ◌≤◌, ◌<◌}
use native.Mathlib.Numerals.{add-one}
use native.Mathlib.Omega.{arith}
use lib.ListN.{length, get_or, set, take, drop, length-append, length-take, length-drop, length-map, take-append-drop, drop_of_length-le}
use lib.Seq.{paste, take-suc, take_all, take-take, drop_at, take-append-le, length-take-le, drop-append-le, get_or-take}
use Rattle.std.proofs.lemmas.List.{drop-take}
use Rattle.rules.specs.Lists.{rises}
use Rattle.rules.specs.Entries.{find, entry}
use Rattle.rules.specs.Placing.{puts}
use Rattle.rules.specs.ByNumber.{put, lower, by_key}
use Rattle.rules.proofs.Tests.{split}
use Rattle.rules.proofs.Rises.{Over, Climbs, climbs-rises}
use Rattle.rules.proofs.ByKey.{Linear, key-climbs}
use Rattle.rules.proofs.PutsByKey.{Under, Clear, Lower, climbs-last, clear_none, clear-lower, find-under, puts-last}
use Rattle.order.specs.Walks.{onto, moved}
use Rattle.order.specs.Walks as walks
use Rattle.order.proofs.Walks.{map-take, map-drop}
use Rattle.order.proofs.Moves.{moved-set}
use Rattle.store.specs.Lists.{Plain}
use Rattle.store.specs.Places.{place_of, index_of, behind_of}
use Rattle.store.proofs.Rows.{plain_rows}
use Rattle.std.specs.Prelude.{Result}
use Rattle.defining.specs.Putting.{Opens, Puts, Takes}
use Rattle.defining.specs.declared.putting.Step.{Step}
use Rattle.store.proofs.Parting.{Parted, parted}

-- a copy of those from place i to place n moves them up
pub copied-moved : {A : Type 0} (by i n : ℕ) (l : List A) → i ≤ n → paste l (i + by) (drop i l) (n - i) ≡ moved by i n l
copied-moved by i n l h =
    let k : i + (n - i) ≡ n = omega arith in
    let m : i + by + (n - i) ≡ n + by = omega arith in
    let e : take (n - i) (drop i l) ≡ drop i (take n l) = sym (drop-take i (n - i) l) ∙ ap (λ (j : ℕ). drop i (take j l)) k in
    append_assoc (take (i + by) l) (take (n - i) (drop i l)) (drop (i + by + (n - i)) l) ∙ (λ t. take (i + by) l ++ (e t ++ drop (m t) l))

-- ---- lists ----

climbs-front : {A : Type 0} (below : A → A → Bool) (a b : List A) → Climbs below (a ++ b) → Climbs below a
climbs-front below [] b c = tt
climbs-front below (x ∷ a) b c = (over a c.0, climbs-front below a b c.1)
  where
    over : (a : List _) → Over below x (a ++ b) → Over below x a
    over [] h = tt
    over (y ∷ a) h = (h.0, over a h.1)

module _ {K X : Type 0} (below : K → K → Bool) where
  clear-append : (ks : List K) (a b : List (K × X)) → Clear below ks a → Clear below ks b → Clear below ks (a ++ b)
  clear-append [] a b c d = tt
  clear-append (k ∷ ks) a b c d = (under a c.0, clear-append ks a b c.1 d.1)
    where
      under : (a : List (K × X)) → Under below k a → Under below k (a ++ b)
      under [] u = d.0
      under (e ∷ a) u = (u.0, under a u.1)

  clear-front : (ks js : List K) (a : List (K × X)) → Clear below (ks ++ js) a → Clear below ks a
  clear-front [] js a c = tt
  clear-front (k ∷ ks) js a c = (c.0, clear-front ks js a c.1)

  clear-last : (ks : List K) (k : K) (a : List (K × X)) → Clear below (ks ++ (k ∷ [])) a → Under below k a
  clear-last [] k a c = c.0
  clear-last (j ∷ js) k a c = clear-last js k a c.1

  put-grows : (l : List (K × X)) (k : K) (v : X) → length l ≤ length (put below l k v)
  put-grows [] k v = omega arith
  put-grows (e ∷ l) k v = split (below e.0 k)
      (λ p. rw p (let h = put-grows l k v in omega arith))
      (λ p. split (below k e.0) (λ q. rw (p, q) (omega arith)) (λ q. rw (p, q) (omega arith)))

  puts-grows : (l : List (K × X)) (ks : List K) (F : K → X) → length l ≤ length (puts (by_key below) l ks F)
  puts-grows l [] F = omega arith
  puts-grows l (k ∷ ks) F = omega (arith, put-grows l k (F k), puts-grows (put below l k (F k)) ks F)

-- ---- rows ----

module _ {K X : Type 0} {same below : K → K → Bool} (o : Linear same below) (F : K → X) (item_of : List ℕ → K × X) (row_of : K × X → List ℕ)
    (ks : List K) (rows₀ : List (List ℕ)) (count : ℕ) where
  -- the entries before, and those after
  abbrev entries : List (K × X)
  entries = map item_of (take count rows₀)

  abbrev after : List (K × X)
  after = puts (by_key below) entries ks F

  -- the first j keys are yet to be put, among the first `left` entries, which stand as they were; `by` of them are new. Behind stands what was put
  pub record Putting (j left by : ℕ) (rows : List (List ℕ)) : Type 0 where
    pub few : left ≤ count
    pub sum : left + by ≡ length (puts (by_key below) (take left entries) (take j ks) F)
    pub done : List (K × X)
    pub whole : puts (by_key below) entries ks F ≡ puts (by_key below) (take left entries) (take j ks) F ++ done
    pub laid : rows ≡ take (left + by) rows₀ ++ (map row_of done ++ drop (length (puts (by_key below) entries ks F)) rows₀)
    pub clear : Clear below (take j ks) (drop left entries)

  -- a turn, that puts the key k: what it finds, that there is room, and what stands then
  pub record Turn (j left by : ℕ) (rows : List (List ℕ)) (k : K) : Type 0 where
    pub inside : left ≤ length rows
    pub plain : Plain item_of row_of left rows
    pub found : find same (map item_of (take left rows)) k ≡ find same entries k
    pub parted : Parted o k (map item_of (take left rows)) (place_of below same (map item_of (take left rows)) k)
    pub opens : Opens (place_of below same (map item_of (take left rows)) k) left by rows
    pub next : (row : List ℕ) (rows' : List (List ℕ)) (step : Step) → row ≡ row_of (k, F k)
        → Puts (place_of below same (map item_of (take left rows)) k) left by row rows rows' step → Putting j step.left step.by rows'

  module _ (more : ℕ) (t : Takes below item_of row_of (puts (by_key below) entries ks F) rows₀ count more) where
    counted : length entries ≡ count
    counted = length-map (take count rows₀) item_of ∙ length-take-le count rows₀ t.within

    pub putting-starts : Putting (length ks) count more rows₀
    putting-starts =
        let e = t.total in
        let a = take_all count entries (omega (arith, counted)) in
        let b = take_all (length ks) ks (omega arith) in
        let none : drop count entries ≡ [] = drop_of_length-le entries {i = count} (omega (arith, counted)) in
        record {
          few = omega arith;
          sum = rw (a, b) e;
          done = [];
          whole = rw (a, b, append-nil) refl;
          laid = rw e (sym (take-append-drop (length after) rows₀));
          clear = rw none (clear_none X below (take (length ks) ks));
        }

    pub putting-ends : (left by : ℕ) (rows : List (List ℕ)) → Putting 0 left by rows
        → rows ≡ onto (map row_of (puts (by_key below) entries ks F)) rows₀
    putting-ends left by rows s =
        let n : length (take left entries) ≡ left = length-take-le left entries (omega (arith, counted, s.few)) in
        let e : left + by ≡ left = s.sum ∙ n in
        let f : map row_of (take left entries) ≡ take left rows₀ =
        ap (map row_of) (map-take item_of left (take count rows₀) ∙ ap (map item_of) (take-take left count rows₀ s.few))
        ∙ plain_rows item_of row_of left rows₀ (λ i h. t.plain i (omega (arith, s.few))) (omega (arith, s.few, t.within)) in
        let g : map row_of after ≡ take left rows₀ ++ map row_of s.done =
        ap (map row_of) s.whole ∙ map-append row_of (take left entries) s.done ∙ ap (λ (z : List (List ℕ)). z ++ map row_of s.done) f in
        s.laid ∙ ap (λ (m : ℕ). take m rows₀ ++ (map row_of s.done ++ drop (length after) rows₀)) e
        ∙ sym (append_assoc (take left rows₀) (map row_of s.done) (drop (length after) rows₀))
        ∙ ap (λ (z : List (List ℕ)). z ++ drop (length after) rows₀) (sym g)
        ∙ ap (λ (m : ℕ). map row_of after ++ drop m rows₀) (sym (length-map after row_of))

    -- the rows are as many as they were
    pub putting-length : (j left by : ℕ) (rows : List (List ℕ)) → Putting j left by rows → length rows ≡ length rows₀
    putting-length j left by rows s =
        let n = ap length s.whole ∙ length-append (puts (by_key below) (take left entries) (take j ks) F) s.done in
        ap length s.laid ∙ simp (length-append, length-map, length-drop, length-take) (omega (arith, n, s.sum, t.room))

    -- ---- a turn ----

    module _ (climbs : Climbs below ks) (j left by : ℕ) (rows : List (List ℕ)) (s : Putting (j + 1) left by rows) where
      counts : length (take left entries) ≡ left
      counts = length-take-le left entries (omega (arith, counted, s.few))

      fits : left + by ≤ length rows₀
      fits =
          let n = ap length s.whole ∙ length-append (puts (by_key below) (take left entries) (take (j + 1) ks) F) s.done in
          omega (arith, n, s.sum, t.room)

      -- the rows that stand as they were
      rows-front : (m : ℕ) → m ≤ left + by → take m rows ≡ take m rows₀
      rows-front m p =
          ap (take m) s.laid
          ∙ take-append-le m (take (left + by) rows₀) (map row_of s.done ++ drop (length after) rows₀) (rw (length-take-le (left + by) rows₀ fits) p)
          ∙ take-take m (left + by) rows₀ p

      items-front : map item_of (take left rows) ≡ take left entries
      items-front = ap (map item_of) (rows-front left (omega arith) ∙ sym (take-take left count rows₀ s.few)) ∙ sym (map-take item_of left (take count rows₀))

      turn-plain : Plain item_of row_of left rows
      turn-plain i h =
          let same : get_or rows i [] ≡ get_or rows₀ i [] =
          sym (get_or-take left rows i [] h) ∙ ap (λ (z : List (List ℕ)). get_or z i []) (rows-front left (omega arith)) ∙ get_or-take left rows₀ i [] h in
          rw same (t.plain i (omega (arith, s.few)))

      front-rises : rises (lower below) (take left entries) ≡ true
      front-rises = climbs-rises (lower below) (take left entries)
          (climbs-front (lower below) (take left entries) (drop left entries) (rw (take-append-drop left entries) (key-climbs o entries t.rise)))

      module _ (d k : K) (h : j < length ks) (q : k ≡ get_or ks j d) where
        keys : take (j + 1) ks ≡ take j ks ++ (k ∷ [])
        keys = rw (q, add-one) (take-suc ks j d h)

        low-keys : Lower below k (take j ks)
        low-keys =
            let front = climbs-front below (take (j + 1) ks) (drop (j + 1) ks) (rw (take-append-drop (j + 1) ks) climbs) in
            (climbs-last below (take j ks) k (rw keys at front)).0

        -- the key among the entries that stand, by its place
        abbrev place : Result ℕ ℕ
        place = place_of below same (take left entries) k

        w : Parted o k (take left entries) place
        w = parted o k (take left entries) front-rises

        abbrev i : ℕ
        i = index_of place

        abbrev from : ℕ
        from = behind_of place

        abbrev behind : List (K × X)
        behind = drop from (take left entries)

        inside : from ≤ left
        inside = omega (arith, w.inside, counts)

        front : take i (take left entries) ≡ take i entries
        front = take-take i left entries (omega (arith, w.ordered, inside))

        before : length (take i entries) ≡ i
        before = length-take-le i entries (omega (arith, counted, s.few, w.ordered, inside))

        step : puts (by_key below) (take left entries) (take (j + 1) ks) F ≡ puts (by_key below) (take i entries) (take j ks) F ++ ((k, F k) ∷ behind)
        step =
            (λ n. puts (by_key below) (w.parts n) (keys n) F)
            ∙ puts-last o F (take j ks) k (find same (take left entries) k) (take i (take left entries)) behind low-keys w.low w.high
            ∙ ap (λ (z : List (K × X)). puts (by_key below) z (take j ks) F ++ ((k, F k) ∷ behind)) front

        size : left + by ≡ length (puts (by_key below) (take i entries) (take j ks) F) + suc (left - from)
        size =
            s.sum ∙ ap length step ∙ length-append (puts (by_key below) (take i entries) (take j ks) F) ((k, F k) ∷ behind)
            ∙ ap (λ (n : ℕ). length (puts (by_key below) (take i entries) (take j ks) F) + suc n)
            (length-drop from (take left entries) ∙ ap (λ (n : ℕ). n - from) counts)

        opened : i < from + by
        opened = omega (arith, size, inside, before, puts-grows below (take i entries) (take j ks) F)

        -- what is found among the rows that stand is what is found among all
        turn-found : find same (map item_of (take left rows)) k ≡ find same entries k
        turn-found =
            ap (λ (z : List (K × X)). find same z k) items-front
            ∙ sym (find-under o k (take left entries) (drop left entries) (clear-last below (take j ks) k (drop left entries) (rw keys at s.clear)))
            ∙ ap (λ (z : List (K × X)). find same z k) (take-append-drop left entries)

        turn-parted : Parted o k (map item_of (take left rows)) (place_of below same (map item_of (take left rows)) k)
        turn-parted = rw items-front w

        -- there is room for the key
        turn-opens : Opens (place_of below same (map item_of (take left rows)) k) left by rows
        turn-opens = rw items-front (record {
          few = omega (arith, s.few, t.few);
          inside = inside;
          room = omega (arith, fits, putting-length (j + 1) left by rows s);
          opens = opened;
        })

        rows_behind : walks.left from left rows ≡ map row_of behind
        rows_behind =
            ap (drop from) (rows-front left (omega arith)
            ∙ sym (plain_rows item_of row_of left rows₀ (λ i p. t.plain i (omega (arith, s.few))) (omega (arith, s.few, t.within))))
            ∙ map-drop row_of from (map item_of (take left rows₀))
            ∙ ap (λ (z : List (K × X)). map row_of (drop from z))
            (ap (map item_of) (sym (take-take left count rows₀ s.few)) ∙ sym (map-take item_of left (take count rows₀)))

        last-rows : drop (left + by) rows ≡ map row_of s.done ++ drop (length after) rows₀
        last-rows =
            ap (drop (left + by)) s.laid
            ∙ drop_at (take (left + by) rows₀) (map row_of s.done ++ drop (length after) rows₀) (left + by) (length-take-le (left + by) rows₀ fits)

        still-clear : Clear below (take j ks) (drop i entries)
        still-clear =
            let own : drop i (take left entries) ≡ entry k (find same (take left entries) k) behind =
            ap (drop i) w.parts ∙ drop_at (take i (take left entries)) (entry k (find same (take left entries) k) behind) i (ap length front ∙ before) in
            let all : drop i entries ≡ entry k (find same (take left entries) k) behind ++ drop left entries =
            ap (drop i) (sym (take-append-drop left entries))
            ∙ drop-append-le i (take left entries) (drop left entries) (omega (arith, counts, w.ordered, inside))
            ∙ ap (λ (z : List (K × X)). z ++ drop left entries) own in
            rw all (clear-append below (take j ks) (entry k (find same (take left entries) k) behind) (drop left entries)
            (clear-lower o k (take j ks) (find same (take left entries) k) behind low-keys w.high)
            (clear-front below (take j ks) (k ∷ []) (drop left entries) (rw keys at s.clear)))

        put-down : (row : List ℕ) → row ≡ row_of (k, F k) → Putting j i (from + by - 1 - i) (set (moved by from left rows) (from + by - 1) row)
        put-down row r =
            let m : from + by - 1 ≡ i + (from + by - 1 - i) = omega (arith, opened) in
            let b : from + by ≡ from + by - 1 + 1 = omega (arith, opened) in
            let done : List (K × X) = (k, F k) ∷ (behind ++ s.done) in
            record {
              few = omega (arith, s.few, w.ordered, inside);
              sum = sym m ∙ omega (arith, size, opened, inside);
              done = done;
              whole =
                  s.whole ∙ ap (λ (z : List (K × X)). z ++ s.done) step
                  ∙ append_assoc (puts (by_key below) (take i entries) (take j ks) F) ((k, F k) ∷ behind) s.done;
              laid =
                  moved-set by left from (from + by - 1) rows row b (omega (arith, opened, fits, putting-length (j + 1) left by rows s, inside))
                  ∙ (λ t. rows-front (from + by - 1) (omega (arith, inside)) t ++ (r t ∷ (rows_behind t ++ last-rows t)))
                  ∙ ap (λ (z : List (List ℕ)). take (from + by - 1) rows₀ ++ (row_of (k, F k) ∷ z))
                  (sym (append_assoc (map row_of behind) (map row_of s.done) (drop (length after) rows₀))
                  ∙ ap (λ (z : List (List ℕ)). z ++ drop (length after) rows₀) (sym (map-append row_of behind s.done)))
                  ∙ ap (λ (z : ℕ). take z rows₀ ++ (map row_of done ++ drop (length after) rows₀)) m;
              clear = still-clear;
            }

        turn-puts : (row : List ℕ) (rows' : List (List ℕ)) (step : Step) → row ≡ row_of (k, F k)
            → Puts (place_of below same (map item_of (take left rows)) k) left by row rows rows' step → Putting j step.left step.by rows'
        turn-puts row rows' step r p =
            let p' = subst (λ (z : List (K × X)). Puts (place_of below same z k) left by row rows rows' step) items-front p in
            subst (λ (x : Step). Putting j x.left x.by rows') (sym p'.steps)
            (subst (λ (z : List (List ℕ)). Putting j i (from + by - 1 - i) z) (sym p'.rows) (put-down row r))

        pub turn : Turn j left by rows k
        turn = record {
          inside = omega (arith, fits, putting-length (j + 1) left by rows s);
          plain = turn-plain;
          found = turn-found;
          parted = turn-parted;
          opens = turn-opens;
          next = turn-puts;
        }
