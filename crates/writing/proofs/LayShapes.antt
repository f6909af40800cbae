-- An element's rows, passed: what a shape finds, under its conditions or without.
-- Assumes nothing.
use Rattle.std.specs.Prelude.{⊤}
use Rattle.std.proofs.Common.{◌≡◌, ℕ, zero, suc, ◌+◌, ◌*◌, ◌^◌, ◌<◌, ◌≤◌, Bool, true, false, cond, eqb, ltb, leb, ◌⊎◌, Option, Some, None, List, []}
use Rattle.std.proofs.Common.{◌∷◌, ◌++◌, length, get_or, take, drop, sym, refl, ap, ◌∙◌, subst, inl, inr, add-zero, add-one, arith, length-take-le}
use Rattle.std.proofs.Common.{get_or-drop, get_or-take, take-suc, leb-true}
use mathlib.Core.List.{tail}
use native.Mathlib.Decide.{dec_lt}
use lib.Seq.{get_or_at}
use Rattle.refusal.specs.declared.Refusal.{Refusal}
use Rattle.refusal.specs.declared.Refusal.TheVariants.{Reserved, NothingFollows, TypeThree}
use Rattle.refusal.specs.declared.Refusal.TheVariants as refusal
use Rattle.refusal.specs.Number.{number_of}
use Rattle.bits.specs.Bits.{digits}
use Rattle.layout.specs.Row.{Row, Condition, is, nothing_since, all, present, nothing, bare}
use Rattle.layout.specs.Shape.{refuse, No, codes_of, rows_of, span, conditions_of}
use Rattle.layout.specs.Write.{Laid, held, lay, good, good_but_group, vals, emit}
use Rattle.layout.specs.Frame.{places}
use Rattle.layout.proofs.Tests.{both_true}
use Rattle.layout.specs.declared.Element.{Element}
use Rattle.table.specs.Sound.{Clear}
use Rattle.table.proofs.ShapeLaws.{span-some}
use Rattle.table.proofs.Walks.{clear_later}
use Rattle.table.proofs.Absent.{present-before, shut-element, passes, length-shape}
use Rattle.layout.specs.declared.Shape.{Shape}
use Rattle.layout.specs.declared.Shape.TheVariants.{Number, Choice, Identity, Ending, Missing, Nothing}
use Rattle.layout.specs.declared.Shape.TheVariants as shape
use Rattle.writing.specs.Pass.{Pass, Judge, Lay}
use Rattle.writing.specs.declared.walk.Passed.{Passed}
use Rattle.writing.specs.declared.walk.Passed.TheVariants.{Empty, NoGroup}
use Rattle.writing.specs.Lay.{Lent, Does, Finds, Lies, Lays, Ready, Any, Writes, Within, reached}
use Rattle.writing.specs.Found.{Looks, LooksAlong, Found, Puts, found_of, barred_of}
use Rattle.writing.proofs.LayLaws.{stays_none, finds, finds_on, lay-under, over_none, kept, laying}

-- ---- what the first row of an element leaves in the cleaned record
module _ (c : Row) (more : List Row) (plain : c.hang ≡ []) where
  first-laid : (done s : List ℕ) → let v = held c (get_or s 0 0) in
      lay (c ∷ more) done s ≡ record { row = bare c; val = v } ∷ lay more (done ++ (v ∷ [])) (tail s)
  unfolding lay present
  first-laid done s = rw plain

  module _ (pass : Pass) (s : List ℕ) (at at' p : ℕ) (vs vs' : List ℕ) (out out' : Lent) (inside : p < length vs)
      (f : Lays pass (c ∷ more) s at p vs vs' out out' (Some at')) where
    here : held c (get_or (drop p s) 0 0) ≡ held c (get_or s p 0)
    here = ap (held c) (get_or-drop p s 0 0 ∙ ap (λ (q : ℕ). get_or s q 0) (add-zero p))

    first-value : get_or vs' p 0 ≡ held c (get_or s p 0)
    unfolding vals
    first-value =
        let n = p + suc (length more) in
        sym (get_or-take n vs' p 0 (omega arith))
        ∙ ap (λ (l : List ℕ). get_or l p 0) (f.ends.0.front ∙ ap (λ (l : List Laid). take p vs ++ vals l) (first-laid (take p vs) (drop p s)))
        ∙ get_or_at (take p vs) (held c (get_or (drop p s) 0 0)) _ 0 p (length-take-le p vs (omega arith))
        ∙ here

    -- where the first value is 0, nothing is held: there is no other row, or 0 has no code
    nothing-held : held c (get_or s p 0) ≡ 0 → (more ≡ []) ⊎ (0 < c.first) → Clear vs p → Finds pass (all good (lay (c ∷ more) (take p vs) (drop p s)) ≡ true)
        → Finds pass (Clear vs' p)
    nothing-held e one z = finds_on pass (judged one)
      where
        judged : (more ≡ []) ⊎ (0 < c.first) → all good (lay (c ∷ more) (take p vs) (drop p s)) ≡ true → Clear vs' p
        judged (inl d) t = λ q h. at-or-behind q h (dec_lt p q)
          where
            behind : Clear vs' (p + 1)
            behind = clear_later 1 p vs vs' (subst (λ (l : List Row). drop (p + suc (length l)) vs' ≡ drop (p + suc (length l)) vs) d f.ends.0.stays) z

            at-or-behind : (q : ℕ) → p ≤ q → Dec (p < q) → get_or vs' q 0 ≡ 0
            at-or-behind q h (yes l) = behind q (omega arith)
            at-or-behind q h (no l) =
                let same : p ≡ q = omega arith in
                subst (λ (x : ℕ). get_or vs' x 0 ≡ 0) same (first-value ∙ e)
        judged (inr d) t =
            let v = held c (get_or (drop p s) 0 0) in
            let x : Laid = record { row = bare c; val = v } in
            let all-good = sym (ap (all good) (first-laid (take p vs) (drop p s))) ∙ t in
            let low = leb-true c.first v (both_true (leb c.first v) (ltb v (c.first + c.codes)) (both_true (good x) _ all-good).0).0 in
            absurd (omega (arith, here, e))

-- ---- by the value at its first place
module _ {pass : Pass} {c : Row} {more : List Row} {s : List ℕ} {at p at' : ℕ} {out out' : Lent} (x : Option ⊤)
    (f : Writes pass Any (c ∷ more) s at p out out' (reached x at')) (plain : c.hang ≡ []) (one : (more ≡ []) ⊎ (0 < c.first)) (inside : p < places) where
  pub puts-found : (known : List ℕ → Type 0) (value : ℕ) (r : Option Passed) → value ≡ held c (get_or s p 0) → r ≡ found_of x value
      → Puts pass known (c ∷ more) s at p out out' at' r
  puts-found known value r d e = subst (Puts pass known (c ∷ more) s at p out out' at') (sym e) (go x value d f)
    where
      go : (x : Option ⊤) (value : ℕ) → value ≡ held c (get_or s p 0) → Writes pass Any (c ∷ more) s at p out out' (reached x at')
          → Puts pass known (c ∷ more) s at p out out' at' (found_of x value)
      go None value d f =
          record { lent = f.lent; within = tt; finds = λ vs size z k. let w = f.lays vs size z tt in (w.0, w.1.size, w.1.ends) }
      go (Some u) zero d f =
          record {
            lent = f.lent;
            within = f.within;
            finds = λ vs size z k.
                let w = f.lays vs size z tt in (
                  w.0,
                  w.1.size,
                  (w.1.ends, nothing-held c more plain pass s at at' p vs w.0 out out' (omega arith) w.1 (sym d) one z w.1.ends.1),
                );
          }
      go (Some u) (suc v) d f =
          record {
            lent = f.lent;
            within = f.within;
            finds = λ vs size z k.
                let w = f.lays vs size z tt in
                let same = first-value c more plain pass s at at' p vs w.0 out out' (omega arith) w.1 in
                (w.0, w.1.size, (w.1.ends, finds pass (λ (none : get_or w.0 p 0 ≡ 0). omega (arith, same, d, none))));
          }

-- ---- a refusal's row
module _ (n : Refusal) (c : Condition) (s : List ℕ) (at p : ℕ) (out : Lent) where
  abbrev bar : List Row
  bar = refuse n 1 (c ∷ []) ∷ []

  abbrev bar_laid : Bool → List Laid
  bar_laid b = record { row = cond b (refuse n 1 []) nothing; val = 0 } ∷ []

  module _ (vs : List ℕ) (inside : p < length vs) (z : Clear vs p) where
    bar-laid : (b : Bool) → present (take p vs) (c ∷ []) ≡ b → lay bar (take p vs) (drop p s) ≡ bar_laid b
    unfolding lay
    bar-laid true e = rw e
    bar-laid false e = rw e

    -- it has no bits, whether it is there or not
    bar-lies : (pass : Pass) (b : Bool) → Lies pass (bar_laid b) 1 at at p vs vs out out
    unfolding vals emit digits
    bar-lies pass b =
        let front : take (p + 1) vs ≡ take p vs ++ (0 ∷ []) = rw (add-one p, take-suc vs p 0 inside, z p (omega arith)) in
        record { on = none b; front = front; before = refl; stays = refl; does = does pass b }
      where
        none : (b : Bool) → at ≡ at + length (emit (bar_laid b))
        none true = sym (add-zero at)
        none false = sym (add-zero at)

        does : (pass : Pass) (b : Bool) → Does pass (bar_laid b) at out out
        does Judge b = tt
        does Lay true = λ g. over_none out.bytes at
        does Lay false = λ g. over_none out.bytes at

    -- the walk that lays passes it
    bar-laying : (b : Bool) → present (take p vs) (c ∷ []) ≡ b → Found Lay (lay bar (take p vs) (drop p s)) 1 at p vs vs out out at (Some Empty)
    bar-laying b e = subst (λ (l : List Laid). Found Lay l 1 at p vs vs out out at (Some Empty)) (sym (bar-laid b e)) ((bar-lies Lay b, tt), tt)

    bar-off : present (take p vs) (c ∷ []) ≡ false → Found Judge (lay bar (take p vs) (drop p s)) 1 at p vs vs out out at (Some Empty)
    bar-off e = subst (λ (l : List Laid). Found Judge l 1 at p vs vs out out at (Some Empty)) (sym (bar-laid false e)) ((bar-lies Judge false, refl), z)

    pub bar-bad : eqb (number_of n) 5 ≡ false → present (take p vs) (c ∷ []) ≡ true
        → Found Judge (lay bar (take p vs) (drop p s)) 1 at p vs vs out out at None
    bar-bad h e = ap (all good_but_group) (bar-laid true e) ∙ rw h

    pub bar-group : eqb (number_of n) 5 ≡ true → present (take p vs) (c ∷ []) ≡ true
        → Found Judge (lay bar (take p vs) (drop p s)) 1 at p vs vs out out at (Some NoGroup)
    bar-group h e =
        subst (λ (l : List Laid). Found Judge l 1 at p vs vs out out at (Some NoGroup)) (sym (bar-laid true e)) (bar-lies Judge true, refl, rw h, z)

  -- by the reason and the walk
  module _ (pass : Pass) (inside : p < places) (known : List ℕ → Type 0) (reason : Bool) (refusal : Option Passed)
      (small : Within (reached refusal at) (at + 32))
      (tells : (vs : List ℕ) → Clear vs p → known vs → Finds pass (present (take p vs) (c ∷ []) ≡ reason))
      (stops : (vs : List ℕ) → p < length vs → Clear vs p → present (take p vs) (c ∷ []) ≡ true
      → Found Judge (lay bar (take p vs) (drop p s)) 1 at p vs vs out out at refusal) where
    pub puts-barred : (r : Option Passed) → r ≡ barred_of pass reason refusal → Puts pass known bar s at p out out at r
    puts-barred r e = subst (Puts pass known bar s at p out out at) (sym e) (go pass reason tells)
      where
        go : (pass : Pass) (b : Bool) → ((vs : List ℕ) → Clear vs p → known vs → Finds pass (present (take p vs) (c ∷ []) ≡ b))
            → Puts pass known bar s at p out out at (barred_of pass b refusal)
        go Judge true t =
            record { lent = stays_none; within = small; finds = λ vs size z k. (vs, refl, stops vs (omega arith) z (t vs z k)) }
        go Judge false t =
            record { lent = stays_none; within = omega arith; finds = λ vs size z k. (vs, refl, bar-off vs (omega arith) z (t vs z k)) }
        go Lay b t = record { lent = stays_none; within = omega arith; finds = λ vs size z k. (vs, refl, bar-laying vs (omega arith) z _ refl) }

-- ---- under the element's conditions
lay-shape : (x : Shape) (hang : List Condition) (p : ℕ) (done s : List ℕ) → present done hang ≡ true
    → lay (rows_of x hang p) done s ≡ lay (rows_of x [] p) done s
unfolding rows_of
lay-shape (Number w) hang p done s e = lay-under w 0 (2 ^ w) Reserved 0 [] hang [] done s e
lay-shape (Choice w n) hang p done s e = lay-under w 1 n Reserved 0 [] hang [] done s e
lay-shape Identity hang p done s e = lay-under 2 1 3 Reserved 0 [] hang _ done s e
lay-shape (shape.List items) hang p done s e = lay-under 4 1 (codes_of items) Reserved 0 [] hang _ done s e
lay-shape Ending hang p done s e = lay-under 1 0 1 TypeThree 0 [] hang [] done s e
lay-shape (Missing q) hang p done s e = lay-under 0 0 0 refusal.NoGroup 1 (is q No ∷ []) hang [] done s e
lay-shape (Nothing o) hang p done s e = lay-under 0 0 0 NothingFollows 1 (nothing_since o ∷ []) hang [] done s e

pub first-inside : {at p : ℕ} (x : Shape) → Ready at p (span x) → p < places
first-inside x now = omega (arith, now.room, span-some x)

module _ (pass : Pass) (e : Element) (s : List ℕ) (last at p : ℕ) where
  abbrev hang : List Condition
  hang = conditions_of e.0

  pub element-puts : {out out' : Lent} {at' : ℕ} {r : Option Passed} → present s hang ≡ true
      → Puts pass (Looks pass s last p e.1) (rows_of e.1 [] p) s at p out out' at' r
      → Puts pass (LooksAlong pass s last p e) (rows_of e.1 hang p) s at p out out' at' r
  element-puts {out} {out'} {at'} {r} on f =
      record {
        lent = f.lent;
        within = subst (λ (m : ℕ). Within (reached r at') (at + 32 * m)) n f.within;
        finds = λ vs size z k.
            let w = f.finds vs size z (k.looks on) in
            let same = lay-shape e.1 hang p (take p vs) (drop p s) (present-before e.0 vs p z ∙ k.hang ∙ on) in (
              w.0,
              w.1,
              subst (λ (l : List Laid). Found pass l (length (rows_of e.1 hang p)) at p vs w.0 out out' at' r) (sym same)
                  (subst (λ (m : ℕ). Found pass (lay (rows_of e.1 [] p) (take p vs) (drop p s)) m at p vs w.0 out out' at' r) n w.2),
            );
      }
    where
      n : length (rows_of e.1 [] p) ≡ length (rows_of e.1 hang p)
      n = length-shape e.1 [] p ∙ sym (length-shape e.1 hang p)

  pub element-off : (out : Lent) → present s hang ≡ false → p + span e.1 ≤ places
      → Puts pass (LooksAlong pass s last p e) (rows_of e.1 hang p) s at p out out at (Some Empty)
  element-off out off room =
      record {
        lent = stays_none;
        within = omega arith;
        finds = λ vs size z k.
            let shut = shut-element e.0 e.1 p vs (k.hang ∙ off) z in
            let few = length-shape e.1 hang p in
            let f = passes (laying pass s) at p (kept vs out) (rows_of e.1 hang p) shut z (omega arith) in
            (vs, refl, (f.ends, finds pass z));
      }
