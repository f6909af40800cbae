-- Whether anything came since a place where an element begins: the walk notes the last element that holds something.
-- Assumes nothing.
use Rattle.std.proofs.Common.{◌≡◌, ℕ, zero, suc, ◌+◌, ◌<◌, ◌≤◌, Bool, true, false, ◌&&◌, T, eqb, leb, List, [], ◌∷◌, length, get_or, take, drop, sym, refl, ap, ◌∙◌, subst, arith, drop_of_length-le, length-take, length-take-le, get_or-drop, drop-cons, take-add, ne_eqb, eqb-true, le-leb}
use native.Mathlib.Decide.{dec_le}
use borrow.Author.Tests.{lt-leb}
use lib.Seq.{drop-append-le}
use Rattle.layout.specs.declared.Element.{Element}
use Rattle.layout.specs.Row.{all}
use Rattle.layout.specs.Shape.{span}
use Rattle.layout.specs.Chain.{begins}
use Rattle.layout.proofs.Tests.{told, either, all_append, and-true, and-false}
use Rattle.table.specs.Sound.{Clear}
use Rattle.table.proofs.ShapeLaws.{span-some}

-- only 0s
abbrev pub empty : List ℕ → Bool
empty = all (λ v. eqb v 0)

-- `last` is the place behind the first of the last element that holds something, 0 where none does; j elements are passed, and the next begins at the place p
pub record Since (es : List Element) (j : ℕ) (vs : List ℕ) (p last : ℕ) : Type 0 where
  pub low : last ≤ p
  pub ahead : (b : ℕ) → T (begins es 0 b) → p ≤ b → T (begins (drop j es) p b)
  pub tells : (b : ℕ) → T (begins es 0 b) → b ≤ p → leb last b ≡ empty (drop b (take p vs))

pub since_none : (es : List Element) (vs : List ℕ) → Since es 0 vs 0 0
since_none es vs =
    record {
      low = omega arith;
      ahead = λ b t h. t;
      tells = λ b t h. le-leb 0 b (omega arith) ∙ sym (ap empty (drop_of_length-le (take 0 vs) {i = b} (omega (arith, length-take 0 vs))));
    }

-- no element begins before the first
begins-low : (es : List Element) (p b : ℕ) → T (begins es p b) → p ≤ b
unfolding begins
begins-low [] p b t = omega (arith, eqb-true p b (told (eqb p b) t))
begins-low (e ∷ es) p b t =
    either (eqb p b) (begins es (p + span e.1) b) t (λ u. omega (arith, eqb-true p b (told (eqb p b) u)))
    (λ u. omega (arith, begins-low es (p + span e.1) b u))

-- ---- one element more, of n places
module _ (es : List Element) (j : ℕ) (vs vs' : List ℕ) (p last : ℕ) (e : Element) (now : Since es j vs p last) (next : drop j es ≡ e ∷ drop (j + 1) es)
    (room : p + span e.1 ≤ length vs') (before : take p vs' ≡ take p vs) where
  abbrev n : ℕ
  n = span e.1

  -- the places so far, and the element's own
  parts : (b : ℕ) → b ≤ p → empty (drop b (take (p + n) vs')) ≡ empty (drop b (take p vs)) && empty (take n (drop p vs'))
  parts b h =
      ap (λ (l : List ℕ). empty (drop b l)) (take-add p n vs')
      ∙ ap empty (drop-append-le b (take p vs') (take n (drop p vs')) (omega (arith, length-take-le p vs' (omega arith))))
      ∙ all_append (λ v. eqb v 0) (drop b (take p vs')) (take n (drop p vs'))
      ∙ ap (λ (l : List ℕ). empty (drop b l) && empty (take n (drop p vs'))) before

  further : (b : ℕ) → T (begins es 0 b) → p < b → T (begins (drop (j + 1) es) (p + n) b)
  unfolding begins
  further b t h =
      let here = subst (λ (l : List Element). T (begins l p b)) next (now.ahead b t (omega arith)) in
      either (eqb p b) (begins (drop (j + 1) es) (p + n) b) here (λ u. absurd (omega (arith, eqb-true p b (told (eqb p b) u)))) (λ u. u)

  -- behind the element, nothing has come
  behind : (last' b : ℕ) → T (begins es 0 b) → p < b → b ≤ p + n → last' ≤ p + n → leb last' b ≡ empty (drop b (take (p + n) vs'))
  behind last' b t h k l =
      let far : p + n ≤ b = begins-low (drop (j + 1) es) (p + n) b (further b t h) in
      le-leb last' b (omega arith) ∙ sym (ap empty (drop_of_length-le (take (p + n) vs') {i = b} (omega (arith, length-take-le (p + n) vs' room))))

  pub since-empty : Clear vs' p → Since es (j + 1) vs' (p + n) last
  since-empty z =
      record {
        low = omega (arith, now.low);
        ahead = λ b t h. further b t (omega (arith, span-some e.1));
        tells = λ b t h. go b t h (dec_le b p);
      }
    where
      taken : (m : ℕ) (l : List ℕ) → ((q : ℕ) → get_or l q 0 ≡ 0) → empty (take m l) ≡ true
      taken zero l f = refl
      taken (suc m) [] f = refl
      taken (suc m) (x ∷ l) f = rw (f 0) (taken m l (λ q. f (suc q)))

      go : (b : ℕ) → T (begins es 0 b) → b ≤ p + n → Dec (b ≤ p) → leb last b ≡ empty (drop b (take (p + n) vs'))
      go b t h (yes l) =
          now.tells b t l
          ∙ sym (parts b l ∙ ap (λ (x : Bool). empty (drop b (take p vs)) && x) (taken n (drop p vs') (λ q. get_or-drop p vs' q 0 ∙ z (p + q) (omega arith)))
          ∙ and-true (empty (drop b (take p vs))))
      go b t h (no l) = behind last b t (omega arith) h (omega (arith, now.low))

  pub since-held : (get_or vs' p 0 ≡ 0 → ⊥) → Since es (j + 1) vs' (p + n) (p + 1)
  since-held some =
      record {
        low = omega (arith, span-some e.1);
        ahead = λ b t h. further b t (omega (arith, span-some e.1));
        tells = λ b t h. go b t h (dec_le b p);
      }
    where
      holds : (m : ℕ) → 0 < m → empty (take m (drop p vs')) ≡ false
      holds zero h = absurd (omega arith)
      holds (suc m) h = rw (drop-cons vs' p 0 (omega (arith, span-some e.1)), ne_eqb (get_or vs' p 0) 0 some)

      go : (b : ℕ) → T (begins es 0 b) → b ≤ p + n → Dec (b ≤ p) → leb (p + 1) b ≡ empty (drop b (take (p + n) vs'))
      go b t h (yes l) =
          lt-leb (p + 1) b (omega arith)
          ∙ sym (parts b l ∙ ap (λ (x : Bool). empty (drop b (take p vs)) && x) (holds n (span-some e.1)) ∙ and-false (empty (drop b (take p vs))))
      go b t h (no l) = behind (p + 1) b t (omega arith) h (omega (arith, span-some e.1))
