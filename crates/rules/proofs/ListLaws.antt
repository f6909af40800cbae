-- Lists of numbers: membership, rising lists, lists without repeats, sums.
use Prim.Native.Nat.{ℕ, zero, suc, ◌≤◌, ◌<◌}
use mathlib.Core.Path.{◌≡◌, refl, sym, ◌∙◌, ap}
use mathlib.Core.Bool.{Bool, true, false, not, ◌&&◌, ◌||◌}
use mathlib.Core.List.{List, [], ◌∷◌, ◌++◌}
use lib.Dec.{eqb, ltb}
use lib.ListN.{length, get_or}
use native.Mathlib.Omega.{arith}
use borrow.Author.Tests.{eqb-true, eqb-false, ltb-true, ltb-false, eq-eqb, ne_eqb, not-true}
use Rattle.rules.specs.Lists.{any, all, unique, keep, mem, once, insert, in_order, rising, Above, Rising, sum}
use Rattle.rules.proofs.Tests.{split, clash, and-false, and-true, and_in, and_l, and_r, or_assoc, or_swap, or-second, or_l, or_r}

pub mem-keep : (p : ℕ → Bool) (x : ℕ) (l : List ℕ) → mem x (keep p l) ≡ (mem x l && p x)
mem-keep p x [] = refl
mem-keep p x (y ∷ l) =
    split (eqb x y)
    (λ e. split (p y) (λ f. cc (eqb-true x y e)) (λ f. cc (eqb-true x y e, mem-keep p x l, and-false (mem x l))))
    (λ e. split (p y) (λ f. cc (mem-keep p x l)) (λ f. cc (mem-keep p x l)))

pub any_append : {A : Type 0} (p : A → Bool) (a b : List A) → any p (a ++ b) ≡ (any p a || any p b)
any_append p [] b = refl
any_append p (x ∷ a) b = cc (any_append p a b, or_assoc (p x) (any p a) (any p b))

pub mem-append : (x : ℕ) (a b : List ℕ) → mem x (a ++ b) ≡ (mem x a || mem x b)
mem-append x a b = any_append (eqb x) a b

pub mem-later : (x : ℕ) (a b : List ℕ) → mem x b ≡ true → mem x (a ++ b) ≡ true
mem-later x a b h = split (mem x a) (λ e. cc (mem-append x a b)) (λ e. cc (mem-append x a b))

-- what holds of all numbers of two lists holds of those of both together
pub mem-both : (P : ℕ → Type 0) (a b : List ℕ) → ((x : ℕ) → mem x a ≡ true → P x) → ((x : ℕ) → mem x b ≡ true → P x)
    → (x : ℕ) → mem x (a ++ b) ≡ true → P x
mem-both P a b h k x e = split (mem x a) (h x) (λ n. k x (cc (mem-append x a b)))

pub eqb_same : (x : ℕ) → eqb x x ≡ true
eqb_same x = eq-eqb x x refl

pub eqb-flip : (x y : ℕ) → eqb x y ≡ eqb y x
eqb-flip x y = split (eqb x y)
    (λ e. e ∙ sym (eq-eqb y x (sym (eqb-true x y e))))
    (λ e. e ∙ sym (ne_eqb y x (λ q. eqb-false x y e (sym q))))

-- ---- lists without repeats ----

module _ {K : Type 0} (same : K → K → Bool) where
  abbrev pub Apart : List K → Type 0
  Apart [] = Unit {0}
  Apart (k ∷ ks) = (any (same k) ks ≡ false) × Apart ks

abbrev pub Once : List ℕ → Type 0
Once = Apart eqb

pub mem-once : (z : ℕ) (l : List ℕ) → mem z (once l) ≡ mem z l
mem-once z [] = refl
mem-once z (x ∷ l) = split (eqb z x)
    (λ e. cc)
    (λ e. cc (mem-keep (λ y. not (eqb x y)) z (once l), mem-once z l, eqb-flip z x, and-true (mem z l)))

once-keep : (p : ℕ → Bool) (l : List ℕ) → Once l → Once (keep p l)
once-keep p [] o = tt
once-keep p (x ∷ l) o = split (p x)
    (λ e. rw e (cc (mem-keep p x l), once-keep p l o.1))
    (λ e. rw e (once-keep p l o.1))

pub once-once : (l : List ℕ) → Once (once l)
once-once [] = tt
once-once (x ∷ l) = (
  cc (mem-keep (λ y. not (eqb x y)) x (once l), eqb_same x, and-false (mem x (once l))),
  once-keep (λ y. not (eqb x y)) (once l) (once-once l),
)

-- a list without repeats is the same again
keep-other : (x : ℕ) (l : List ℕ) → mem x l ≡ false → keep (λ y. not (eqb x y)) l ≡ l
keep-other x [] h = refl
keep-other x (y ∷ l) h = split (eqb x y) (λ e. clash (cc)) (λ e. cc (keep-other x l (cc)))

pub once-same : (l : List ℕ) → Once l → once l ≡ l
once-same [] o = refl
once-same (x ∷ l) o = cc (once-same l o.1, keep-other x l o.0)

-- ---- rising lists ----

above-trans : (x y : ℕ) (l : List ℕ) → x < y → Above y l → Above x l
above-trans x y [] h a = tt
above-trans x y (z ∷ l) h a = (omega arith, above-trans x y l h a.1)

above-keep : (p : ℕ → Bool) (x : ℕ) (l : List ℕ) → Above x l → Above x (keep p l)
above-keep p x [] a = tt
above-keep p x (y ∷ l) a = split (p y)
    (λ e. rw e (a.0, above-keep p x l a.1))
    (λ e. rw e (above-keep p x l a.1))

pub rising-keep : (p : ℕ → Bool) (l : List ℕ) → Rising l → Rising (keep p l)
rising-keep p [] r = tt
rising-keep p (y ∷ l) r = split (p y)
    (λ e. rw e (above-keep p y l r.0, rising-keep p l r.1))
    (λ e. rw e (rising-keep p l r.1))

above-insert : (y x : ℕ) (l : List ℕ) → y < x → Above y l → Above y (insert x l)
above-insert y x [] h a = (h, tt)
above-insert y x (z ∷ l) h a = split (ltb x z)
    (λ e. rw e (h, a))
    (λ e. rw e (a.0, above-insert y x l h a.1))

pub rising-insert : (x : ℕ) (l : List ℕ) → mem x l ≡ false → Rising l → Rising (insert x l)
rising-insert x [] n r = (tt, tt)
rising-insert x (z ∷ l) n r = split (ltb x z)
    (λ e. let h = ltb-true x z e in rw e ((h, above-trans x z l h r.0), r))
    (λ e. split (eqb x z)
    (λ q. clash (cc))
    (λ q. rw e (above-insert z x l (below x z (ltb-false x z e) (eqb-false x z q)) r.0, rising-insert x l (cc) r.1)))
  where
    below : (x z : ℕ) → z ≤ x → (x ≡ z → ⊥) → z < x
    below x z h n = omega arith

pub mem-insert : (n x : ℕ) (l : List ℕ) → mem n (insert x l) ≡ (eqb n x || mem n l)
mem-insert n x [] = refl
mem-insert n x (z ∷ l) = split (ltb x z)
    (λ e. cc)
    (λ e. cc (mem-insert n x l, or_swap (eqb n z) (eqb n x) (mem n l)))

pub length-insert : (x : ℕ) (l : List ℕ) → length (insert x l) ≡ suc (length l)
length-insert x [] = refl
length-insert x (z ∷ l) = split (ltb x z) (λ e. cc) (λ e. cc (length-insert x l))

-- numbers put in order are the same numbers, as many
pub mem-order : (n : ℕ) (l : List ℕ) → mem n (in_order l) ≡ mem n l
mem-order n [] = refl
mem-order n (x ∷ l) = mem-insert n x (in_order l) ∙ ap (λ (b : Bool). eqb n x || b) (mem-order n l)

pub length-order : (l : List ℕ) → length (in_order l) ≡ length l
length-order [] = refl
length-order (x ∷ l) = length-insert x (in_order l) ∙ ap suc (length-order l)

-- and where none stands twice they rise
pub rising-order : (l : List ℕ) → Once l → Rising (in_order l)
rising-order [] o = tt
rising-order (x ∷ l) o = rising-insert x (in_order l) (mem-order x l ∙ o.0) (rising-order l o.1)

pub mem-rising : (z : ℕ) (l : List ℕ) → mem z (rising l) ≡ mem z l
mem-rising z l = mem-order z (once l) ∙ mem-once z l

pub rising-rising : (l : List ℕ) → Rising (rising l)
rising-rising l = rising-order (once l) (once-once l)

-- each once, rising, is that of each once
pub rising-once : (l : List ℕ) → rising (once l) ≡ rising l
rising-once l = ap in_order (once-same (once l) (once-once l))

above-mem : (x : ℕ) (l : List ℕ) → Above x l → mem x l ≡ false
above-mem x [] a = refl
above-mem x (y ∷ l) a = cc (ne_eqb x y (ne x y a.0), above-mem x l a.1)
  where
    ne : (x y : ℕ) → x < y → x ≡ y → ⊥
    ne x y h q = omega arith

pub mem-head : (x : ℕ) (l : List ℕ) → mem x (x ∷ l) ≡ true
mem-head x l = cc (eqb_same x)

pub mem-at : (l : List ℕ) (i : ℕ) → i < length l → mem (get_or l i 0) l ≡ true
mem-at [] i h = absurd (omega arith)
mem-at (x ∷ l) zero h = mem-head x l
mem-at (x ∷ l) (suc i) h = or-second (eqb (get_or l i 0) x) (mem (get_or l i 0) l) (mem-at l i (omega arith))

pub no_member : (l : List ℕ) → ((x : ℕ) → mem x l ≡ false) → l ≡ []
no_member [] h = refl
no_member (x ∷ l) h = clash (sym (mem-head x l) ∙ h x)

-- two rising lists with the same members are one
pub same-members : (a b : List ℕ) → Rising a → Rising b → ((x : ℕ) → mem x a ≡ mem x b) → a ≡ b
same-members [] [] r s h = refl
same-members [] (y ∷ b) r s h = clash (sym (mem-head y b) ∙ sym (h y))
same-members (x ∷ a) [] r s h = clash (sym (mem-head x a) ∙ h x)
same-members (x ∷ a) (y ∷ b) r s h =
    split (ltb x y)
    (λ e. clash (sym (mem-head x a) ∙ h x ∙ above-mem x (y ∷ b) (ltb-true x y e, above-trans x y b (ltb-true x y e) s.0)))
    (λ e. split (ltb y x)
    (λ f. clash (sym (mem-head y b) ∙ sym (h y) ∙ above-mem y (x ∷ a) (ltb-true y x f, above-trans y x a (ltb-true y x f) r.0)))
    (λ f. let q = eq x y (ltb-false x y e) (ltb-false y x f) in cc (same-members a b r.1 s.1 (tails q))))
  where
    eq : (x y : ℕ) → y ≤ x → x ≤ y → x ≡ y
    eq x y h k = omega arith

    tails : x ≡ y → (z : ℕ) → mem z a ≡ mem z b
    tails q z = split (eqb z x)
        (λ e. cc (eqb-true z x e, above-mem x a r.0, above-mem y b s.0))
        (λ e. cc (h z))

-- a rising list is its own numbers, rising
pub rising-same : (l : List ℕ) → Rising l → rising l ≡ l
rising-same l r = same-members (rising l) l (rising-rising l) r (λ x. mem-rising x l)

pub length-rising : (l : List ℕ) → Once l → length (rising l) ≡ length l
length-rising l o = length-order (once l) ∙ ap length (once-same l o)

pub once-rising : (l : List ℕ) → Rising l → Once l
once-rising [] r = tt
once-rising (x ∷ l) r = (above-mem x l r.0, once-rising l r.1)

-- ---- sums ----

module _ (f f' : ℕ → ℕ) (x : ℕ) (at : (g : ℕ) → eqb g x ≡ true → f' g ≡ suc (f g)) (off : (g : ℕ) → eqb g x ≡ false → f' g ≡ f g) where
  sum_same : (l : List ℕ) → mem x l ≡ false → sum f' l ≡ sum f l
  sum_same [] h = refl
  sum_same (g ∷ l) h = split (eqb x g)
      (λ e. clash (cc))
      (λ e. cc (off g (eqb-flip g x ∙ e), sum_same l (cc)))

  -- f' is one more at x alone: so is its sum over a list that has x once
  pub sum_one : (l : List ℕ) → Once l → mem x l ≡ true → sum f' l ≡ suc (sum f l)
  sum_one [] o h = clash (sym h)
  sum_one (g ∷ l) o h = split (eqb x g)
      (λ e. rw (at g (eqb-flip g x ∙ e), sum_same l (cc (eqb-true x g e))) (omega arith))
      (λ e. rw (off g (eqb-flip g x ∙ e), sum_one l o.1 (cc)) (omega arith))

pub sum-zero : (l : List ℕ) → sum (λ g. 0) l ≡ 0
sum-zero [] = refl
sum-zero (x ∷ l) = rw (sum-zero l) refl

-- ---- tests over a list, and lengths ----

pub any-no : {A : Type 0} (p : A → Bool) (x : A) (l : List A) → any p (x ∷ l) ≡ false → (p x ≡ false) × (any p l ≡ false)
any-no p x l e = (or_l (p x) (any p l) e, or_r (p x) (any p l) e)

pub any_out : (p : ℕ → Bool) (x : ℕ) (l : List ℕ) → any p l ≡ false → mem x l ≡ true → p x ≡ false
any_out p x [] h e = clash (sym e)
any_out p x (y ∷ l) h e = split (eqb x y)
    (λ f. ap p (eqb-true x y f) ∙ (any-no p y l h).0)
    (λ f. any_out p x l (any-no p y l h).1 (cc))

-- two tests that say the same of each number of a list
pub any-agree : (p q : ℕ → Bool) (l : List ℕ) → ((x : ℕ) → mem x l ≡ true → p x ≡ q x) → any p l ≡ any q l
any-agree p q [] h = refl
any-agree p q (x ∷ l) h = cc (h x (mem-head x l), any-agree p q l (λ y e. h y (split (eqb y x) (λ f. cc) (λ f. cc))))

pub all-mem : (p : ℕ → Bool) (l : List ℕ) → ((x : ℕ) → mem x l ≡ true → p x ≡ true) → all p l ≡ true
all-mem p [] h = refl
all-mem p (x ∷ l) h = and_in (h x (cc (eqb_same x))) (all-mem p l (λ y e. h y (split (eqb y x) (λ f. cc) (λ f. cc))))

pub all_in : (p : ℕ → Bool) (x : ℕ) (l : List ℕ) → all p l ≡ true → mem x l ≡ true → p x ≡ true
all_in p x [] h e = clash (sym e)
all_in p x (y ∷ l) h e = split (eqb x y)
    (λ f. ap p (eqb-true x y f) ∙ and_l (p y) (all p l) h)
    (λ f. all_in p x l (and_r (p y) (all p l) h) (cc))

pub unique-once : (l : List ℕ) → Once l → unique l ≡ true
unique-once [] o = refl
unique-once (x ∷ l) o = cc (unique-once l o.1, o.0)

pub once-unique : (l : List ℕ) → unique l ≡ true → Once l
once-unique [] u = tt
once-unique (x ∷ l) u = (
  not-true (mem x l) (and_l (not (mem x l)) (unique l) u),
  once-unique l (and_r (not (mem x l)) (unique l) u),
)

pub length-keep : {A : Type 0} (p : A → Bool) (l : List A) → length (keep p l) ≤ length l
length-keep p [] = omega arith
length-keep p (x ∷ l) = split (p x)
    (λ e. rw e (let h = length-keep p l in omega arith))
    (λ e. rw e (let h = length-keep p l in omega arith))

pub length-once : (l : List ℕ) → length (once l) ≤ length l
length-once [] = omega arith
length-once (x ∷ l) = let h = length-once l in let k = length-keep (λ y. not (eqb x y)) (once l) in omega arith
