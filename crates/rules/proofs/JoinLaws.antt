-- Numbers that come behind others, each once, rising: one by one, and how many there are then.
use Prim.Native.Nat.{ℕ, ◌+◌, ◌≤◌}
use mathlib.Core.Path.{◌≡◌, refl, sym, ◌∙◌, ap}
use mathlib.Core.Bool.{Bool, true, false, cond, not, ◌||◌}
use mathlib.Core.List.{List, [], ◌∷◌, ◌++◌, append_assoc, append-nil}
use lib.Dec.{eqb}
use lib.ListN.{length, length-append}
use native.Mathlib.Omega.{arith}
use borrow.Author.Tests.{eqb-true}
use Rattle.rules.specs.Lists.{keep, mem, once, insert, rising}
use Rattle.rules.proofs.Tests.{split}
use Rattle.rules.proofs.ListLaws.{Once, eqb-flip, mem-append, once-same, mem-insert, rising-insert, length-insert, length-order}
use Rattle.rules.proofs.ListLaws.{mem-rising, rising-rising, same-members}
use Rattle.rules.proofs.Walks.{keep_append}

-- a number that comes last is put in at its place, unless it stands there
pub rising_snoc : (l : List ℕ) (x : ℕ) → rising (l ++ (x ∷ [])) ≡ cond (mem x (rising l)) (rising l) (insert x (rising l))
rising_snoc l x = split (mem x (rising l))
    (λ e. rw e (same-members (rising (l ++ (x ∷ []))) (rising l) (rising-rising (l ++ (x ∷ []))) (rising-rising l)
    (λ z. members z ∙ split (eqb z x) (λ f. cc (eqb-true z x f)) (λ f. cc))))
    (λ e. rw e (same-members (rising (l ++ (x ∷ []))) (insert x (rising l)) (rising-rising (l ++ (x ∷ [])))
    (rising-insert x (rising l) e (rising-rising l)) (λ z. members z ∙ sym (mem-insert z x (rising l)))))
  where
    members : (z : ℕ) → mem z (rising (l ++ (x ∷ []))) ≡ (eqb z x || mem z (rising l))
    members z =
        mem-rising z (l ++ (x ∷ [])) ∙ mem-append z l (x ∷ []) ∙ swapped (mem z l) (eqb z x) ∙ ap (λ (b : Bool). eqb z x || b) (sym (mem-rising z l))
      where
        swapped : (a b : Bool) → (a || (b || false)) ≡ (b || a)
        swapped true true = refl
        swapped true false = refl
        swapped false true = refl
        swapped false false = refl

-- whether those who come last are in order makes no difference
pub rising-late : (a b : List ℕ) → rising (a ++ rising b) ≡ rising (a ++ b)
rising-late a b = same-members (rising (a ++ rising b)) (rising (a ++ b)) (rising-rising (a ++ rising b)) (rising-rising (a ++ b))
    (λ z. mem-rising z (a ++ rising b) ∙ mem-append z a (rising b) ∙ ap (λ (t : Bool). mem z a || t) (mem-rising z b)
    ∙ sym (mem-append z a b) ∙ sym (mem-rising z (a ++ b)))

-- ---- how many ----

keep-every : (l : List ℕ) → keep (λ y. true) l ≡ l
keep-every [] = refl
keep-every (x ∷ l) = ap (λ (z : List ℕ). x ∷ z) (keep-every l)

-- what differs from x, of what is not in a
keep-others : (x : ℕ) (a l : List ℕ) → keep (λ y. not (eqb x y)) (keep (λ y. not (mem y a)) l) ≡ keep (λ y. not (mem y (x ∷ a))) l
keep-others x a [] = refl
keep-others x a (y ∷ l) = split (mem y a)
    (λ e. split (eqb y x) (λ f. cc (keep-others x a l)) (λ f. cc (keep-others x a l)))
    (λ e. split (eqb x y) (λ f. cc (keep-others x a l, eqb-flip x y)) (λ f. cc (keep-others x a l, eqb-flip x y)))

once-joined : (a b : List ℕ) → Once b → once (a ++ b) ≡ once a ++ keep (λ y. not (mem y a)) b
once-joined [] b o = once-same b o ∙ sym (keep-every b)
once-joined (x ∷ a) b o =
    ap (λ (z : List ℕ). x ∷ keep (λ y. not (eqb x y)) z) (once-joined a b o)
    ∙ ap (λ (z : List ℕ). x ∷ z) (keep_append (λ y. not (eqb x y)) (once a) (keep (λ y. not (mem y a)) b)
    ∙ ap (λ (z : List ℕ). keep (λ y. not (eqb x y)) (once a) ++ z) (keep-others x a b))

-- two lists, each without repeats: the second adds those that the first does not have
pub length-joined : (a b : List ℕ) → Once a → Once b → length (rising (a ++ b)) ≡ length a + length (keep (λ y. not (mem y a)) b)
length-joined a b o q =
    length-order (once (a ++ b)) ∙ ap length (once-joined a b q ∙ ap (λ (z : List ℕ). z ++ keep (λ y. not (mem y a)) b) (once-same a o))
    ∙ length-append a (keep (λ y. not (mem y a)) b)

-- a list that goes on has no fewer
rising-on : (l c : List ℕ) → length (rising l) ≤ length (rising (l ++ c))
rising-on l [] = rw (append-nil l) (omega arith)
rising-on l (x ∷ c) =
    let h = rising-on (l ++ (x ∷ [])) c in
    let k : length (rising l) ≤ length (rising (l ++ (x ∷ []))) = rw (rising_snoc l x) (more (mem x (rising l))) in
    let e : (l ++ (x ∷ [])) ++ c ≡ l ++ (x ∷ c) = append_assoc l (x ∷ []) c in
    rw (← e) (omega (arith, h, k))
  where
    more : (b : Bool) → length (rising l) ≤ length (cond b (rising l) (insert x (rising l)))
    more true = omega arith
    more false = omega (arith, length-insert x (rising l))

pub rising-prefix-few : (a b c : List ℕ) → length (rising (a ++ b)) ≤ length (rising (a ++ (b ++ c)))
rising-prefix-few a b c = rw (← append_assoc a b c) (rising-on (a ++ b) c)
