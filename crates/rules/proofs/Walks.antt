-- The list operations one element at a time, from the left: what a walk over lent rows does at each turn.
use Prim.Native.Nat.{ℕ, suc, ◌+◌, ◌*◌}
use mathlib.Core.Path.{◌≡◌, refl, ◌∙◌, ap}
use mathlib.Core.Bool.{Bool, cond, not}
use mathlib.Core.List.{List, [], ◌∷◌, ◌++◌, append-nil, append_assoc}
use mathlib.Core.Option.{Option, none, some}
use lib.Dec.{eqb}
use lib.ListN.{length, length-append}
use native.Mathlib.Nat.{suc-mul}
use native.Mathlib.Omega.{arith}
use Rattle.rules.specs.Lists.{keep, join, mem, once, sum}
use Rattle.rules.specs.Entries.{entry, alter}
use Rattle.rules.specs.Outgoing.{orders}
use Rattle.rules.proofs.Tests.{split}
use Rattle.rules.proofs.ListLaws.{eqb-flip}

-- ---- appending ----

module _ {A : Type 0} where
  pub keep_append : (p : A → Bool) (a b : List A) → keep p (a ++ b) ≡ keep p a ++ keep p b
  keep_append p [] b = refl
  keep_append p (x ∷ a) b = split (p x) (λ e. cc (keep_append p a b)) (λ e. cc (keep_append p a b))

  pub join-append : (f : ℕ → List A) (a b : List ℕ) → join f (a ++ b) ≡ join f a ++ join f b
  join-append f [] b = refl
  join-append f (x ∷ a) b = cc (join-append f a b, append_assoc (f x) (join f a) (join f b))

pub sum-append : (f : ℕ → ℕ) (a b : List ℕ) → sum f (a ++ b) ≡ sum f a + sum f b
sum-append f [] b = omega arith
sum-append f (x ∷ a) b = let h = sum-append f a b in omega arith

module _ {K X : Type 0} where
  pub alter-append : (f : K → X → Option X) (a b : List (K × X)) → alter f (a ++ b) ≡ alter f a ++ alter f b
  alter-append f [] b = refl
  alter-append f (e ∷ a) b = go (f e.0 e.1) (alter-append f a b)
    where
      go : (o : Option X) → alter f (a ++ b) ≡ alter f a ++ alter f b → entry e.0 o (alter f (a ++ b)) ≡ entry e.0 o (alter f a) ++ alter f b
      go none h = h
      go (some v) h = cc

  -- what changes nothing keeps all
  pub alter-all : (l : List (K × X)) → alter (λ k v. some v) l ≡ l
  alter-all [] = refl
  alter-all (e ∷ l) = λ i. (e.0, e.1) ∷ alter-all l i

-- ---- numbers, from the left ----

pub once-snoc : (l : List ℕ) (x : ℕ) → once (l ++ (x ∷ [])) ≡ cond (mem x l) (once l) (once l ++ (x ∷ []))
once-snoc [] x = refl
once-snoc (y ∷ l) x = split (mem x l)
    (λ f. split (eqb x y) (λ e. cc (once-snoc l x)) (λ e. cc (once-snoc l x)))
    (λ f. let h : once (l ++ (x ∷ [])) ≡ once l ++ (x ∷ []) = cc (once-snoc l x) in
    split (eqb x y)
    (λ e. cc (h, keep_append (λ z. not (eqb y z)) (once l) (x ∷ []), eqb-flip x y, append-nil (keep (λ z. not (eqb y z)) (once l))))
    (λ e. cc (h, keep_append (λ z. not (eqb y z)) (once l) (x ∷ []), eqb-flip x y)))

-- orders to the same radios for each group
pub length-orders : (kind : ℕ) (gs rs : List ℕ) → length (join (λ g. orders kind g rs) gs) ≡ length gs * length rs
length-orders kind [] rs = omega arith
length-orders kind (g ∷ gs) rs =
    length-append (orders kind g rs) (join (λ g. orders kind g rs) gs)
    ∙ (let h = length-orders kind gs rs in let k = each rs in let m = suc-mul (length gs) (length rs) in omega arith)
  where
    each : (rs : List ℕ) → length (orders kind g rs) ≡ length rs
    each [] = refl
    each (r ∷ rs) = ap suc (each rs)
