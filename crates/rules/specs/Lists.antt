-- Lists: what passes a test, each number once, rising lists.
use Rattle.std.specs.Prelude.{ℕ, ◌+◌, ◌<◌, Bool, true, false, cond, not, ◌&&◌, List, [], ◌∷◌, ◌++◌, eqb, ltb}
use Rattle.std.proofs.Math.Option.{Option, none, some}
-- the test passes somewhere, and everywhere; what passes it, in its order
pub use Rattle.std.specs.List.{list_any as any, list_all as all, filter as keep}

module _ {A : Type 0} where
  abbrev pub present : Option A → Bool
  present none = false
  present (some a) = true

  -- what becomes of something that may be there
  abbrev pub turned : (A → Option A) → Option A → Option A
  turned f none = none
  turned f (some a) = f a

  -- for each number of a list a list, joined
  abbrev pub join : (ℕ → List A) → List ℕ → List A
  join f [] = []
  join f (x ∷ l) = f x ++ join f l

module _ {A : Type 0} (below : A → A → Bool) where
  -- x is below the first of the list
  abbrev pub ahead : A → List A → Bool
  ahead x [] = true
  ahead x (y ∷ l) = below x y

  -- each is below the next
  abbrev pub rises : List A → Bool
  rises [] = true
  rises (x ∷ l) = ahead x l && rises l

-- the number is in the list
abbrev pub mem : ℕ → List ℕ → Bool
mem x = any (eqb x)

-- no number twice
abbrev pub unique : List ℕ → Bool
unique [] = true
unique (x ∷ l) = not (mem x l) && unique l

-- each number once, at its first place
abbrev pub once : List ℕ → List ℕ
once [] = []
once (x ∷ l) = x ∷ keep (λ y. not (eqb x y)) (once l)

-- put before the first that is above it
abbrev pub insert : ℕ → List ℕ → List ℕ
insert x [] = x ∷ []
insert x (y ∷ l) = cond (ltb x y) (x ∷ y ∷ l) (y ∷ insert x l)

-- in rising order: put in one by one, from the last
abbrev pub in_order : List ℕ → List ℕ
in_order [] = []
in_order (x ∷ l) = insert x (in_order l)

-- the numbers of a list, each once, rising
abbrev pub rising : List ℕ → List ℕ
rising l = in_order (once l)

-- x is below all of the list
abbrev pub Above : ℕ → List ℕ → Type 0
Above x [] = Unit {0}
Above x (y ∷ l) = (x < y) × Above x l

-- each number is below all that follow
abbrev pub Rising : List ℕ → Type 0
Rising [] = Unit {0}
Rising (x ∷ l) = Above x l × Rising l

abbrev pub sum : (ℕ → ℕ) → List ℕ → ℕ
sum f [] = 0
sum f (x ∷ l) = f x + sum f l
