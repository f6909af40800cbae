-- What a walk over a list sees of it, and what it makes of it.
use Rattle.std.specs.Prelude.{List, ◌++◌, ℕ, ◌+◌, length, take, drop}

module _ {A : Type 0} where
  -- of the first n of a list, those from place i on
  abbrev pub left : ℕ → ℕ → List A → List A
  left i n l = drop i (take n l)

  -- a list laid onto the front of another: what lies past it stays
  abbrev pub onto : List A → List A → List A
  onto k l = k ++ drop (length k) l

  -- those from place i to place n moved up by so many places; what they have not come to is as it was
  abbrev pub moved : ℕ → ℕ → ℕ → List A → List A
  moved by i n l = take (i + by) l ++ (left i n l ++ drop (n + by) l)
