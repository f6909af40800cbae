-- Entries, each a key with its value: what is found under a key, and entries changed at their places.
use Rattle.std.specs.Prelude.{Bool, true, cond, not, ◌&&◌, List, [], ◌∷◌}
use Rattle.std.proofs.Math.Option.{Option, none, some}
use Rattle.rules.specs.Lists.{present}

module _ {K X : Type 0} (same : K → K → Bool) where
  -- the value of a key, or nothing
  abbrev pub find : List (K × X) → K → Option X
  find [] k = none
  find (e ∷ l) k = cond (same k e.0) (some e.1) (find l k)

  -- no key twice
  abbrev pub distinct : List (K × X) → Bool
  distinct [] = true
  distinct (e ∷ l) = not (present (find l e.0)) && distinct l

module _ {K X : Type 0} where
  -- a key's entry before others, where it has a value
  abbrev pub entry : K → Option X → List (K × X) → List (K × X)
  entry k none l = l
  entry k (some v) l = (k, v) ∷ l

  -- every entry changed at its place, or taken out
  abbrev pub alter : (K → X → Option X) → List (K × X) → List (K × X)
  alter f [] = []
  alter f (e ∷ l) = entry e.0 (f e.0 e.1) (alter f l)
