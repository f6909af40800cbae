-- Where entries come when they are put. The abstract ledger is stated over any placing; what it says after a history rests on
-- the laws below alone.
use Rattle.std.specs.Prelude.{ℕ, ◌+◌, ◌≡◌, Bool, true, cond, List, [], ◌∷◌, eqb, length}
use Rattle.std.proofs.Math.Option.{Option, some}
use Rattle.rules.specs.Lists.{present, mem, unique, once}
use Rattle.rules.specs.Entries.{find, distinct, alter}
use Rattle.rules.specs.Mark.{Mark}
use Rattle.rules.specs.Ledger.{Group, Pair, same_pair}

-- put: a key's value set. form: how entries stand
pub record Put (K X : Type 0) : Type 0 where
  pub put : List (K × X) → K → X → List (K × X)
  pub form : List (K × X) → Bool

-- for each key of a list its value by f, one after the other
abbrev pub puts : {K X : Type 0} → Put K X → List (K × X) → List K → (K → X) → List (K × X)
puts p l [] f = l
puts p l (k ∷ ks) f = puts p (p.put l k (f k)) ks f

-- the laws of a put, for entries that stand in its form
pub record LawfulPut {K X : Type 0} (same : K → K → Bool) (p : Put K X) : Type 0 where
  -- the form begins with no entries, and stays when a value is set and when entries are changed or taken out
  pub begins : p.form [] ≡ true
  pub stays : (l : List (K × X)) (k : K) (v : X) → p.form l ≡ true → p.form (p.put l k v) ≡ true
  pub alters : (f : K → X → Option X) (l : List (K × X)) → p.form l ≡ true → p.form (alter f l) ≡ true
  -- no key stands twice
  pub single : (l : List (K × X)) → p.form l ≡ true → distinct same l ≡ true
  -- the key has its value, every other key what it had
  pub found : (l : List (K × X)) (k : K) (v : X) → p.form l ≡ true → (j : K) → find same (p.put l k v) j ≡ cond (same j k) (some v) (find same l j)
  -- there is one entry more where the key is new
  pub counted : (l : List (K × X)) (k : K) (v : X) → p.form l ≡ true → length (p.put l k v) ≡ length l + cond (present (find same l k)) 0 1

-- the owners of a group. entered: those of a list, each once. form: how they stand
pub record Roll : Type 0 where
  pub entered : List ℕ → List ℕ
  pub form : List ℕ → Bool

pub record LawfulRoll (r : Roll) : Type 0 where
  -- who is entered was listed, and who was listed is entered
  pub holds : (a : ℕ) (l : List ℕ) → mem a (r.entered l) ≡ mem a l
  pub stays : (l : List ℕ) → r.form (r.entered l) ≡ true
  -- none is entered twice
  pub single : (l : List ℕ) → r.form l ≡ true → unique l ≡ true
  pub counted : (l : List ℕ) → length (r.entered l) ≡ length (once l)

-- how a ledger puts its groups, its pairs, and the owners of a group
pub record Placing : Type 0 where
  pub groups : Put ℕ Group
  pub pairs : Put Pair Mark
  pub owners : Roll

pub record Lawful (p : Placing) : Type 0 where
  pub groups : LawfulPut eqb p.groups
  pub pairs : LawfulPut same_pair p.pairs
  pub owners : LawfulRoll p.owners
