-- Elements, part way: what the writer's parts promise of an element, by what it looks at.
-- Assumes nothing.
use Rattle.std.specs.Prelude.{◌≡◌, ℕ, zero, suc, ◌+◌, ◌*◌, Bool, true, false, Option, Some, None, ⊤, List, length, take, drop, ◌==◌, ◌≢◌, nat_eq}
use Rattle.std.specs.Prelude.{nat_le, slice_index}
use Rattle.writing.specs.Pass.{Pass, Judge, Lay}
use Rattle.writing.specs.declared.walk.Passed.{Passed}
use Rattle.writing.specs.declared.walk.Passed.TheVariants.{Empty, Held, NoGroup}
use Rattle.layout.specs.declared.Shape.{Shape}
use Rattle.layout.specs.declared.Shape.TheVariants.{Number, Choice, Identity, Ending, Missing, Nothing}
use Rattle.layout.specs.declared.Shape.TheVariants as shape
use Rattle.layout.specs.Row.{Row, all, present}
use Rattle.layout.specs.declared.Element.{Element}
use Rattle.layout.specs.Shape.{No, conditions_of}
use Rattle.layout.specs.Frame.{places}
use Rattle.layout.specs.Write.{Laid, lay, good, good_but_group}
use Rattle.table.specs.Sound.{Clear}
use Rattle.writing.specs.Lay.{Lent, Stays, Finds, Lies, Ends, Within, reached}

-- the place behind the one of the last element that holds something
abbrev pub behind : Option ℕ → ℕ
behind None = 0
behind (Some p) = p + 1

-- what a shape looks at, besides its own places: a group's place as the caller's record has it; whether anything came since an O-bit, as the judge has noted
abbrev pub Looks : Pass → List ℕ → ℕ → ℕ → Shape → List ℕ → Type 0
Looks pass s last p (Number w) vs = Unit {0}
Looks pass s last p (Choice w n) vs = Unit {0}
Looks pass s last p Identity vs = Unit {0}
Looks pass s last p (shape.List items) vs = Unit {0}
Looks pass s last p Ending vs = Unit {0}
Looks pass s last p (Missing q) vs = (slice_index vs q == No) ≡ (slice_index s q == No)
Looks pass s last p (Nothing o) vs = Finds pass (nat_le last (suc o) ≡ all (λ v. nat_eq v 0) (drop (suc o) (take p vs)))

-- what an element looks at: its conditions, as the caller's record has them, and what its shape does
pub record LooksAlong (pass : Pass) (s : List ℕ) (last p : ℕ) (e : Element) (vs : List ℕ) : Type 0 where
  pub hang : present vs (conditions_of e.0) ≡ present s (conditions_of e.0)
  pub looks : present s (conditions_of e.0) ≡ true → Looks pass s last p e.1 vs

-- how the passing of an element ends, at the bit at'. Where it is empty, the cleaned record holds nothing from its place on; where it holds something,
-- it does so at its place. The missing group's row has no bits
abbrev pub Found : Pass → List Laid → ℕ → ℕ → ℕ → List ℕ → List ℕ → Lent → Lent → ℕ → Option Passed → Type 0
Found pass laid n at p vs vs' out out' at' (Some Empty) = Ends pass laid n at p vs vs' out out' (Some at') × Finds pass (Clear vs' p)
Found pass laid n at p vs vs' out out' at' (Some Held) = Ends pass laid n at p vs vs' out out' (Some at') × Finds pass (slice_index vs' p ≢ 0)
Found pass laid n at p vs vs' out out' at' (Some NoGroup) =
    Lies pass laid n at at' p vs vs' out out' × (all good laid ≡ false) × (all good_but_group laid ≡ true) × Clear vs' p
Found pass laid n at p vs vs' out out' at' None = Ends pass laid n at p vs vs' out out' None

pub record Puts (pass : Pass) (known : List ℕ → Type 0) (rows : List Row) (s : List ℕ) (at p : ℕ) (out out' : Lent) (at' : ℕ) (r : Option Passed) : Type 0 where
  pub lent : Stays out out'
  pub within : Within (reached r at') (at + 32 * length rows)
  pub finds : (vs : List ℕ) → length vs ≡ places → Clear vs p → known vs
      → (vs' : List ℕ) × (length vs' ≡ length vs) × Found pass (lay rows (take p vs) (drop p s)) (length rows) at p vs vs' out out' at' r

-- by the value at its first place
abbrev pub found_of : Option ⊤ → ℕ → Option Passed
found_of (Some u) zero = Some Empty
found_of (Some u) (suc v) = Some Held
found_of None v = None

-- a refusal, if there is a reason and the pass judges
abbrev pub barred_of : Pass → Bool → Option Passed → Option Passed
barred_of Judge true refusal = refusal
barred_of Judge false refusal = Some Empty
barred_of Lay reason refusal = Some Empty
