-- A whole record, walked over: what each of the writer's two walks promises.
-- Assumes nothing.
use Rattle.std.specs.Prelude.{◌≡◌, ℕ, ◌+◌, true, false, cond, Result, Ok, Err, List, length}
use Rattle.writing.specs.Pass.{Pass, Judge, Lay}
use Rattle.layout.specs.Row.{all}
use Rattle.layout.specs.Frame.{head_bits}
use Rattle.layout.specs.Write.{Laid, good, good_but_group, emit}
use Rattle.refusal.specs.declared.Refusal.{Refusal}
use Rattle.refusal.specs.declared.Refusal.TheVariants.{Reserved, NoGroup}
use Rattle.writing.specs.Lay.{Lent, Stays, Over}

-- why a record that is not good has no frame
abbrev pub fault_of : List Laid → Refusal
fault_of laid = cond (all good_but_group laid) NoGroup Reserved

-- what a walk over it finds, and leaves in the bytes after the head
abbrev pub Outcome : Pass → List Laid → Lent → Lent → Result ℕ Refusal → Type 0
Outcome Judge laid out out' (Ok n) = (all good laid ≡ true) × (n ≡ head_bits + length (emit laid))
Outcome Judge laid out out' (Err n) = (all good laid ≡ false) × (n ≡ fault_of laid)
Outcome Lay laid out out' r = all good laid ≡ true → Over out.bytes out'.bytes head_bits (emit laid)

pub record Walks (pass : Pass) (laid : List Laid) (out out' : Lent) (r : Result ℕ Refusal) : Type 0 where
  pub lent : Stays out out'
  pub outcome : Outcome pass laid out out' r
