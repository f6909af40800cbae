-- What the reader and the writer answer, and what a kind's number names, case by case, in document 01's terms: the number, 0 where it is accepted,
-- and the values, or the bit of a refusal.
-- Assumes nothing.
use Rattle.std.specs.Prelude.{ℕ, [], ◌∷◌, Result, Ok, Err, ⊤}
use Rattle.refusal.specs.Number.{number_of}
use Rattle.refusal.specs.Says.{Says, accepted, refused_with}
use Rattle.refusal.specs.declared.Refusal.{Refusal}
use Rattle.refusal.specs.declared.Refusal.TheVariants.{BadLine}
use Rattle.layout.specs.declared.Kind.{Kind}
use Rattle.layout.specs.declared.UnknownKind.{UnknownKind}
use Rattle.layout.specs.declared.Record.{Record}
use Rattle.layout.specs.declared.Refused.{Refused}
use Rattle.layout.specs.Read.{Answer, frame, refused}
use Rattle.layout.specs.Frame.{filled}
use Rattle.layout.specs.Kinds.{kind_number}

-- a refusal of the reader: its number, and the bit at which the refused element begins
abbrev pub refused_at : Refusal → ℕ → Says
refused_at refusal at = record { number = number_of refusal; values = at ∷ [] }

abbrev pub reading_says : Result Record Refused → Says
reading_says (Ok values) = accepted values.place
reading_says (Err e) = refused_at e.refusal e.bit

abbrev pub judged_says : Result ⊤ Refusal → Says
judged_says (Ok _) = accepted []
judged_says (Err n) = refused_with n

-- the bits that were written
abbrev pub written_says : Result ℕ Refusal → Says
written_says (Ok n) = accepted (n ∷ [])
written_says (Err n) = refused_with n

-- what reading says of the bits themselves
abbrev pub answer_says : Answer → Says
answer_says (frame s) = accepted (filled s)
answer_says (refused n at) = refused_at n at

-- what a number of house text names: its kind, told by that number; 9 where it is no kind's
abbrev pub kind_says : Result Kind UnknownKind → Says
kind_says (Ok kind) = accepted (kind_number kind ∷ [])
kind_says (Err unknown) = refused_with BadLine
