-- `text::pieces::put_digits` meets its contract. The invariant: the digits that are left make the whole text.
use mathlib.Core.Path.{◌≡◌}
use lib.Seq.{sets}
use Rattle.text.specs.Digits.{digits_text}
use Rattle.text.proofs.pieces.put_digits.Given as goal

abbrev pub invariant-loop-i : goal.invariant-loop-i
invariant-loop-i l = sets l.out l.at (digits_text l.rest l.i) ≡ sets l.initial.out l.at (digits_text l.value l.width)
