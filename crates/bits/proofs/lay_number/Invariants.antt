-- `bits::lay_number` meets its contract. The loop's invariant: what is left of the number before the bytes that are laid is the whole.
-- Assumes nothing.
use Rattle.std.proofs.Common.{◌≡◌, ◌++◌, drop, length}
use Rattle.bits.specs.Window.{bytes_in}
use Rattle.bits.proofs.lay_number.Given as goal

abbrev pub invariant-loop-i : goal.invariant-loop-i
invariant-loop-i l = bytes_in l.i l.rest ++ drop l.i l.bytes ≡ bytes_in (length l.fn.bytes) l.number
