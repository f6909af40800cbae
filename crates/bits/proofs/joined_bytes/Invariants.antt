-- `bits::joined_bytes` meets its contract. The loop's invariant: the number is that of the bytes so far.
-- Assumes nothing.
use Rattle.std.proofs.Common.{◌≡◌, take}
use Rattle.bits.specs.Bits.{value, bits_of}
use Rattle.bits.proofs.joined_bytes.Given as goal

abbrev pub invariant-loop-byte : goal.invariant-loop-byte
invariant-loop-byte l = l.number ≡ value (bits_of (take l.byte-index l.bytes))
