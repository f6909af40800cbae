-- The largest length of each frame, in bits: document 02's figures, and those of the frames that its P1 adds.
-- Assumes nothing.
use Rattle.std.specs.Prelude.{ℕ}
use Rattle.layout.specs.declared.Kind.{Kind}
use Rattle.layout.specs.declared.Kind.TheVariants.{Define, DefineAck, Cancel, CancelAck}
use Rattle.layout.specs.declared.Kind.TheVariants.{Assign, AssigningAck, Deassign, DeassigningAck, Delete, DeleteAck}

unfoldable pub largest_length : Kind → ℕ
largest_length Define = 1698
largest_length DefineAck = 534
largest_length Cancel = 111
largest_length CancelAck = 62
largest_length Assign = 691
largest_length AssigningAck = 520
largest_length Deassign = 518
largest_length DeassigningAck = 518
largest_length Delete = 1024
largest_length DeleteAck = 519

-- no frame of any kind has more bits, or takes more bytes
abbrev pub most_bits : ℕ
most_bits = 1698

abbrev pub most_bytes : ℕ
most_bytes = 213
