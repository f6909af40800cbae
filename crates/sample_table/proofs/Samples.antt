-- Every sample passes, by computation.
-- Assumes nothing.
use lib.Dec.{T}
use Rattle.bits.specs.Bits.{digits, value, bits_of, pack, bytes_of}
use Rattle.layout.specs.Row.{all, present}
use Rattle.layout.specs.Read.{read_rows}
use Rattle.layout.specs.Write.{lay, vals, emit}
use Rattle.layout.specs.Shape.{repeated, rows_of, span, unrolled, spans}
use Rattle.layout.specs.Kinds.{table_of}
use Rattle.layout.specs.Frame.{rows, head, read, read_bytes, as_reading, reading_of, write, judged_of, written_of, output_of}
use Rattle.rules.specs.Number.{key}
use Rattle.rules.specs.Named.{numbers}
use Rattle.rules.specs.Recorded.{numbers_at, parameters_in, define_of}
use Rattle.sample_table.specs.Samples.{samples, passes}

pub samples-pass : T (all passes samples)
unfolding digits value bits_of pack bytes_of present read_rows lay vals emit repeated rows_of span unrolled spans table_of rows head
    read read_bytes as_reading reading_of write judged_of written_of output_of key numbers numbers_at parameters_in define_of passes
samples-pass = tt
