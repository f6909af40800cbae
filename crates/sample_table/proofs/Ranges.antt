-- Two DEFINE records, one with a range of radios and one with the list of its numbers, are two orders such as P5's law speaks of: what the
-- frame half says of both is the same too.
-- Assumes nothing.
use mathlib.Core.Path.{refl}
use mathlib.Core.List.{◌++◌}
use Rattle.bits.specs.Bits.{digits, value}
use Rattle.layout.specs.Row.{present}
use Rattle.layout.specs.Write.{lay, vals, emit}
use Rattle.layout.specs.Shape.{repeated, rows_of, span, unrolled, spans}
use Rattle.layout.specs.Kinds.{table_of}
use Rattle.layout.specs.Frame.{rows, judged_of}
use Rattle.rules.specs.Number.{key}
use Rattle.rules.specs.Named.{numbers}
use Rattle.rules.specs.Recorded.{numbers_at, parameters_in, define_of}
use Rattle.rules.specs.Spelled.{AsListed, defines, same, spelled}
use Rattle.sample_table.specs.Samples.{listed, ssi, assigns_all}

pub range-and-list : AsListed (assigns_all 5 (listed 1 (ssi 7 ++ ssi 9)) 3) (assigns_all 5 (listed 3 (ssi 7 ++ ssi 8 ++ ssi 9)) 3)
unfolding digits value present lay vals emit repeated rows_of span unrolled spans table_of rows judged_of key numbers numbers_at parameters_in define_of
range-and-list = defines _ 3 _ _ _ (same _) (same _) (spelled _ _ (record {
  is_range = refl;
  is_list = refl;
  good = refl;
  taken = refl;
  rises = refl;
  good_list = refl;
  taken_list = refl;
  names = refl;
}))
