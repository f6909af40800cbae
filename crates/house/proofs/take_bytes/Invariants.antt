-- `house::take_bytes` meets its contract. The invariant: what the rest of the text still decides and stores is what the whole does.
-- Each turn is one law of `Hex`.
use mathlib.Core.Path.{◌≡◌}
use mathlib.Core.Bool.{◌&&◌}
use Prim.Native.Nat.{◌*◌, ◌<◌}
use lib.Dec.{ltb}
use lib.ListN.{drop}
use lib.Seq.{sets}
use Rattle.house.specs.Hex.{all_digits, bytes_from}
use Rattle.house.proofs.take_bytes.Given as goal

abbrev pub invariant-loop-i : goal.invariant-loop-i
invariant-loop-i l = record {
  decides : (ltb l.seen 16 && all_digits (drop (2 * l.i) l.fn.text)) ≡ all_digits l.fn.text;
  stores : l.seen < 16 → sets l.bytes l.i (bytes_from (drop (2 * l.i) l.fn.text)) ≡ sets l.initial.bytes 0 (bytes_from l.fn.text);
}
