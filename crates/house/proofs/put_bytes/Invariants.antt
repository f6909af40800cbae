-- `house::put_bytes` meets its contract. The invariant: the digits that are left to put make the whole text. Each turn is one law of `Texts`.
use mathlib.Core.Path.{◌≡◌}
use Prim.Native.Nat.{◌+◌, ◌*◌}
use lib.ListN.{drop}
use lib.Seq.{sets}
use Rattle.house.specs.Hex.{digits_of}
use Rattle.house.proofs.put_bytes.Given as goal

abbrev pub invariant-loop-i : goal.invariant-loop-i
invariant-loop-i l = sets l.out (l.at + 2 * l.i) (digits_of (drop l.i l.bytes)) ≡ sets l.initial.out l.at (digits_of l.bytes)
