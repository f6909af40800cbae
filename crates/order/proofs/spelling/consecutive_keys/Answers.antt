-- `order::consecutive_keys` meets its contract: the first i keys stand at the front.
use mathlib.Core.Path.{◌≡◌}
use native.Mathlib.Omega.{arith}
use native.Mathlib.Numerals.{add-one}
use Prim.Native.Nat.{◌+◌, ◌<◌}
use lib.ListN.{length, take, replicate, set, length-set}
use lib.Seq.{take-suc-set}
use Rattle.rules.specs.Named.{consecutive, max_numbers}
use Rattle.rules.proofs.Consecutive.{consecutive-more}
use Rattle.order.proofs.ListLaws.{rest-blank}
use Rattle.order.proofs.spelling.consecutive_keys.Goals as goal

pub loop-i-preserved : goal.loop-i-preserved
loop-i-preserved g c =
    let a = c.args in
    let l = c.loop-i in
    let inside : l.i < length l.key = omega (arith, l.invariant.0, c.requires.0) in
    let t : take (l.i + 1) (set l.key l.i (a.first + l.i)) ≡ consecutive a.first (l.i + 1) =
    rw (add-one, consecutive-more a.first l.i, take-suc-set l.key l.i (a.first + l.i) inside, l.invariant.1) in
    (simp length-set l.invariant.0, t, rest-blank l.key (replicate max_numbers 0) l.i _ l.invariant.2)
