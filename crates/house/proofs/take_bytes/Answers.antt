-- `house::take_bytes` meets its contract. The invariant: what the rest of the text still decides and stores is what the whole does.
-- Each turn is one law of `Hex`.
use mathlib.Core.Path.{ap, ◌∙◌}
use Prim.Native.Nat.{◌+◌, ◌*◌, ◌/◌, ◌<◌}
use native.Mathlib.Omega.{arith}
use lib.ListN.{length}
use Rattle.house.specs.Hex.{digit_value}
use Rattle.house.proofs.Hex.{pair-at, seen_more, seen-less, stored_more}
use Rattle.house.proofs.take_bytes.Goals as goal

pub loop-i-preserved : goal.loop-i-preserved
loop-i-preserved c =
    let at = c.loop-i in
    let text = c.args.text.now in
    let high = c.value_of-high in
    let low = c.value_of-low in
    let within : 2 * at.i + 1 < length text = omega (arith, c.as_chunks.ensures.front_len) in
    let pair = pair-at (length text / 2) at.i text _ c.as_chunks.ensures.front (omega (arith, c.as_chunks.ensures.front_len)) in
    let first = high.ensures ∙ ap digit_value pair.0 in
    let second = low.ensures ∙ ap digit_value pair.1 in
    record {
      decides = seen_more text at.bytes at.i at.seen high.result low.result within first second ∙ at.invariant.decides;
      stores = λ small. stored_more text at.bytes at.i at.seen high.result low.result within first second small
          ∙ at.invariant.stores (seen-less at.seen high.result low.result small);
    }
