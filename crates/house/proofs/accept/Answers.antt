-- `house::accept` meets its contract: A, the heading and the bytes, put one after the other, are the reply.
use native.Mathlib.Omega.{arith}
use Rattle.house.proofs.Texts.{accepted}
use Rattle.house.proofs.accept.Goals as goal

pub returns : goal.returns
returns c =
    let given = c.args in
    let head = c.put_bytes in
    let frame = c.put_bytes-2 in
    accepted given.out.now head.new.out frame.new.out given.bytes.now given.kind _ given.bits _ _ c.two_bytes.result
    c.from.ensures
    c.two_bytes.ensures
    c.bytes_for.ensures
    c.min-count.ensures
    (omega arith)
    head.ensures
    frame.ensures
