-- `writing::write_part` meets its contract: too little room, or the frame in the part from the start byte on.
-- Assumes nothing.
use Rattle.std.proofs.Common.{◌-◌, length, arith}
use Rattle.writing.proofs.WriteLaws.{no_room, written-part}
use Rattle.writing.proofs.write_part.Goals as goal
use Rattle.writing.proofs.write_part.Goals.{then-out-start-via-then-out-start, then-out-start-via-else-out-start+then-out-start-2}

pub returns-then-out-start : goal.returns-then-out-start
returns-then-out-start c =
    no_room c.args.kind c.args.values.now c.args.out.now c.args.start c.args.bits c.requires
    (elim c.then-out-start.branch [
      | then-out-start-via-then-out-start w ↦ omega (arith, w.if-out-start.true)
      | then-out-start-via-else-out-start+then-out-start-2 w ↦ omega (arith, w.if-out-start.false, w.if-out-start-2.true)
    ])

pub returns : goal.returns
returns c =
    written-part c.args.kind c.args.values.now c.args.out.now c.args.start c.args.bits c.requires (omega arith)
    (length c.args.out.now - c.args.start) _ (omega arith) c.lay_whole.ensures
