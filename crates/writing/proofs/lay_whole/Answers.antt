-- `writing::lay_whole` meets its contract: the frame's bits, then 0 in the spare bits.
-- Assumes nothing.
use Rattle.layout.specs.Frame.{write}
use Rattle.std.proofs.Common.{sym, rules}
use Rattle.writing.proofs.WriteLaws.{laid-bytes, frame_told}
use Rattle.writing.proofs.lay_whole.Goals as goal

pub lay_frame-requires : goal.lay_frame-requires
lay_frame-requires c = (frame_told c.args.kind c.args.values.now c.args.bits c.requires.0).0

pub lay_spare-requires : goal.lay_spare-requires
lay_spare-requires c = (frame_told c.args.kind c.args.values.now c.args.bits c.requires.0).2

pub returns : goal.returns
returns c =
    let frame = frame_told c.args.kind c.args.values.now c.args.bits c.requires.0 in
    laid-bytes (write c.args.kind c.args.values.now) c.args.out.now c.lay_frame.new.out _ c.args.bits c.lay_frame.ensures
    (sym frame.1) c.requires.1 c.lay_spare.ensures (search rules)
