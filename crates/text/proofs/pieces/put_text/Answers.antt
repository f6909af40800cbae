-- `text::pieces::put_text` meets its contract: the part of the buffer that the text goes to is the text.
use native.Mathlib.Omega.{arith}
use Rattle.text.proofs.Puts.{text-put}
use Rattle.text.proofs.pieces.put_text.Goals as goal

pub returns : goal.returns
returns c = text-put c.args.out.now c.args.text.now _ c.args.at (omega arith) c.copy_from_slice.ensures.after
