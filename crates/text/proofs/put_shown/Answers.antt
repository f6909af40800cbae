-- `text::put_shown` meets its contract: what is shown.
use mathlib.Core.Path.{ap}
use native.Mathlib.Omega.{arith}
use Rattle.text.specs.Text.{shown_text}
use Rattle.text.proofs.Puts.{put_then, replied}
use Rattle.text.proofs.put_shown.Goals as goal

pub returns-in-Ok : goal.returns-in-Ok
returns-in-Ok c =
    replied (ap shown_text c.in-Ok.is) c.if-out-lt-LONGEST.false (omega arith, put_then c.put_front-at.ensures.1 c.put_back.ensures.1)
