-- `text::parts::put_owners` meets its contract: the first owner, and those behind it.
use mathlib.Core.Path.{ap}
use native.Mathlib.Omega.{arith}
use Rattle.std.proofs.Common.{lit≤}
use Rattle.text.specs.Text.{next_owner, owners_text}
use Rattle.text.proofs.Puts.{put_as, put_then}
use Rattle.text.proofs.Walks.{joined-short}
use Rattle.text.proofs.parts.put_owners.Goals as goal

pub returns : goal.returns
returns c =
    let split = c.in-Some.ensures.cases in
    let first = rw (c.from.ensures, c.from-2.ensures) at c.put_parts-at.ensures in (
      omega (arith, first.ends, c.put_each.ensures.ends, joined-short next_owner 30 (λ owner. lit≤ tt) c.in-Some.others.now),
      put_as (ap owners_text split.0) (put_then first c.put_each.ensures),
    )
