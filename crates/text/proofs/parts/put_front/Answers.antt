-- `text::parts::put_front` meets its contract: its pieces are put one behind the other.
use mathlib.Core.Path.{◌≡◌, ap, sym, ◌∙◌}
use mathlib.Core.List.{List, map}
use Prim.Native.Nat.{ℕ}
use native.Mathlib.Omega.{arith}
use lib.ListN.{length, length-map}
use Rattle.rules.specs.Written.{max_owners}
use Rattle.text.specs.Text.{owners_text}
use Rattle.text.proofs.Puts.{put_as, put_then}
use Rattle.text.proofs.Texts.{take-fit}
use borrow.Author.Rules.{rules}
use Rattle.text.proofs.parts.put_front.Goals as goal

-- of an array of structs the length is known of what they are mapped to
length-mapped : (X Y : Type 0) (f : X → Y) (l : List X) (n : ℕ) → length (map f l) ≡ n → length l ≡ n
length-mapped X Y f l n e = sym (length-map l f) ∙ e

pub returns : goal.returns
returns c =
    let shown = c.args.shown in
    -- the owners' places
    let full : length shown.owners ≡ max_owners = search (rules, length-mapped) in
    let all = take-fit shown.owners shown.count max_owners full c.min.ensures in
    let first = put_then c.put_text-at.ensures (put_as (ap owners_text (sym all)) c.put_owners-at.ensures.1) in
    (omega arith, put_then first (rw c.early-values.ensures at c.put_text.ensures))
