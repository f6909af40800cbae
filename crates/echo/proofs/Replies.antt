-- Laws of a reply that is put into a buffer.
use mathlib.Core.Path.{◌≡◌, sym, ap, ◌∙◌}
use mathlib.Core.List.{List, [], ◌∷◌, ◌++◌, append_assoc, append-nil}
use Prim.Native.Nat.{ℕ, suc, ◌+◌, ◌-◌, ◌≤◌, ◌<◌}
use native.Mathlib.Nat.{add-zero, zero-add}
use native.Mathlib.Omega.{arith}
use lib.ListN.{length, set, take, drop, length-append, length-drop, drop_of_length-le}
use lib.Seq.{sets, sets-eq, take_all, drop-drop}
use borrow.Rule.Slice.PartMut.{mid_of, post_of, put_mid}
use borrow.Author.Tests.{le-leb}
use Rattle.std.proofs.lemmas.Bool.{lt-leb}
use Rattle.house.specs.Echo.{echo_line, echo_within}
use Rattle.house.specs.Sent.{Sent}
use Rattle.echo.specs.Line.{newline}
use Rattle.echo.specs.Reply.{reply_to}
use Rattle.echo.specs.Room.{longest_reply, room, filled_after}

-- one character more behind a text that was stored
sets_more : (l : List ℕ) (i : ℕ) (text : List ℕ) (a : ℕ) → set (sets l i text) (i + length text) a ≡ sets l i (text ++ a ∷ [])
sets_more l i [] a = rw add-zero
sets_more l i (b ∷ text) a =
    let place : i + suc (length text) ≡ suc i + length text = omega arith in
    rw place (sets_more (set l i b) (suc i) text a)

module _ (line before after : List ℕ) (count : ℕ) (room : 433 ≤ length before) (answered : Sent (echo_within (length before) line) before after count) where
  whole : echo_within (length before) line ≡ echo_line line
  whole = rw (le-leb 433 (length before) room)

  pub reply-counted : count + 1 ≡ length (reply_to line)
  reply-counted =
      let size : count ≡ length (echo_line line) = answered.counted ∙ ap length whole in
      simp length-append (omega arith)

  pub reply-stored : set after count newline ≡ sets before 0 (reply_to line)
  reply-stored =
      let size : count ≡ 0 + length (echo_line line) = answered.counted ∙ ap length whole ∙ sym (zero-add _) in
      let text : after ≡ sets before 0 (echo_line line) = answered.stored ∙ ap (sets before 0) whole in
      rw (text, size) (sets_more before 0 (echo_line line) newline)

-- a text stored at the front of a buffer's part from `at` on stands in the buffer at `at`
pub part-stored : (l text part : List ℕ) (at size : ℕ) → size ≡ length l → at + length text ≤ size → part ≡ sets (mid_of at (size - at) l) 0 text
    → put_mid at (size - at) l part ≡ sets l at text
part-stored l text part at size whole fits stored =
    let left : length (drop at l) ≡ size - at = length-drop at l ∙ omega arith in
    let mid : mid_of at (size - at) l ≡ drop at l = take_all (size - at) (drop at l) (omega arith) in
    let post : post_of at (size - at) l ≡ [] = drop_of_length-le (drop at l) {i = size - at} (omega arith) in
    let behind : drop (0 + length text) (drop at l) ≡ drop (at + length text) l = rw zero-add (drop-drop (length text) at l) in
    let placed : part ≡ text ++ drop (at + length text) l =
    stored ∙ ap (λ (m : List ℕ). sets m 0 text) mid ∙ sets-eq text (drop at l) 0 (omega arith) ∙ ap (λ (r : List ℕ). text ++ r) behind in
    rw (post, append-nil, placed, sets-eq text l at (omega arith)) (sym (append_assoc (take at l) text (drop (at + length text) l)))

-- where the next reply fits, the replies wait behind one another; where it might not, none is left
module _ (filled count size : ℕ) (counted : count ≡ size) where
  pub waits : filled + count + longest_reply ≤ room → filled + count ≡ filled_after (filled + size)
  waits fits = rw (sym counted, le-leb (filled + count + longest_reply) room fits)

  pub none-waits : room < filled + count + longest_reply → 0 ≡ filled_after (filled + size)
  none-waits full = rw (sym counted, lt-leb (filled + count + longest_reply) room full)
