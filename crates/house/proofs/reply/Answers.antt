-- `house::reply` meets its contract: a frame, or a bad line.
use mathlib.Core.Path.{◌≡◌, refl, sym, subst, ◌∙◌}
use mathlib.Core.List.{List}
use Prim.Native.Nat.{ℕ}
use native.Mathlib.Omega.{arith}
use Rattle.std.specs.Prelude.{Option, Some}
use Rattle.layout.specs.declared.Kind.{Kind}
use Rattle.house.specs.Unpacked.{Unpacked}
use Rattle.house.proofs.Headings.{frame-bytes}
use Rattle.house.proofs.Texts.{sent, told}
use Rattle.house.proofs.Replies.{reply-bad, reply-frame}
use Rattle.house.proofs.reply.Goals as goal

unpacking : {line before after : List ℕ} {found : Option (Kind × ℕ)} {heading : Kind × ℕ} → found ≡ Some heading
    → Unpacked line before after found → Unpacked line before after (Some heading)
unpacking e o = subst (Unpacked _ _ _) e o

pub returns-in-Some : goal.returns-in-Some
returns-in-Some c =
    let o = unpacking c.in-Some.is c.unpack.ensures in
    sent (reply-frame c.args.line.now _ _ _ (sym o.named) (frame-bytes _ _ _ _ refl o)) c.answer.ensures

pub returns-in-None : goal.returns-in-None
returns-in-None c =
    sent (reply-bad c.args.line.now (sym c.unpack.ensures.named ∙ c.in-None.is)) (told (omega arith) c.put.ensures)
