-- What the conversions between a kind and its number promise leaves one answer.
use mathlib.Core.Path.{sym, ◌∙◌}
use Rattle.refusal.proofs.Unique.{Unique}
use Rattle.layout.proofs.U8FromKind.from.Kinds as number-kinds
use Rattle.layout.proofs.U8FromKind.from.Reads as number
use Rattle.layout.proofs.KindTryFromU8.try_from.Kinds as named-kinds
use Rattle.layout.proofs.KindTryFromU8.try_from.Reads as named

pub kind-number-unique : Unique number-kinds.ps number-kinds.r number.Post
kind-number-unique κs a r r' s s' p q = p ∙ sym q

pub kind-named-unique : Unique named-kinds.ps named-kinds.r named.Post
kind-named-unique κs a r r' s s' p q = p ∙ sym q
