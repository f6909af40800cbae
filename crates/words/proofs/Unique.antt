-- Each public function's contract allows one outcome: two results that meet it are equal.
use mathlib.Core.Path.{sym, ◌∙◌}
use Rattle.order.proofs.Unique.{Unique}
use Rattle.words.proofs.mark.Kinds as mark-kinds
use Rattle.words.proofs.mark.Reads as mark
use Rattle.words.proofs.digits.Kinds as digits-kinds
use Rattle.words.proofs.digits.Reads as digits
use Rattle.words.proofs.word.Kinds as word-kinds
use Rattle.words.proofs.word.Reads as word
use Rattle.words.proofs.number.Kinds as number-kinds
use Rattle.words.proofs.number.Reads as number
use Rattle.words.proofs.group.Kinds as group-kinds
use Rattle.words.proofs.group.Reads as group
use Rattle.words.proofs.room.Kinds as room-kinds
use Rattle.words.proofs.room.Reads as room
use Rattle.words.proofs.choice.Kinds as choice-kinds
use Rattle.words.proofs.choice.Reads as choice
use Rattle.words.proofs.kind.Kinds as kind-kinds
use Rattle.words.proofs.kind.Reads as kind
use Rattle.words.proofs.identity.Kinds as identity-kinds
use Rattle.words.proofs.identity.Reads as identity
use Rattle.words.proofs.series.Kinds as series-kinds
use Rattle.words.proofs.series.Reads as series
use Rattle.words.proofs.series_or_none.Kinds as series-or-none-kinds
use Rattle.words.proofs.series_or_none.Reads as series-or-none

pub mark-unique : Unique mark-kinds.ps mark-kinds.r mark.Post
mark-unique κs a r r' s s' p q = p ∙ sym q

pub digits-unique : Unique digits-kinds.ps digits-kinds.r digits.Post
digits-unique κs a r r' s s' p q = p ∙ sym q

pub word-unique : Unique word-kinds.ps word-kinds.r word.Post
word-unique κs a r r' s s' p q = p ∙ sym q

pub number-unique : Unique number-kinds.ps number-kinds.r number.Post
number-unique κs a r r' s s' p q = p ∙ sym q

pub group-unique : Unique group-kinds.ps group-kinds.r group.Post
group-unique κs a r r' s s' p q = p ∙ sym q

pub room-unique : Unique room-kinds.ps room-kinds.r room.Post
room-unique κs a r r' s s' p q = p ∙ sym q

pub choice-unique : Unique choice-kinds.ps choice-kinds.r choice.Post
choice-unique κs a r r' s s' p q = p ∙ sym q

pub kind-unique : Unique kind-kinds.ps kind-kinds.r kind.Post
kind-unique κs a r r' s s' p q = p ∙ sym q

pub identity-unique : Unique identity-kinds.ps identity-kinds.r identity.Post
identity-unique κs a r r' s s' p q = p ∙ sym q

pub series-unique : Unique series-kinds.ps series-kinds.r series.Post
series-unique κs a r r' s s' p q = p ∙ sym q

pub series-or-none-unique : Unique series-or-none-kinds.ps series-or-none-kinds.r series-or-none.Post
series-or-none-unique κs a r r' s s' p q = p ∙ sym q
