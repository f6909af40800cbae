-- Any two results that a function's contract allows are equal. `Post` is a contract's claim as the checker reads it.
use mathlib.Core.Path.{sym, ◌∙◌}
use Rattle.order.proofs.Unique.{Unique}
use Rattle.making.proofs.made_row.Kinds as made-row-kinds
use Rattle.making.proofs.made_row.Reads as Made-row
use Rattle.making.proofs.owners.held_owners.Kinds as held-owners-kinds
use Rattle.making.proofs.owners.held_owners.Reads as held-owners
use Rattle.making.proofs.owners.any_crowded.Kinds as any-crowded-kinds
use Rattle.making.proofs.owners.any_crowded.Reads as any-crowded

pub made-row-unique : Unique made-row-kinds.ps made-row-kinds.r Made-row.Post
made-row-unique κs a r r' s s' p q = p ∙ sym q

pub held-owners-unique : Unique held-owners-kinds.ps held-owners-kinds.r held-owners.Post
held-owners-unique κs a r r' s s' p q = p ∙ sym q

pub any-crowded-unique : Unique any-crowded-kinds.ps any-crowded-kinds.r any-crowded.Post
any-crowded-unique κs a r r' s s' p q = p ∙ sym q
