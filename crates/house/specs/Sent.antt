-- A text that was put at the front of a lent buffer.
use Rattle.std.specs.Prelude.{◌≡◌, List, ℕ, ◌≤◌, length}
use Rattle.std.proofs.lemmas.List.Edits.{sets}

-- `text` went to the front of `before`, the rest of it stayed, and `count` is the text's length, at most A and 432 digits
pub record Sent (text before after : List ℕ) (count : ℕ) : Type 0 where
  pub counted : count ≡ length text
  pub stored : after ≡ sets before 0 text
  pub short : count ≤ 433
