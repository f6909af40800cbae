-- A text that was put into a lent buffer.
use Rattle.std.specs.Prelude.{◌≡◌, cond, List, [], ◌++◌, ℕ, ◌+◌, ◌≤◌, leb, length, drop}
use Rattle.std.proofs.lemmas.List.Edits.{sets}

-- `text` went into `before` from the place `at` on, the rest of it stayed, and `next` is the place behind it
pub record Put (text before after : List ℕ) (at next : ℕ) : Type 0 where
  pub ends : next ≡ at + length text
  pub stored : after ≡ sets before at text

-- the bytes of the longest reply: A, and 2,048 orders of 30 bytes
abbrev pub longest : ℕ
longest = 61441

-- a text laid onto the front of a buffer: what lies past it stays
abbrev pub onto : List ℕ → List ℕ → List ℕ
onto text before = text ++ drop (length text) before

-- a reply where `space` bytes are lent for it: nothing where the longest would not fit
abbrev pub within : ℕ → List ℕ → List ℕ
within space text = cond (leb longest space) text []

-- the reply `text` was laid onto `before`, if there is room, and `count` is its length
pub record Replied (text before after : List ℕ) (count : ℕ) : Type 0 where
  pub counted : count ≡ length (within (length before) text)
  pub laid : after ≡ onto (within (length before) text) before
  pub short : count ≤ longest
