-- How many bytes `echo` keeps room for.
use Rattle.std.specs.Prelude.{ℕ, cond, ◌+◌, leb}

-- the bytes of the longest reply: A, 432 digits and a newline
abbrev pub longest_reply : ℕ
longest_reply = 434

-- the bytes that are held of an unfinished line: one more than the longest line has
abbrev pub most_held : ℕ
most_held = 433

-- the bytes that hold replies until they are written out
abbrev pub room : ℕ
room = 65536

-- how far they are filled behind a reply: where the next might not fit, all was written out, and none of it goes out again
abbrev pub filled_after : ℕ → ℕ
filled_after filled = cond (leb (filled + longest_reply) room) filled 0
