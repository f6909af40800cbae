-- The reply to a line, as it goes out.
use Rattle.std.specs.Prelude.{List, [], ◌∷◌, ◌++◌, ℕ}
use Rattle.house.specs.Echo.{echo_line}
use Rattle.echo.specs.Line.{newline}

-- A and the line made anew, or R, the refusal's number and its bit; then a newline
abbrev pub reply_to : List ℕ → List ℕ
reply_to line = echo_line line ++ newline ∷ []
