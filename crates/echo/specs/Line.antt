-- The lines of a text: each ends at a newline.
use Rattle.std.specs.Prelude.{Bool, false, cond, ◌||◌, List, [], ◌∷◌, ℕ, suc, Option, Some, None, eqb}

-- the character that ends a line
abbrev pub newline : ℕ
newline = 10

-- whether a newline is among the bytes
abbrev pub has_newline : List ℕ → Bool
has_newline [] = false
has_newline (byte ∷ text) = eqb byte newline || has_newline text

-- how many bytes stand before the first newline: all of them where there is none
abbrev pub until_newline : List ℕ → ℕ
until_newline [] = 0
until_newline (byte ∷ text) = cond (eqb byte newline) 0 (suc (until_newline text))

-- where the first newline is, if there is one
abbrev pub newline_at : List ℕ → Option ℕ
newline_at text = cond (has_newline text) (Some (until_newline text)) None

-- what a text has behind its last newline: the start of a line that is not whole
abbrev pub unfinished : List ℕ → List ℕ
unfinished [] = []
unfinished (byte ∷ text) = cond (has_newline (byte ∷ text)) (unfinished text) (byte ∷ text)
