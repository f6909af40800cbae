-- A group's row: its key; a parameter that the order's row has, else the one of the row that was there; the owners.
use Rattle.std.specs.Prelude.{ℕ, ◌-◌, Bool, cond, List, eqb, ltb, leb, length, get_or}
use Rattle.rows.specs.Layout.{group_words, key_word, name_length, owner_count, first_owner}
use Rattle.order.specs.Row.{words}

-- which words stay: a value where the order has none, the name where it has none
abbrev pub keeps_word : List ℕ → ℕ → Bool
keeps_word order j = cond (ltb j name_length) (eqb (get_or order j 0) 0) (eqb (get_or order name_length 0) 0)

abbrev pub made_word : ℕ → List ℕ → List ℕ → List ℕ → ℕ → ℕ
made_word g order old owners j =
    cond (eqb j key_word) g
    (cond (eqb j owner_count) (length owners)
    (cond (leb first_owner j) (get_or owners (j - first_owner) 0)
    (cond (keeps_word order j) (get_or old j 0) (get_or order j 0))))

unfoldable pub made_row : ℕ → List ℕ → List ℕ → List ℕ → List ℕ
made_row g order old owners = words (made_word g order old owners) group_words 0
