-- The order's row: the parameters of a DEFINE record, as a group's row has them; its key and its owners' words are 0.
use Rattle.std.specs.Prelude.{ℕ, zero, suc, ◌-◌, cond, List, [], ◌∷◌, eqb, ltb, length, get_or}
use Rattle.std.specs.Prelude.{Some, None}
use Rattle.std.specs.Prelude as std
use Rattle.std.proofs.Math.Option.{Option, none, some}
use Rattle.rows.specs.Layout.{group_words, key_word, reference_word, call_word, broadcast_word, class_word, lifetime_word}
use Rattle.rows.specs.Layout.{name_length, first_letter, owner_count}
use Rattle.rules.specs.Recorded.{optional_number, optional_choice, optional_name}
use Rattle.rules.specs.Recorded.{set_reference, acknowledged_call, broadcast, class_of_usage, attachment_lifetime, temporary_assignment}

-- a value that may be absent, one up
abbrev pub one_up : std.Option ℕ → ℕ
one_up None = 0
one_up (Some v) = suc v

abbrev pub held_of : Option ℕ → ℕ
held_of none = 0
held_of (some v) = suc v

abbrev pub letters_of : Option (List ℕ) → List ℕ
letters_of none = []
letters_of (some letters) = letters

-- n words from place k on
abbrev pub words : (ℕ → ℕ) → ℕ → ℕ → List ℕ
words f zero k = []
words f (suc n) k = f k ∷ words f n (suc k)

abbrev pub value_word : List ℕ → ℕ → ℕ
value_word places j =
    cond (eqb j reference_word) (held_of (optional_number places set_reference))
    (cond (eqb j call_word) (held_of (optional_choice places acknowledged_call))
    (cond (eqb j broadcast_word) (held_of (optional_choice places broadcast))
    (cond (eqb j class_word) (held_of (optional_number places class_of_usage))
    (cond (eqb j lifetime_word) (held_of (optional_number places attachment_lifetime))
    (held_of (optional_number places temporary_assignment))))))

abbrev pub order_word : List ℕ → ℕ → ℕ
order_word places j =
    cond (eqb j key_word) 0
    (cond (ltb j name_length) (value_word places j)
    (cond (eqb j name_length) (length (letters_of (optional_name places)))
    (cond (ltb j owner_count) (get_or (letters_of (optional_name places)) (j - first_letter) 0) 0)))

unfoldable pub order_row_of : List ℕ → List ℕ
order_row_of places = words (order_word places) group_words 0
