-- What desk's replies say, character by character: R and the refusal's number, or A and what was asked for.
use Rattle.std.specs.Prelude.{cond, List, [], ◌∷◌, ◌++◌, ℕ, zero, suc, ◌+◌, ◌%◌, eqb, get_or, take, Result, Ok, Err, ⊤}
use Prim.Native.Char.{code}
use Prim.Native.String.{String}
use Rattle.house.specs.Hex.{digit_of}
use Rattle.order.specs.declared.Itsi.{Itsi}
use Rattle.refusal.specs.Number.{number_of}
use Rattle.refusal.specs.Reply.{decimal}
use Rattle.refusal.specs.declared.Refusal.{Refusal}
use Rattle.replies.specs.declared.Shown.{Shown}
use Rattle.rows.specs.Layout.{order_kind, order_radio, order_group, entry_radio, entry_state}
use Rattle.rules.specs.Outgoing.{assign}
use Rattle.text.specs.Digits.{quoted, digits_text}

-- the texts of a list's items, one behind the other
abbrev pub joined : {A : Type 0} → (A → List ℕ) → List A → List ℕ
joined f [] = []
joined f (item ∷ more) = f item ++ joined f more

-- "A" and the text of each row
abbrev pub rows_text : {A : Type 0} → (A → List ℕ) → List A → List ℕ
rows_text row_text rows = quoted "A" ++ joined row_text rows

-- "R" and the number
abbrev pub refusal_text : Refusal → List ℕ
refusal_text refusal = quoted "R" ++ decimal (number_of refusal)

-- "A", or the refusal
abbrev pub reply_text : Result ⊤ Refusal → List ℕ
reply_text (Ok done) = quoted "A"
reply_text (Err refusal) = refusal_text refusal

-- the most orders or radios of a reply
abbrev pub most : ℕ
most = 2048

-- the orders, or the radios, are the first rows
abbrev pub listed_text : {A : Type 0} → (A → List ℕ) → Result ℕ Refusal → List A → List ℕ
listed_text row_text (Ok count) rows = rows_text row_text (take count (take most rows))
listed_text row_text (Err refusal) rows = refusal_text refusal

-- "a" for an assignment, "d" for a deassignment
abbrev pub kind_letter : ℕ → ℕ
kind_letter kind = cond (eqb kind assign) (code "a") (code "d")

abbrev pub kind_text : ℕ → List ℕ
kind_text kind = quoted " " ++ (kind_letter kind ∷ [])

-- a number of SSI and extension: "000009/000000"
abbrev pub number_text : ℕ → ℕ → List ℕ
number_text ssi extension = digits_text ssi 6 ++ quoted "/" ++ digits_text extension 6

-- a row of kind, radio and group: " a:000009/000000:000005/000000"
abbrev pub order_text : List ℕ → List ℕ
order_text row =
    kind_text (get_or row order_kind 0)
    ++ quoted ":"
    ++ number_text (get_or row order_radio 0) (get_or row (order_radio + 1) 0)
    ++ quoted ":"
    ++ number_text (get_or row order_group 0) (get_or row (order_group + 1) 0)

-- a row of radio and state: " 000009/000000=1"
abbrev pub member_text : List ℕ → List ℕ
member_text row =
    quoted " "
    ++ number_text (get_or row entry_radio 0) (get_or row (entry_radio + 1) 0)
    ++ quoted "="
    ++ digits_text (get_or row entry_state 0) 1

-- a parameter's code in one digit; it is held one up, and "-" where it is absent
abbrev pub held_letter : ℕ → ℕ
held_letter zero = code "-"
held_letter (suc held) = digit_of (held % 16)

-- a parameter behind its label
abbrev pub value_text : String → ℕ → List ℕ
value_text label held = quoted label ++ (held_letter held ∷ [])

-- the parameters in front of the name
abbrev pub early_text : ℕ → ℕ → ℕ → List ℕ
early_text reference acknowledged broadcast =
    value_text " set=" reference ++ value_text " call=" acknowledged ++ value_text " broadcast=" broadcast

-- the parameters behind the name
abbrev pub late_text : ℕ → ℕ → ℕ → List ℕ
late_text class lifetime temporary =
    value_text " class=" class ++ value_text " lifetime=" lifetime ++ value_text " temporary=" temporary

-- an owner behind another: ",000002/000000"
abbrev pub next_owner : Itsi → List ℕ
next_owner owner = quoted "," ++ number_text owner.0 owner.1

-- the owners, parted by commas
abbrev pub owners_text : List Itsi → List ℕ
owners_text [] = []
owners_text (owner ∷ more) = number_text owner.0 owner.1 ++ joined next_owner more

-- a letter in two digits
abbrev pub letter_text : ℕ → List ℕ
letter_text letter = digits_text letter 2

-- the letters; "-" where there are none
abbrev pub name_text : List ℕ → List ℕ
name_text [] = quoted "-"
name_text (letter ∷ more) = joined letter_text (letter ∷ more)

-- the owners, and the parameters up to the name
abbrev pub front_text : Shown → List ℕ
front_text shown =
    quoted "A owners="
    ++ owners_text (take shown.count shown.owners)
    ++ early_text shown.reference shown.acknowledged shown.broadcast

-- the name, and the parameters behind it
abbrev pub back_text : Shown → List ℕ
back_text shown =
    quoted " name=" ++ name_text (take shown.letters shown.name) ++ late_text shown.class shown.lifetime shown.temporary

-- what is shown, or the refusal
abbrev pub shown_text : Result Shown Refusal → List ℕ
shown_text (Ok shown) = front_text shown ++ back_text shown
shown_text (Err refusal) = refusal_text refusal
