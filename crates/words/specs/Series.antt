-- A LIST: a digit of number type, ':', and up to ten identities parted by ','.
use Rattle.std.specs.Prelude.{not, cond, ◌&&◌, List, [], ◌∷◌, ◌++◌, Option, Some, None, ℕ, zero, suc, ltb, eqb, length, replicate}
use Rattle.order.specs.declared.Identity.{Identity}
use Rattle.order.specs.declared.Numbers.{Numbers}
use Rattle.words.specs.declared.Taken.{Taken}
use Rattle.words.specs.Character.{blank, comma, hyphen, dot, colon}
use Rattle.words.specs.Words.{behind, found_or, stands_at, mark_at, digits_at, word_at}

-- the identity that a form and two values make: the first is the SNA in form 0, else the SSI
unfoldable pub identity_with : ℕ → ℕ → ℕ → Identity
identity_with form value extension = record { form = form; sna = cond (eqb form 0) value 0; ssi = cond (eqb form 0) 0 value; extension = extension }

-- what stands in a place that no identity took
abbrev pub nobody : Identity
nobody = identity_with 0 0 0

-- an identity: form, '.', 8 digits of SNA or SSI, '.', 8 of extension
unfoldable pub named_at : List ℕ → ℕ → Option (Taken Identity)
named_at line at =
    behind (digits_at line at 1) (λ form.
    behind (mark_at line form.next dot) (λ from.
    behind (digits_at line from 8) (λ value.
    behind (mark_at line value.next dot) (λ place.
    behind (digits_at line place 8) (λ extension.
    Some (record { value = identity_with form.value value.value extension.value; next = extension.next }))))))

-- a blank and an identity
abbrev pub identity_at : List ℕ → ℕ → Option (Taken Identity)
identity_at line at = behind (mark_at line at blank) (named_at line)

-- where the next identity starts of a list that has so many, or none where the list has ended:
-- the first starts at once, unless the line ends there or a blank stands there; a later one behind a comma
unfoldable pub item_at : List ℕ → ℕ → ℕ → Option ℕ
item_at line at count = cond (eqb count 0) (cond (ltb at (length line) && not (stands_at line at blank)) (Some at) None) (mark_at line at comma)

-- the list whose first identities are `taken`, with so many places left: it goes on at `at`, or ends there with nobody in them
unfoldable pub list_from : ℕ → ℕ → List ℕ → List Identity → ℕ → Option (Taken Numbers)
list_from zero code line taken at = Some (record { value = record { code = code; identity = taken }; next = at })
list_from (suc places) code line taken at =
    found_or (item_at line at (length taken))
    (λ start. behind (named_at line start) (λ item. list_from places code line (taken ++ item.value ∷ []) item.next))
    (Some (record { value = record { code = code; identity = taken ++ replicate (suc places) nobody }; next = at }))

-- a blank and a LIST
unfoldable pub series_at : List ℕ → ℕ → Option (Taken Numbers)
series_at line at =
    behind (word_at line at 1) (λ code.
    behind (mark_at line code.next colon) (λ from.
    list_from 10 code.value line [] from))

-- a blank and a LIST or a hyphen
unfoldable pub series_or_none_at : List ℕ → ℕ → Option (Taken (Option Numbers))
series_or_none_at line at =
    behind (mark_at line at blank) (λ from.
    found_or (mark_at line from hyphen)
    (λ next. Some (record { value = None; next = next }))
    (behind (series_at line at) (λ list. Some (record { value = Some list.value; next = list.next }))))
