-- Document 01's number, 0 where it is accepted, and the values that each answer says.
use Rattle.std.specs.Prelude.{ℕ, List, [], ◌∷◌, Result, Ok, Err, ⊤}
use Rattle.refusal.specs.declared.Refusal.{Refusal}
use Rattle.refusal.specs.Says.{Says, accepted, refused_with}
use Rattle.replies.specs.declared.Shown.{Shown}

-- the refusal's number alone, or 0 and the values of what is answered
abbrev pub answer_says : {A : Type 0} → (A → List ℕ) → Result A Refusal → Says
answer_says values (Ok answer) = accepted (values answer)
answer_says values (Err r) = refused_with r

-- an order's
abbrev pub reply_says : Result ⊤ Refusal → Says
reply_says = answer_says (λ done. [])

-- how many orders go out, or how many radios are listed
abbrev pub count_says : Result ℕ Refusal → Says
count_says = answer_says (λ n. n ∷ [])

-- a show's, beside what it shows
abbrev pub show_says : Result Shown Refusal → Says
show_says = answer_says (λ shown. [])
