-- A made row is the row of the group that the order leaves.
use mathlib.Core.Path.{◌≡◌, refl, sym, ap, ◌∙◌}
use mathlib.Core.Bool.{Bool, true, false, cond, true≢false}
use mathlib.Core.List.{List, [], ◌∷◌, ◌++◌}
use mathlib.Core.Option.{Option, none, some}
use Prim.Native.Nat.{ℕ, suc, ◌+◌, ◌-◌, ◌≤◌}
use native.Mathlib.Omega.{arith}
use lib.Dec.{eqb}
use lib.ListN.{length, get_or, replicate, length-append, length-replicate}
use lib.Seq.{take_at}
use borrow.Author.Tests.{ne_eqb}
use Rattle.rules.specs.Parameters.{Parameters, no_parameters, over, replaced, bad_name}
use Rattle.rules.specs.Ledger.{Group}
use Rattle.rules.specs.Written.{max_owners}
use Rattle.rows.specs.Layout.{group_words, max_letters, name_length, first_owner}
use Rattle.store.specs.Storage.{group_row, counted}
use Rattle.store.proofs.Groups.{name-few}
use Rattle.order.specs.Row.{held_of, letters_of, words}
use Rattle.making.specs.Row.{made_row}
use Rattle.making.specs.Fine.{Fine}
use Rattle.making.proofs.WordLists.{words-slice, list-words}

held-over : (new old : Option ℕ) → cond (eqb (held_of new) 0) (held_of old) (held_of new) ≡ held_of (over new old)
held-over none old = refl
held-over (some v) old = rw (ne_eqb (suc v) 0 (λ e. omega arith))

letters-over : (o old : Option (List ℕ)) → bad_name o ≡ false → (b : Bool) → eqb (length (letters_of o)) 0 ≡ b
    → letters_of (over o old) ≡ cond b (letters_of old) (letters_of o)
letters-over none old q true e = refl
letters-over none old q false e = absurd (true≢false e)
letters-over (some []) old q b e = absurd (true≢false q)
letters-over (some (x ∷ l)) old q true e = absurd (true≢false (sym e ∙ ne_eqb (length (x ∷ l)) 0 (λ z. omega arith)))
letters-over (some (x ∷ l)) old q false e = refl

length-counted : (n : ℕ) (l : List ℕ) → length l ≤ n → length (counted n l) ≡ n + 1
length-counted n l h = omega (arith, length-append l (replicate (n - length l) 0), length-replicate {A = ℕ} (n - length l) 0)

-- the words of a good name, in a group's row
name-words : (g : ℕ) (x : Group) → bad_name x.parameters.name ≡ false
    → words (λ j. get_or (group_row (g, x)) j 0) (max_letters + 1) name_length ≡ counted max_letters (letters_of x.parameters.name)
unfolding group_row
name-words g x q =
    let name = counted max_letters (letters_of x.parameters.name) in
    let owners = counted max_owners x.owners in
    let long : length name ≡ max_letters + 1 = length-counted max_letters (letters_of x.parameters.name) (name-few x.parameters.name q) in
    words-slice (group_row (g, x)) (max_letters + 1) name_length (omega (arith, length-append name owners, long))
    ∙ take_at name owners (max_letters + 1) long

-- a row of zeros is that of a bare group
pub blank-row : replicate group_words 0 ≡ group_row (0, record { owners = []; parameters = no_parameters })
unfolding group_row
blank-row = refl

pub made-is : (g n : ℕ) (new : Parameters) (old : Group) (os : List ℕ) → bad_name new.name ≡ false → Fine old → length os ≤ max_owners
    → made_row g (group_row (0, record { owners = []; parameters = new })) (group_row (n, old)) os
    ≡ group_row (g, record { owners = os; parameters = replaced new old.parameters })
unfolding made_row group_row
made-is g n new old os q f few =
    let p = old.parameters in
    λ i.
    g ∷ held-over new.set_reference p.set_reference i ∷ held-over new.acknowledged_call p.acknowledged_call i
    ∷ held-over new.broadcast p.broadcast i ∷ held-over new.class p.class i ∷ held-over new.lifetime p.lifetime i
    ∷ held-over new.temporary p.temporary i
    ∷ (name (eqb (length (letters_of new.name)) 0) refl i ++ (length os ∷ list-words os max_owners first_owner few i))
  where
    -- the name's words: kept where the order has none
    name : (b : Bool) → eqb (length (letters_of new.name)) 0 ≡ b
        → words (λ j. cond b (get_or (group_row (n, old)) j 0) (get_or (group_row (0, record { owners = []; parameters = new })) j 0)) (max_letters + 1) name_length
        ≡ counted max_letters (letters_of (over new.name old.parameters.name))
    name true e = name-words n old f.0 ∙ ap (counted max_letters) (sym (letters-over new.name old.parameters.name q true e))
    name false e =
        name-words 0 (record { owners = []; parameters = new }) q
        ∙ ap (counted max_letters) (sym (letters-over new.name old.parameters.name q false e))
