-- What the reader and the writer say for any input, and a kind's number, by document 01's numbers: which is given, and exactly when.
-- Assumes nothing.
use Prim.Native.Nat.{ℕ}
use mathlib.Core.Path.{◌≡◌, refl, sym, ap}
use mathlib.Core.Bool.{Bool, true, false, cond, ◌||◌}
use mathlib.Core.List.{List, [], ◌∷◌}
use borrow.Author.Tests.{eqb-true}
use lib.Dec.{eqb}
use lib.ListN.{length}
use Rattle.std.specs.Prelude.{Result, Ok, Err, ⊤}
use Rattle.std.specs.List.{list_any}
use Rattle.refusal.specs.declared.Refusal.{Refusal}
use Rattle.refusal.specs.Says.{Says, accepted, refused_with}
use Rattle.refusal.specs.declared.Refusal.TheVariants.{Reserved, NoGroup, NoSpace, BadLine}
use Rattle.layout.specs.declared.Kind.{Kind}
use Rattle.layout.specs.Kinds.{kinds, kind_number, kind_among, kind_named}
use Rattle.layout.specs.Row.{all}
use Rattle.layout.specs.Read.{Answer, frame, refused}
use Rattle.layout.specs.Write.{good, good_but_group}
use Rattle.layout.specs.Frame.{read_bytes, as_reading, reading_of, laid, write, judged_of, room, written_if, written_of}
use Rattle.layout.specs.Length.{frame_length, measured_if, measured_of}
use Rattle.layout.specs.Says.{reading_says, judged_says, written_says, answer_says, kind_says}

-- the reader: the record of the bits, or the refusal that reading them gives
pub read-says : (kind : Kind) (bytes : List ℕ) (count : ℕ) → reading_says (reading_of kind bytes count) ≡ answer_says (read_bytes kind bytes count)
unfolding reading_of as_reading
read-says kind bytes count = go (read_bytes kind bytes count)
  where
    go : (a : Answer) → reading_says (as_reading a) ≡ answer_says a
    go (frame s) = refl
    go (refused n at) = refl

-- the judgement of a record: nothing where each value has a code; 5 where only the group is missing, else 4
abbrev judgement : (a b : Bool) → Says
judgement a b = cond a (accepted []) (cond b (refused_with NoGroup) (refused_with Reserved))

pub fault-says : (kind : Kind) (s : List ℕ) → judged_says (judged_of kind s) ≡ judgement (all good (laid kind s)) (all good_but_group (laid kind s))
unfolding judged_of
fault-says kind s = go (all good (laid kind s)) (all good_but_group (laid kind s))
  where
    go : (a b : Bool) → judged_says (cond a (Ok tt) (cond b (Err NoGroup) (Err Reserved))) ≡ judgement a b
    go true b = refl
    go false true = refl
    go false false = refl

-- the length: that of the frame, by its formula; or 4, 5
pub length-says : (kind : Kind) (s : List ℕ) → written_says (measured_of kind s)
    ≡ cond (all good (laid kind s)) (accepted (frame_length kind s ∷ [])) (cond (all good_but_group (laid kind s)) (refused_with NoGroup) (refused_with Reserved))
unfolding measured_of judged_of
length-says kind s = go (all good (laid kind s)) (all good_but_group (laid kind s))
  where
    go : (a b : Bool) → written_says (measured_if (cond a (Ok tt) (cond b (Err NoGroup) (Err Reserved))) (frame_length kind s))
        ≡ cond a (accepted (frame_length kind s ∷ [])) (cond b (refused_with NoGroup) (refused_with Reserved))
    go true b = refl
    go false true = refl
    go false false = refl

-- the writer: 4, 5, then 8 where there is no room for the frame; else its bits
pub write-says : (kind : Kind) (s : List ℕ) (size start : ℕ) → written_says (written_of kind s size start)
    ≡ cond (all good (laid kind s)) (cond (room (length (write kind s)) size start) (accepted (length (write kind s) ∷ [])) (refused_with NoSpace))
    (cond (all good_but_group (laid kind s)) (refused_with NoGroup) (refused_with Reserved))
unfolding written_of judged_of
write-says kind s size start = go (all good (laid kind s)) (all good_but_group (laid kind s)) (room n size start)
  where
    n : ℕ
    n = length (write kind s)

    fits : (c : Bool) → Says
    fits c = cond c (accepted (n ∷ [])) (refused_with NoSpace)

    judge : (a b : Bool) → Result ⊤ Refusal
    judge a b = cond a (Ok tt) (cond b (Err NoGroup) (Err Reserved))

    roomy : (c : Bool) → room n size start ≡ c → written_says (written_if (Ok tt) n size start) ≡ fits (room n size start)
    roomy true e = rw e
    roomy false e = rw e

    go : (a b c : Bool) → written_says (written_if (judge a b) n size start)
        ≡ cond a (fits (room n size start)) (cond b (refused_with NoGroup) (refused_with Reserved))
    go true b c = roomy (room n size start) refl
    go false true c = refl
    go false false c = refl

-- the number of a kind
abbrev numbered : ℕ → Kind → Bool
numbered number kind = eqb number (kind_number kind)

-- by kinds: the one of that number, if it is among them
among-says : (list : List Kind) (number : ℕ)
    → kind_says (kind_among list number) ≡ cond (list_any (numbered number) list) (accepted (number ∷ [])) (refused_with BadLine)
among-says [] number = refl
among-says (kind ∷ list) number = go (eqb number (kind_number kind)) refl (among-says list number)
  where
    go : (b : Bool) → eqb number (kind_number kind) ≡ b
        → kind_says (kind_among list number) ≡ cond (list_any (numbered number) list) (accepted (number ∷ [])) (refused_with BadLine)
        → kind_says (cond b (Ok kind) (kind_among list number)) ≡ cond (b || list_any (numbered number) list) (accepted (number ∷ [])) (refused_with BadLine)
    go true e rest = ap (λ (n : ℕ). accepted (n ∷ [])) (sym (eqb-true number (kind_number kind) e))
    go false e rest = rest

-- the kind of a number: where it is the number of one, that number; else 9
pub kind-named-says : (number : ℕ) → kind_says (kind_named number)
    ≡ cond (list_any (numbered number) kinds) (accepted (number ∷ [])) (refused_with BadLine)
kind-named-says = among-says kinds
