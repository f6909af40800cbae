-- The placing by arrival is lawful.
use Prim.Native.Nat.{◌+◌}
use mathlib.Core.Path.{◌≡◌, refl}
use mathlib.Core.Bool.{Bool, true, cond}
use mathlib.Core.List.{List, [], ◌∷◌}
use mathlib.Core.Option.{some}
use lib.Dec.{eqb}
use lib.ListN.{length}
use native.Mathlib.Omega.{arith}
use borrow.Author.Tests.{eqb-true}
use Rattle.rules.specs.Lists.{present, once}
use Rattle.rules.specs.Entries.{find, alter}
use Rattle.rules.specs.Ledger.{same_pair}
use Rattle.rules.specs.Placing.{LawfulPut, LawfulRoll, Lawful}
use Rattle.rules.specs.Arrival.{put, arrival, listed_roll, by_arrival}
use Rattle.rules.proofs.Tests.{split}
use Rattle.rules.proofs.ListLaws.{eqb_same, mem-once, once-once, unique-once}
use Rattle.rules.proofs.EntryLaws.{flip-false, Single, single-alter, distinct-single, single-distinct}
use Rattle.rules.proofs.Pairs.{pair-sound, pair-itself}

module _ {K X : Type 0} (same : K → K → Bool) (sound : (a b : K) → same a b ≡ true → a ≡ b) (itself : (a : K) → same a a ≡ true) where
  find-put : (l : List (K × X)) (k j : K) (v : X) → find same (put same l k v) j ≡ cond (same j k) (some v) (find same l j)
  find-put [] k j v = refl
  find-put (e ∷ l) k j v = split (same k e.0)
      (λ p. split (same j k)
      (λ q. cc (sound k e.0 p))
      (λ q. cc (sound k e.0 p)))
      (λ p. split (same j k)
      (λ q. cc (sound j k q, find-put l k j v))
      (λ q. cc (find-put l k j v)))

  single-put : (l : List (K × X)) (k : K) (v : X) → Single same l → Single same (put same l k v)
  single-put [] k v s = (refl, tt)
  single-put (e ∷ l) k v s = split (same k e.0)
      (λ p. rw p s)
      (λ p. rw p (cc (find-put l k e.0 v, flip-false same sound itself k e.0 p), single-put l k v s.1))

  pub length-put : (l : List (K × X)) (k : K) (v : X) → length (put same l k v) ≡ length l + cond (present (find same l k)) 0 1
  length-put [] k v = refl
  length-put (e ∷ l) k v = split (same k e.0)
      (λ q. rw q (omega arith))
      (λ q. rw q (let h = length-put l k v in omega arith))

  arrival-lawful : LawfulPut same (arrival {K = K} {X = X} same)
  arrival-lawful = record {
    begins = refl;
    stays = λ l k v h. distinct-single same (put same l k v) (single-put l k v (single-distinct same l h));
    alters = λ f l h. distinct-single same (alter f l) (single-alter same f l (single-distinct same l h));
    single = λ l h. h;
    found = λ l k v h j. find-put l k j v;
    counted = λ l k v h. length-put l k v;
  }

listed-lawful : LawfulRoll listed_roll
listed-lawful = record {
  holds = mem-once;
  stays = λ l. unique-once (once l) (once-once l);
  single = λ l h. h;
  counted = λ l. refl;
}

pub by-arrival : Lawful by_arrival
by-arrival = record {
  groups = arrival-lawful eqb eqb-true eqb_same;
  pairs = arrival-lawful same_pair pair-sound pair-itself;
  owners = listed-lawful;
}
