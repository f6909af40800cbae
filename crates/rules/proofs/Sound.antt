-- A DEFINE record that the frame half finds writable has every value within its range: `bad_values` adds no refusal.
use Prim.Native.Nat.{ℕ, zero, suc, ◌+◌, ◌-◌, ◌*◌, ◌^◌, ◌≤◌, ◌<◌}
use mathlib.Core.Path.{◌≡◌, refl, sym, ◌∙◌, ap, subst}
use mathlib.Core.Bool.{Bool, true, false, cond, ◌&&◌, ◌||◌}
use mathlib.Core.List.{List, [], ◌∷◌}
use mathlib.Core.Option.{some}
use lib.Dec.{eqb, ltb, leb}
use lib.ListN.{length, get_or, take, drop, length-drop}
use lib.Seq.{get_or-take, get_or-drop, length-take-le}
use native.Mathlib.Omega.{arith}
use borrow.Author.Tests.{eqb-true, eqb-false, ltb-true, eq-eqb, ne_eqb, lt-leb, le-leb, lt-ltb, le-ltb}
use Rattle.layout.specs.declared.Kind.TheVariants as kind
use Rattle.layout.specs.declared.Items.TheVariants.{Numbers}
use Rattle.layout.specs.Row.{Condition, is, at_least, Row, all, present}
use Rattle.layout.specs.Write.{idle, lay, good, good_but_group, vals}
use Rattle.layout.specs.Shape.{number, choice, least}
use Rattle.layout.specs.Frame.{places, judged_of}
use Rattle.rules.specs.Lists.{any}
use Rattle.rules.specs.Number.{Number, count, used, wide, wide_number, bad_identity, bad_list}
use Rattle.rules.specs.Parameters.{too_large, bad_name, bad_parameters}
use Rattle.rules.specs.Recorded.{group_given, group_numbers, options_follow, set_reference, owners_included, owner_numbers, acknowledged_call, broadcast}
use Rattle.rules.specs.Recorded.{letter_count, letters, assignment, radio_numbers, class_of_usage, attachment_lifetime, temporary_assignment}
use Rattle.rules.specs.Recorded.{says_yes, code_at, identity_at, identities_at, numbers_at, listed, parameters_in, define_of}
use Rattle.rules.specs.Recorded.{optional, optional_yes, optional_number, optional_choice, optional_name}
use Rattle.rules.specs.Refusals.{refuses, bad_values}
use Rattle.rules.proofs.Tests.{split, clash, and_in, and_l, and_r, or-in}
use Rattle.rules.proofs.Recorded.{length-identities, identities-at}
use Rattle.rules.proofs.Laid.{Coded, coded}
use Rattle.rules.proofs.Places.{table, row_at, all-rows, given, said, Optional, ListAt, o-bit-at, given-at, groups-at, owners-at, radios-at, letter_at}
use Rattle.rules.proofs.Places.{set-reference-at, owners-included-at, acknowledged-call-at, broadcast-at, letter-count-at}
use Rattle.rules.proofs.Places.{assignment-at, class-of-usage-at, attachment-lifetime-at, temporary-assignment-at}

-- a test of the first n, place by place
any-take : {A : Type 0} (p : A → Bool) (d : A) (n : ℕ) (l : List A) → ((j : ℕ) → j < n → j < length l → p (get_or l j d) ≡ false) → any p (take n l) ≡ false
any-take p d zero l h = refl
any-take p d (suc n) [] h = refl
any-take p d (suc n) (x ∷ l) h =
    or-in (p x) (any p (take n l)) (h 0 (omega arith) (omega arith))
    (any-take p d n l (λ j a b. h (suc j) (omega arith) (omega arith)))

-- item j of a list is there where the number type counts it
counted : (v j : ℕ) → 1 ≤ v → j < count (v - 1) → least Numbers j ≤ v
counted v j h k = split (eqb (v - 1) 0)
    (λ e. one (eqb-true (v - 1) 0 e) (rw e at k))
    (λ e. split (eqb (v - 1) 1)
    (λ f. two (eqb-true (v - 1) 1 f) (rw (e, f) at k))
    (λ f. more (eqb-false (v - 1) 0 e) (eqb-false (v - 1) 1 f) (rw (e, f) at k)))
  where
    item : (b : Bool) → ltb j 2 ≡ b → cond b (j + 1) (j + 2) ≤ v → least Numbers j ≤ v
    item b e q = rw e q

    one : v - 1 ≡ 0 → j < 1 → least Numbers j ≤ v
    one e q = item true (lt-ltb j 2 (omega arith)) (omega arith)

    two : v - 1 ≡ 1 → j < 2 → least Numbers j ≤ v
    two e q = item true (lt-ltb j 2 q) (omega arith)

    more : (v - 1 ≡ 0 → ⊥) → (v - 1 ≡ 1 → ⊥) → j < v - 1 → least Numbers j ≤ v
    more a b q = split (ltb j 2)
        (λ e. item true e (let l = ltb-true j 2 e in omega arith))
        (λ e. item false e (omega arith))

-- a row that is there and has codes to choose from: the place's value is laid, and has a code
record Valued (r : Row) (value laid : ℕ) : Type 0 where
  same : laid ≡ value
  low : r.first ≤ value
  high : value < r.first + r.codes

module _ (s : List ℕ) (whole : length s ≡ places) (g : all good (lay table [] s) ≡ true) where
  abbrev laid : List ℕ
  laid = vals (lay table [] s)

  valued : (k : ℕ) (r : Row) → k < places → row_at k ≡ r → idle r ≡ false → present (take k laid) r.hang ≡ true → Valued r (get_or s k 0) (get_or laid k 0)
  valued k r h e c p =
      let f = subst (λ (x : Row). present (take k laid) x.hang ≡ true → Coded x (get_or s k 0) (get_or laid k 0)) e (coded table [] s g k (rw all-rows h)) p in
      let q : get_or laid k 0 ≡ get_or s k 0 = f.same ∙ ap (λ (b : Bool). cond b 0 (get_or s k 0)) c in
      record { same = q; low = subst (λ (v : ℕ). r.first ≤ v) q f.least; high = subst (λ (v : ℕ). v < r.first + r.codes) q f.most }

  -- conditions on a place before
  always : (k : ℕ) → present (take k laid) [] ≡ true
  unfolding present
  always k = refl

  equal-at : (k j v : ℕ) → j < k → get_or laid j 0 ≡ v → eqb (get_or (take k laid) j 0) v ≡ true
  equal-at k j v h e = eq-eqb (get_or (take k laid) j 0) v (get_or-take k laid j 0 h ∙ e)

  holds-is : (k j v : ℕ) → j < k → get_or laid j 0 ≡ v → present (take k laid) (is j v ∷ []) ≡ true
  unfolding present
  holds-is k j v h e = and_in (equal-at k j v h e) refl

  holds-least : (k j v : ℕ) → j < k → v ≤ get_or laid j 0 → present (take k laid) (at_least j v ∷ []) ≡ true
  unfolding present
  holds-least k j v h e = and_in (le-leb v (get_or (take k laid) j 0) (rw (get_or-take k laid j 0 h) e)) refl

  holds-chain : (k a b j v : ℕ) → a < k → b < k → j < k → get_or laid a 0 ≡ 1 → get_or laid b 0 ≡ 1 → get_or laid j 0 ≡ v
      → present (take k laid) (is a 1 ∷ is b 1 ∷ is j v ∷ []) ≡ true
  unfolding present
  holds-chain k a b j v f g h c d e = and_in (equal-at k a 1 f c) (and_in (equal-at k b 1 g d) (and_in (equal-at k j v h e) refl))

  -- ---- optional elements ----

  options : (k : ℕ) → optional s k ≡ true → get_or laid options_follow 0 ≡ 1
  options k y =
      (valued options_follow (number 1 []) (omega arith) o-bit-at refl (always options_follow)).same
      ∙ eqb-true (get_or s options_follow 0) 1 (and_l (says_yes s options_follow) (says_yes s k) y)

  flag : (k : ℕ) (r : Row) → Optional k r → optional s k ≡ true → get_or laid k 0 ≡ 1
  flag k r o y =
      let there = holds-is k options_follow 1 o.after (options k y) in
      (valued k (number 1 (is options_follow 1 ∷ [])) (let w = o.within in omega arith) o.flag refl there).same
      ∙ eqb-true (get_or s k 0) 1 (and_r (says_yes s options_follow) (says_yes s k) y)

  optional-valued : (k : ℕ) (r : Row) → Optional k r → optional s k ≡ true → Valued r (get_or s (k + 1) 0) (get_or laid (k + 1) 0)
  optional-valued k r o y =
      let a = o.after in
      valued (k + 1) r o.within o.value o.carries
      (subst (λ (c : List Condition). present (take (k + 1) laid) c ≡ true) (sym o.hangs)
      (holds-chain (k + 1) options_follow options_follow k 1 (omega arith) (omega arith) (omega arith) (options k y) (options k y) (flag k r o y)))

  number_small : (k w : ℕ) → Optional k (number w (given k)) → too_large (2 ^ w) (optional_number s k) ≡ false
  number_small k w o = split (optional s k)
      (λ y. let v = (optional-valued k (number w (given k)) o y).high in rw y (lt-leb (2 ^ w) (get_or s (k + 1) 0) (omega arith)))
      (λ n. rw n refl)

  choice-small : (k : ℕ) → Optional k (choice 1 2 (given k)) → too_large 2 (optional_choice s k) ≡ false
  choice-small k o = split (optional s k)
      (λ y. let v = (optional-valued k (choice 1 2 (given k)) o y).high in rw y (lt-leb 2 (get_or s (k + 1) 0 - 1) (omega arith)))
      (λ n. rw n refl)

  -- ---- lists ----

  identity-good : (p : ℕ) → get_or s p 0 < 4 → (2 ≤ get_or s p 0 → get_or s (p + 2) 0 < 2 ^ 24) → (get_or s p 0 ≡ 3 → get_or s (p + 3) 0 < 2 ^ 24)
      → bad_identity (identity_at s p) ≡ false
  identity-good p f n m =
      let form = get_or s p 0 - 1 in
      or-in (ltb 2 form) ((ltb 0 form && wide (get_or s (p + 2) 0)) || (eqb form 2 && wide (get_or s (p + 3) 0)))
      (le-ltb 2 form (omega arith))
      (or-in (ltb 0 form && wide (get_or s (p + 2) 0)) (eqb form 2 && wide (get_or s (p + 3) 0))
      (split (ltb 0 form)
      (λ e. let l = ltb-true 0 form e in rw e (lt-leb (2 ^ 24) (get_or s (p + 2) 0) (n (omega arith))))
      (λ e. rw e refl))
      (split (eqb form 2)
      (λ e. let l = eqb-true form 2 e in rw e (lt-leb (2 ^ 24) (get_or s (p + 3) 0) (m (omega arith))))
      (λ e. rw e refl)))

  list-good : (t : ℕ) (hang : List Condition) → t + 41 < places → ListAt t hang → present (take t laid) hang ≡ true → bad_list (some (numbers_at s t)) ≡ false
  unfolding numbers_at
  list-good t hang w a p =
      let c = valued t (choice 4 11 hang) (omega arith) a.count refl p in
      or-in (ltb 10 (code_at s t)) (any bad_identity (used (numbers_at s t)))
      (le-ltb 10 (code_at s t) (let h = c.high in omega arith))
      (any-take bad_identity (identity_at s 0) (count (code_at s t)) (identities_at s (t + 1) 10) (λ j h k.
      let i : j < 10 = rw (length-identities s (t + 1) 10) at k in
      ap bad_identity (identities-at s (t + 1) 10 j (identity_at s 0) i) ∙ item c j i (counted (get_or s t 0) j c.low h)))
    where
      item : Valued (choice 4 11 hang) (get_or s t 0) (get_or laid t 0) → (j : ℕ) → j < 10 → least Numbers j ≤ get_or s t 0
          → bad_identity (identity_at s (t + 1 + 4 * j)) ≡ false
      item c j i h =
          let q = t + 1 + 4 * j in
          let there = holds-least q t (least Numbers j) (omega arith) (rw c.same h) in
          let f = valued q (choice 2 3 (at_least t (least Numbers j) ∷ [])) (omega arith) (a.form j i) refl there in
          identity-good q (let e = f.high in omega arith)
          (λ m.
          let more = holds-least (q + 2) q 2 (omega arith) (rw f.same m) in
          let v = (valued (q + 2) (number 24 (at_least q 2 ∷ [])) (omega arith) (a.ssi j i) refl more).high in
          omega arith)
          (λ m.
          let more = holds-is (q + 3) q 3 (omega arith) (f.same ∙ m) in
          let v = (valued (q + 3) (number 24 (is q 3 ∷ [])) (omega arith) (a.extension j i) refl more).high in
          omega arith)

  -- ---- the name ----

  letter-small : (j : ℕ) → j < 16 → j < get_or laid (letter_count + 1) 0 → get_or s (letters + j) 0 < 256
  letter-small j h k =
      let there = holds-least (letters + j) (letter_count + 1) (j + 1) (omega arith) (omega arith) in
      let v = (valued (letters + j) (number 8 (at_least (letter_count + 1) (j + 1) ∷ [])) (omega arith) (letter_at j h) refl there).high in
      omega arith

  name-good : bad_name (optional_name s) ≡ false
  name-good = split (optional s letter_count)
      (λ y. rw y (named y))
      (λ n. rw n refl)
    where
      letter_places : List ℕ
      letter_places = take 16 (drop letters s)

      sixteen : length letter_places ≡ 16
      sixteen = length-take-le 16 (drop letters s) (rw (length-drop letters s, whole) (omega arith))

      named : optional s letter_count ≡ true → bad_name (some (take (get_or s (letter_count + 1) 0) letter_places)) ≡ false
      named y =
          let c = optional-valued letter_count (choice 4 16 (given letter_count)) letter-count-at y in
          let n = get_or s (letter_count + 1) 0 in
          let low = c.low in
          let high = c.high in
          let size : length (take n letter_places) ≡ n = length-take-le n letter_places (rw sixteen (omega arith)) in
          or-in (eqb (length (take n letter_places)) 0) (ltb 16 (length (take n letter_places)) || any (λ x. leb 256 x) (take n letter_places))
          (rw size (ne_eqb n 0 (λ e. absurd (omega arith))))
          (or-in (ltb 16 (length (take n letter_places))) (any (λ x. leb 256 x) (take n letter_places))
          (rw size (le-ltb 16 n (omega arith)))
          (any-take (λ x. leb 256 x) 0 n letter_places (λ j h k.
          let i : j < 16 = rw sixteen at k in
          let letter = get_or-take 16 (drop letters s) j 0 i ∙ get_or-drop letters s j 0 in
          ap (leb 256) letter ∙ lt-leb 256 (get_or s (letters + j) 0) (letter-small j i (rw c.same h)))))

  -- ---- the whole record ----

  parameters-good : bad_parameters (parameters_in s) ≡ false
  unfolding parameters_in
  parameters-good =
      or-in (too_large 8 (optional_number s set_reference)) _ (number_small set_reference 3 set-reference-at)
      (or-in (too_large 2 (optional_choice s acknowledged_call)) _ (choice-small acknowledged_call acknowledged-call-at)
      (or-in (too_large 2 (optional_choice s broadcast)) _ (choice-small broadcast broadcast-at)
      (or-in (bad_name (optional_name s)) _ name-good
      (or-in (too_large 8 (optional_number s class_of_usage)) _ (number_small class_of_usage 3 class-of-usage-at)
      (or-in (too_large 4 (optional_number s attachment_lifetime)) _ (number_small attachment_lifetime 2 attachment-lifetime-at)
      (or-in (too_large 8 (optional_number s temporary_assignment)) false (number_small temporary_assignment 3 temporary-assignment-at) refl))))))

  listed-good : (there : Bool) (t : ℕ) → (there ≡ true → bad_list (some (numbers_at s t)) ≡ false) → bad_list (listed s there t) ≡ false
  listed-good true t h = h refl
  listed-good false t h = refl

  -- a list behind an optional element that says "yes"
  included : (k t : ℕ) → Optional k (choice 1 2 (given k)) → k + 1 < t → optional_yes s k ≡ true → present (take t laid) (said k) ≡ true
  included k t o h y =
      let there = and_l (optional s k) (says_yes s (k + 1)) y in
      let a = o.after in
      holds-chain t options_follow k (k + 1) 1 (omega arith) (omega arith) h (options k there) (flag k (choice 1 2 (given k)) o there)
      ((optional-valued k (choice 1 2 (given k)) o there).same ∙ eqb-true (get_or s (k + 1) 0) 1 (and_r (optional s k) (says_yes s (k + 1)) y))

  included-good : (k t : ℕ) → Optional k (choice 1 2 (given k)) → k + 1 < t → t + 41 < places → ListAt t (said k)
      → bad_list (listed s (optional_yes s k) t) ≡ false
  included-good k t o h w a = listed-good (optional_yes s k) t (λ y. list-good t (said k) w a (included k t o h y))

  groups-good : bad_list (listed s (says_yes s group_given) group_numbers) ≡ false
  groups-good = listed-good (says_yes s group_given) group_numbers (λ y.
      let yes = (valued group_given (choice 1 2 []) (omega arith) given-at refl (always group_given)).same ∙ eqb-true (get_or s group_given 0) 1 y in
      list-good group_numbers (is group_given 1 ∷ []) (omega arith) groups-at (holds-is group_numbers group_given 1 (omega arith) yes))

  values-good : (asker : Number) → bad_values (define_of asker s) ≡ false
  unfolding define_of
  values-good asker =
      or-in (bad_list (listed s (says_yes s group_given) group_numbers)) _ groups-good
      (or-in (bad_list (listed s (optional_yes s owners_included) owner_numbers)) _
      (included-good owners_included owner_numbers owners-included-at (omega arith) (omega arith) owners-at)
      (or-in (bad_list (listed s (optional_yes s assignment) radio_numbers)) (bad_parameters (parameters_in s))
      (included-good assignment radio_numbers assignment-at (omega arith) (omega arith) radios-at)
      parameters-good))

-- what the frame half does not refuse, `bad_values` does not either
pub sound : (asker : Number) (s : List ℕ) → length s ≡ places → refuses (judged_of kind.Define s) ≡ false → bad_values (define_of asker s) ≡ false
unfolding judged_of
sound asker s whole w = split (all good (lay table [] s))
    (λ g. values-good s whole g asker)
    (λ g. split (all good_but_group (lay table [] s)) (λ e. clash (rw (g, e) at w)) (λ e. clash (rw (g, e) at w)))

-- so a define's BadOrder is an asker above 24 bits, or a record that the writer refuses
pub bad-order : (asker : Number) (s : List ℕ) → length s ≡ places
    → (wide_number asker || (refuses (judged_of kind.Define s) || bad_values (define_of asker s))) ≡ (wide_number asker || refuses (judged_of kind.Define s))
bad-order asker s whole = ap (λ (b : Bool). wide_number asker || b) (split (refuses (judged_of kind.Define s))
    (λ r. rw r refl)
    (λ r. rw (r, sound asker s whole r) refl))
