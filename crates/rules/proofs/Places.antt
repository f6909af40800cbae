-- The rows of the DEFINE table at the places that the ledger reads.
use Prim.Native.Nat.{ℕ, zero, suc, ◌+◌, ◌*◌, ◌<◌}
use mathlib.Core.Path.{◌≡◌, refl, sym, ◌∙◌, ap}
use mathlib.Core.Bool.{false}
use mathlib.Core.List.{List, [], ◌∷◌, ◌++◌}
use lib.Dec.{T, eqb}
use lib.ListN.{length, get_or, drop}
use lib.Seq.{get_or-drop}
use native.Mathlib.Omega.{arith}
use Rattle.layout.specs.declared.Kind.TheVariants as kind
use Rattle.layout.specs.declared.Items.TheVariants.{Numbers, Letters}
use Rattle.layout.specs.Row.{Condition, is, at_least, Row, all, nothing}
use Rattle.layout.specs.Shape.{number, choice, least, rows_of, repeated, span, spans, unrolled}
use Rattle.layout.specs.Table.{define}
use Rattle.layout.specs.Kinds.{table_of}
use Rattle.layout.specs.Write.{idle}
use Rattle.layout.specs.Frame.{rows, places}
use Rattle.rules.specs.Recorded.{call_related, acknowledgement_requested, group_given, group_numbers, options_follow, set_reference, owners_included}
use Rattle.rules.specs.Recorded.{owner_numbers, acknowledged_call, broadcast, letter_count, letters, assignment, radio_numbers}
use Rattle.rules.specs.Recorded.{class_of_usage, attachment_lifetime, temporary_assignment}

-- the places that an order is read from are those that the table itself names
pub places-held : T (all (λ (p : ℕ × ℕ). eqb p.0 p.1) (
    (call_related, define.known.call_related) ∷ (group_given, define.known.given) ∷ (group_numbers, define.known.groups)
    ∷ (options_follow, define.known.o_bit) ∷ (set_reference, define.known.set_reference_given)
    ∷ (owners_included, define.known.owners_included_given) ∷ (owner_numbers, define.known.owners)
    ∷ (acknowledged_call, define.known.acknowledged_call_given) ∷ (broadcast, define.known.broadcast_given)
    ∷ (letter_count, define.known.name_given) ∷ (letters, define.known.name + 1)
    ∷ (assignment, define.known.assignment_given) ∷ (radio_numbers, define.known.radios)
    ∷ (acknowledgement_requested, define.known.acknowledgement_given) ∷ (class_of_usage, define.known.class_given)
    ∷ (attachment_lifetime, define.known.lifetime_given) ∷ (temporary_assignment, define.known.temporary_given) ∷ []))
unfolding span spans
places-held = tt

abbrev pub table : List Row
table = rows kind.Define

abbrev pub row_at : ℕ → Row
row_at k = get_or table k nothing

pub all-rows : length table ≡ places
unfolding rows table_of unrolled rows_of repeated span spans
all-rows = refl

-- ---- an optional element: its P-bit at k, which hangs on the O-bit at 45, and its value behind it ----

-- a value behind its P-bit at k, and a list behind a value that says "yes"
abbrev pub given : ℕ → List Condition
given k = is options_follow 1 ∷ is options_follow 1 ∷ is k 1 ∷ []

abbrev pub said : ℕ → List Condition
said k = is options_follow 1 ∷ is k 1 ∷ is (k + 1) 1 ∷ []

pub record Optional (k : ℕ) (r : Row) : Type 0 where
  pub after : options_follow < k
  pub within : k + 1 < places
  pub flag : row_at k ≡ number 1 (is options_follow 1 ∷ [])
  pub value : row_at (k + 1) ≡ r
  pub carries : idle r ≡ false
  pub hangs : r.hang ≡ given k

pub o-bit-at : row_at options_follow ≡ number 1 []
unfolding rows table_of unrolled rows_of repeated span spans
o-bit-at = refl

pub set-reference-at : Optional set_reference (number 3 (given set_reference))
unfolding rows table_of unrolled rows_of repeated span spans
set-reference-at = record { after = omega arith; within = omega arith; flag = refl; value = refl; carries = refl; hangs = refl }

pub owners-included-at : Optional owners_included (choice 1 2 (given owners_included))
unfolding rows table_of unrolled rows_of repeated span spans
owners-included-at = record { after = omega arith; within = omega arith; flag = refl; value = refl; carries = refl; hangs = refl }

pub acknowledged-call-at : Optional acknowledged_call (choice 1 2 (given acknowledged_call))
unfolding rows table_of unrolled rows_of repeated span spans
acknowledged-call-at = record { after = omega arith; within = omega arith; flag = refl; value = refl; carries = refl; hangs = refl }

pub broadcast-at : Optional broadcast (choice 1 2 (given broadcast))
unfolding rows table_of unrolled rows_of repeated span spans
broadcast-at = record { after = omega arith; within = omega arith; flag = refl; value = refl; carries = refl; hangs = refl }

pub letter-count-at : Optional letter_count (choice 4 16 (given letter_count))
unfolding rows table_of unrolled rows_of repeated span spans
letter-count-at = record { after = omega arith; within = omega arith; flag = refl; value = refl; carries = refl; hangs = refl }

pub assignment-at : Optional assignment (choice 1 2 (given assignment))
unfolding rows table_of unrolled rows_of repeated span spans
assignment-at = record { after = omega arith; within = omega arith; flag = refl; value = refl; carries = refl; hangs = refl }

pub class-of-usage-at : Optional class_of_usage (number 3 (given class_of_usage))
unfolding rows table_of unrolled rows_of repeated span spans
class-of-usage-at = record { after = omega arith; within = omega arith; flag = refl; value = refl; carries = refl; hangs = refl }

pub attachment-lifetime-at : Optional attachment_lifetime (number 2 (given attachment_lifetime))
unfolding rows table_of unrolled rows_of repeated span spans
attachment-lifetime-at = record { after = omega arith; within = omega arith; flag = refl; value = refl; carries = refl; hangs = refl }

pub temporary-assignment-at : Optional temporary_assignment (number 3 (given temporary_assignment))
unfolding rows table_of unrolled rows_of repeated span spans
temporary-assignment-at = record { after = omega arith; within = omega arith; flag = refl; value = refl; carries = refl; hangs = refl }

-- ---- a list of items: its count at t, its items behind it ----

module _ (t : ℕ) (rest : List Row) where
  -- the forms of identities: item j of n, the first of which is item i and begins at the place p
  form-rows : (p i n j : ℕ) → j < n → get_or (repeated Numbers t p i n ++ rest) (4 * j) nothing ≡ choice 2 3 (at_least t (least Numbers (i + j)) ∷ [])
  unfolding repeated
  form-rows p i zero j h = absurd (omega arith)
  form-rows p i (suc n) zero h = let e : i ≡ i + 0 = omega arith in ap (λ (x : ℕ). choice 2 3 (at_least t (least Numbers x) ∷ [])) e
  form-rows p i (suc n) (suc j) h =
      let e : 4 * suc j ≡ suc (suc (suc (suc (4 * j)))) = omega arith in
      let f : i + 1 + j ≡ i + suc j = omega arith in
      ap (λ (x : ℕ). get_or (repeated Numbers t p i (suc n) ++ rest) x nothing) e
      ∙ form-rows (p + 4) (i + 1) n j (omega arith) ∙ ap (λ (x : ℕ). choice 2 3 (at_least t (least Numbers x) ∷ [])) f

  -- a part of theirs, which stands k places behind the form
  part-rows : (k : ℕ) (part : ℕ → Row) → ((p i n : ℕ) → get_or (repeated Numbers t p i (suc n) ++ rest) k nothing ≡ part p)
      → (p i n j : ℕ) → j < n → get_or (repeated Numbers t p i n ++ rest) (4 * j + k) nothing ≡ part (p + 4 * j)
  unfolding repeated
  part-rows k part first p i zero j h = absurd (omega arith)
  part-rows k part first p i (suc n) zero h =
      let e : 4 * 0 + k ≡ k = omega arith in
      let f : p ≡ p + 4 * 0 = omega arith in
      ap (λ (x : ℕ). get_or (repeated Numbers t p i (suc n) ++ rest) x nothing) e ∙ first p i n ∙ ap part f
  part-rows k part first p i (suc n) (suc j) h =
      let e : 4 * suc j + k ≡ suc (suc (suc (suc (4 * j + k)))) = omega arith in
      let f : p + 4 + 4 * j ≡ p + 4 * suc j = omega arith in
      ap (λ (x : ℕ). get_or (repeated Numbers t p i (suc n) ++ rest) x nothing) e
      ∙ part-rows k part first (p + 4) (i + 1) n j (omega arith) ∙ ap part f

  letter-rows : (p i n j : ℕ) → j < n → get_or (repeated Letters t p i n ++ rest) j nothing ≡ number 8 (at_least t (i + j + 1) ∷ [])
  unfolding repeated
  letter-rows p i zero j h = absurd (omega arith)
  letter-rows p i (suc n) zero h = let e : i + 1 ≡ i + 0 + 1 = omega arith in ap (λ (x : ℕ). number 8 (at_least t x ∷ [])) e
  letter-rows p i (suc n) (suc j) h =
      let f : i + 1 + j + 1 ≡ i + suc j + 1 = omega arith in
      letter-rows (p + 1) (i + 1) n j (omega arith) ∙ ap (λ (x : ℕ). number 8 (at_least t x ∷ [])) f

pub record ListAt (t : ℕ) (hang : List Condition) : Type 0 where
  pub count : row_at t ≡ choice 4 11 hang
  pub form : (j : ℕ) → j < 10 → row_at (t + 1 + 4 * j) ≡ choice 2 3 (at_least t (least Numbers j) ∷ [])
  pub ssi : (j : ℕ) → j < 10 → row_at (t + 1 + 4 * j + 2) ≡ number 24 (at_least (t + 1 + 4 * j) 2 ∷ [])
  pub extension : (j : ℕ) → j < 10 → row_at (t + 1 + 4 * j + 3) ≡ number 24 (is (t + 1 + 4 * j) 3 ∷ [])

list_at : (t : ℕ) (hang : List Condition) → row_at t ≡ choice 4 11 hang
    → drop (t + 1) table ≡ repeated Numbers t (t + 1) 0 10 ++ drop (t + 41) table → ListAt t hang
unfolding repeated
list_at t hang c d = record {
  count = c;
  form = λ j h. let e : 0 + j ≡ j = omega arith in
      sym (get_or-drop (t + 1) table (4 * j) nothing) ∙ ap (λ (l : List Row). get_or l (4 * j) nothing) d
      ∙ form-rows t (drop (t + 41) table) (t + 1) 0 10 j h ∙ ap (λ (x : ℕ). choice 2 3 (at_least t (least Numbers x) ∷ [])) e;
  ssi = part 2 (λ x. number 24 (at_least x 2 ∷ [])) (λ p i n. refl);
  extension = part 3 (λ x. number 24 (is x 3 ∷ [])) (λ p i n. refl);
}
  where
    rest : List Row
    rest = drop (t + 41) table

    part : (k : ℕ) (row : ℕ → Row) → ((p i n : ℕ) → get_or (repeated Numbers t p i (suc n) ++ rest) k nothing ≡ row p)
        → (j : ℕ) → j < 10 → row_at (t + 1 + 4 * j + k) ≡ row (t + 1 + 4 * j)
    part k row first j h =
        let e : t + 1 + 4 * j + k ≡ t + 1 + (4 * j + k) = omega arith in
        ap row_at e ∙ sym (get_or-drop (t + 1) table (4 * j + k) nothing) ∙ ap (λ (l : List Row). get_or l (4 * j + k) nothing) d
        ∙ part-rows t rest k row first (t + 1) 0 10 j h

pub given-at : row_at group_given ≡ choice 1 2 []
unfolding rows table_of unrolled rows_of repeated span spans
given-at = refl

pub groups-at : ListAt group_numbers (is group_given 1 ∷ [])
unfolding rows table_of unrolled rows_of repeated span spans
groups-at = list_at group_numbers (is group_given 1 ∷ []) refl refl

pub owners-at : ListAt owner_numbers (said owners_included)
unfolding rows table_of unrolled rows_of repeated span spans
owners-at = list_at owner_numbers (said owners_included) refl refl

pub radios-at : ListAt radio_numbers (said assignment)
unfolding rows table_of unrolled rows_of repeated span spans
radios-at = list_at radio_numbers (said assignment) refl refl

pub letter_at : (j : ℕ) → j < 16 → row_at (letters + j) ≡ number 8 (at_least (letter_count + 1) (j + 1) ∷ [])
unfolding rows table_of unrolled rows_of repeated span spans
letter_at j h =
    let d : drop letters table ≡ repeated Letters (letter_count + 1) letters 0 16 ++ drop assignment table = refl in
    let e : 0 + j + 1 ≡ j + 1 = omega arith in
    sym (get_or-drop letters table j nothing) ∙ ap (λ (l : List Row). get_or l j nothing) d
    ∙ letter-rows (letter_count + 1) (drop assignment table) letters 0 16 j h ∙ ap (λ (x : ℕ). number 8 (at_least (letter_count + 1) x ∷ [])) e
