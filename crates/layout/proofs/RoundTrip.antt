-- The round trip, over any table whose rows have no more codes than their bits can hold.
-- Assumes nothing.
use Prim.Native.Nat.{ℕ, ◌+◌, ◌-◌, ◌^◌, ◌≤◌, ◌<◌}
use mathlib.Core.Path.{◌≡◌, refl, ap, sym, ◌∙◌}
use mathlib.Core.Bool.{Bool, true, false, cond, ◌&&◌}
use mathlib.Core.List.{List, [], ◌∷◌, ◌++◌, tail, append_assoc, append-nil}
use native.Mathlib.Nat.{add-sub_cancel_left}
use native.Mathlib.Omega.{arith}
use borrow.Author.Tests.{le-ltb, lt-ltb, ltb-true, ltb-false, leb-true, eqb-true}
use lib.Dec.{T, eqb, leb, ltb, leb→le, ltb→lt, le→leb, lt→ltb}
use lib.ListN.{length, take, drop, get_or, length-append}
use lib.Seq.{take_at, drop_at}
use Rattle.bits.specs.Bits.{digits, value}
use Rattle.bits.proofs.Laws.{length_digits, value-digits, digits-drop}
use Rattle.refusal.specs.declared.Refusal.TheVariants.{EndsInside}
use Rattle.layout.specs.Row.{Row, nothing, bare, fits, all, present, there}
use Rattle.layout.specs.Read.{Answer, frame, refused, Turn, took, stop, turn, next, read_rows}
use Rattle.layout.specs.Write.{Laid, idle, held, lay, good, vals, emit}
use Rattle.layout.proofs.Tests.{left, right, both}

-- ---- one row
pub record Good (r : Row) (v : ℕ) : Type 0 where
  pub low : r.first ≤ v
  pub high : v < r.first + r.codes

pub good→ : (r : Row) (v : ℕ) → T (good (record { row = r; val = v })) → Good r v
good→ r v g =
    record {
      low = leb→le _ _ (left (leb r.first v) (ltb v (r.first + r.codes)) g);
      high = ltb→lt _ _ (right (leb r.first v) (ltb v (r.first + r.codes)) g);
    }

→good : (r : Row) (v : ℕ) → Good r v → T (good (record { row = r; val = v }))
→good r v g = both (leb r.first v) (ltb v (r.first + r.codes)) (le→leb _ _ g.low) (lt→ltb _ _ g.high)

fits-there : (b : Bool) (r : Row) → T (fits r) → T (fits (cond b (bare r) nothing))
fits-there true r f = f
fits-there false r f = tt

-- a good value is laid as it is
held_same : (r : Row) (v : ℕ) → Good r v → held r v ≡ v
held_same r v g = go (eqb r.first 0) (leb r.codes 1) refl refl
  where
    go : (a b : Bool) → eqb r.first 0 ≡ a → leb r.codes 1 ≡ b → cond (a && b) 0 v ≡ v
    go true true d e = omega (arith, eqb-true r.first 0 d, leb-true r.codes 1 e)
    go true false d e = refl
    go false b d e = refl

turn-bits : (r : Row) (v : ℕ) (rest : List Bool) → T (fits r) → Good r v → turn r (digits r.width (v - r.first) ++ rest) ≡ took v
turn-bits r v rest f g =
    let w = r.width in
    let d = v - r.first in
    let small : d < r.codes = omega arith in
    let fit : r.codes ≤ 2 ^ w = leb→le _ _ f in
    let long : w ≤ length (digits w d ++ rest) = simp (length-append, length_digits) (omega arith) in
    rw (le-ltb _ _ long, take_at (digits w d) rest w (length_digits w d), value-digits w d (omega arith), lt-ltb _ _ small)
    (ap took (omega arith))

-- what a row took is good, and its bits are those that the row would write
pub record Took (r : Row) (bits : List Bool) (v : ℕ) : Type 0 where
  pub fine : Good r v
  pub same : digits r.width (v - r.first) ++ drop r.width bits ≡ bits

abbrev pub Taken : Row → List Bool → Turn → Type 0
Taken r bits (took v) = Took r bits v
Taken r bits (stop n back) = Unit {0}

pub taken : (r : Row) (bits : List Bool) → Taken r bits (turn r bits)
taken r bits = go (ltb (length bits) r.width) (ltb code r.codes) refl refl
  where
    code : ℕ
    code = value (take r.width bits)

    go : (a b : Bool) → ltb (length bits) r.width ≡ a → ltb code r.codes ≡ b
        → Taken r bits (cond a (stop EndsInside 0) (cond b (took (r.first + code)) (stop r.refusal r.back)))
    go true b p q = tt
    go false false p q = tt
    go false true p q =
        record {
          fine = record { low = omega arith; high = omega (arith, ltb-true code r.codes q) };
          same = rw (add-sub_cancel_left r.first code) (digits-drop r.width bits (ltb-false (length bits) r.width p));
        }

-- ---- (a) what is written is read
pub read-emit : (rows : List Row) → T (all fits rows) → (done : List ℕ) (at : ℕ) (s : List ℕ) → T (all good (lay rows done s))
    → read_rows rows done at (emit (lay rows done s)) ≡ frame (done ++ vals (lay rows done s))
unfolding read_rows lay vals emit
read-emit [] f done at s g = ap frame (sym (append-nil done))
read-emit (r ∷ rows) f done at s g =
    let h = there done r in
    let v = held h (get_or s 0 0) in
    let more = lay rows (done ++ (v ∷ [])) (tail s) in
    let g₀ = left (good (record { row = h; val = v })) (all good more) g in
    let g₁ = right (good (record { row = h; val = v })) (all good more) g in
    let f₀ = fits-there (present done r.hang) r (left (fits r) (all fits rows) f) in
    let f₁ = right (fits r) (all fits rows) f in
    rw (
      turn-bits h v (emit more) f₀ (good→ h v g₀),
      drop_at (digits h.width (v - h.first)) (emit more) h.width (length_digits h.width (v - h.first)),
      read-emit rows f₁ (done ++ (v ∷ [])) (at + h.width) (tail s) g₁,
    )
    (ap frame (append_assoc done (v ∷ []) (vals more)))

-- ---- (b) what is read is clean and valid, and would be written so
pub record Facts (rows : List Row) (done : List ℕ) (bits : List Bool) (s : List ℕ) : Type 0 where
  pub rest : List ℕ
  pub joined : s ≡ done ++ rest
  pub clean : vals (lay rows done rest) ≡ rest
  pub valid : T (all good (lay rows done rest))
  pub same : emit (lay rows done rest) ≡ bits

abbrev pub Sound : List Row → List ℕ → List Bool → Answer → Type 0
Sound rows done bits (frame s) = Facts rows done bits s
Sound rows done bits (refused n at) = Unit {0}

module _ (r : Row) (rows : List Row) (done : List ℕ) (bits : List Bool) where
  sound-cons : (v : ℕ) (a : Answer) → Took (there done r) bits v → Sound rows (done ++ (v ∷ [])) (drop (there done r).width bits) a
      → Sound (r ∷ rows) done bits a
  unfolding lay vals emit
  sound-cons v (refused n at) t i = tt
  sound-cons v (frame s) t i =
      let h = there done r in
      let k : held h v ≡ v = held_same h v t.fine in
      record {
        rest = v ∷ i.rest;
        joined = i.joined ∙ append_assoc done (v ∷ []) i.rest;
        clean = rw k (ap (λ l. v ∷ l) i.clean);
        valid = rw k (both (good (record { row = h; val = v })) (all good (lay rows (done ++ (v ∷ [])) i.rest)) (→good h v t.fine) i.valid);
        same = rw (k, i.same) t.same;
      }

  sound-next : (p : Turn) (at : ℕ) (go : ℕ → Answer) → Taken (there done r) bits p
      → ((v : ℕ) → Sound rows (done ++ (v ∷ [])) (drop (there done r).width bits) (go v)) → Sound (r ∷ rows) done bits (next p at go)
  sound-next (stop n back) at go t i = tt
  sound-next (took v) at go t i = sound-cons v (go v) t (i v)

pub sound : (rows : List Row) (done : List ℕ) (at : ℕ) (bits : List Bool) → Sound rows done bits (read_rows rows done at bits)
unfolding read_rows lay vals emit
sound [] done at [] = record { rest = []; joined = sym (append-nil done); clean = refl; valid = tt; same = refl }
sound [] done at (b ∷ bits) = tt
sound (r ∷ rows) done at bits =
    let w = (there done r).width in
    sound-next r rows done bits (turn (there done r) bits) at (λ v. read_rows rows (done ++ (v ∷ [])) (at + w) (drop w bits)) (taken (there done r) bits)
    (λ v. sound rows (done ++ (v ∷ [])) (at + w) (drop w bits))

-- ---- unused places: a record and its clean form are laid out alike
held-held : (r : Row) (v : ℕ) → held r (held r v) ≡ held r v
held-held r v = go (idle r)
  where
    go : (b : Bool) → cond b 0 (cond b 0 v) ≡ cond b 0 v
    go true = refl
    go false = refl

pub lay-clean : (rows : List Row) (done s : List ℕ) → lay rows done (vals (lay rows done s)) ≡ lay rows done s
unfolding lay vals
lay-clean [] done s = refl
lay-clean (r ∷ rows) done s =
    let h = there done r in
    let v = held h (get_or s 0 0) in
    rw (held-held h (get_or s 0 0)) (ap (λ (l : List Laid). record { row = h; val = v } ∷ l) (lay-clean rows (done ++ (v ∷ [])) (tail s)))
