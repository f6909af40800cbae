-- What passed the tests of BadOrder and FormNotTaken is within the ranges of the written form.
use Prim.Native.Nat.{ℕ, suc, ◌+◌, ◌≤◌, ◌<◌}
use mathlib.Core.Path.{◌≡◌, refl, sym, ◌∙◌, ap}
use mathlib.Core.Bool.{Bool, true, false, not, ◌&&◌, ◌||◌}
use mathlib.Core.List.{List, [], ◌∷◌, map}
use mathlib.Core.Option.{Option, none, some}
use lib.Dec.{eqb, ltb, leb}
use lib.ListN.{length}
use native.Mathlib.Omega.{arith}
use borrow.Author.Tests.{eqb-true, eqb-false, leb-false, le-leb, lt-leb, lt-ltb}
use Rattle.rules.specs.Lists.{any, mem, once}
use Rattle.rules.specs.Number.{Number, Identity, Numbers, used, key, identified, identity_key}
use Rattle.rules.specs.Named.{span, range, spelled, numbers, numbers_in}
use Rattle.rules.specs.Number.{wide, wide_number, key_limit, wide_key, bad_identity, bad_list, short, untaken}
use Rattle.rules.specs.Parameters.{Parameters, over, replaced, too_large, bad_name, bad_parameters}
use Rattle.rules.specs.Mark.{Mark, confirmed, leaving, would_not_leave, fresh, begun, T1, timed, expired, ticked, answered}
use Rattle.rules.specs.Placing.{Placing, Lawful}
use Rattle.rules.specs.Owners.{max_owners}
use Rattle.rules.specs.Order.{Delete, asker_and, awaits}
use Rattle.rules.specs.Effect.{parted}
use Rattle.rules.specs.declared.AnswerKind.{AnswerKind}
use Rattle.rules.specs.declared.AnswerKind.TheVariants.{Assignment, Deassignment}
use Rattle.rules.specs.Written.{good_owners, good_mark}
use Rattle.rules.proofs.Tests.{split, clash, and_in, or-second, or-in, or_l, or_r, not_in}
use Rattle.rules.proofs.Keys.{key-narrow}
use Rattle.rules.proofs.Consecutive.{consecutive-mem}
use Rattle.rules.proofs.ListLaws.{eqb_same, mem-once, once-once, once-same, length-once, all-mem, any-no}

-- ---- numbers ----

module _ (home : ℕ) where
  -- a good identity that is no SNA names a number in range, where the asker's extension is
  pub identity-narrow : (i : Identity) → wide home ≡ false → bad_identity i ≡ false → short i ≡ false → wide_number (identified home i) ≡ false
  identity-narrow i w b f = split (eqb i.form 2)
      (λ e. rw e (or-in (wide i.ssi) (wide i.extension) ssi (cc (e, extension))))
      (λ e. rw e (or-in (wide i.ssi) (wide home) ssi w))
    where
      positive : (n : ℕ) → (n ≡ 0 → ⊥) → 0 < n
      positive n h = omega arith

      parts : ((ltb 0 i.form && wide i.ssi) || (eqb i.form 2 && wide i.extension)) ≡ false
      parts = or_r (ltb 2 i.form) _ b

      ssi : wide i.ssi ≡ false
      ssi = cc (or_l (ltb 0 i.form && wide i.ssi) _ parts, lt-ltb 0 i.form (positive i.form (eqb-false i.form 0 f)))

      extension : (eqb i.form 2 && wide i.extension) ≡ false
      extension = or_r (ltb 0 i.form && wide i.ssi) _ parts

  keys-narrow : (l : List Identity) → wide home ≡ false → any bad_identity l ≡ false → any short l ≡ false
      → (x : ℕ) → mem x (map (identity_key home) l) ≡ true → wide_key x ≡ false
  keys-narrow [] w b f x e = clash (sym e)
  keys-narrow (i ∷ l) w b f x e = split (eqb x (identity_key home i))
      (λ q. ap wide_key (eqb-true x (identity_key home i) q)
      ∙ key-narrow (identified home i) (identity-narrow i w (any-no bad_identity i l b).0 (any-no short i l f).0))
      (λ q. keys-narrow l w (any-no bad_identity i l b).1 (any-no short i l f).1 x (cc))

  -- no key of a range is above its last
  range-narrow : (l : List ℕ) → ((x : ℕ) → mem x l ≡ true → wide_key x ≡ false) → (x : ℕ) → mem x (range l) ≡ true → wide_key x ≡ false
  range-narrow [] h x e = clash (sym e)
  range-narrow (first ∷ []) h x e = clash (sym e)
  range-narrow (first ∷ last ∷ more) h x e =
      let low = leb-false key_limit last (h last (or-second (eqb last first) (mem last (last ∷ more)) (cc (eqb_same last)))) in
      let within = consecutive-mem first (span first last) x e in
      lt-leb key_limit x (omega arith)

  -- a list that passed both has numbers in range
  pub numbers-narrow : (n : Option Numbers) → wide home ≡ false → bad_list n ≡ false → untaken n ≡ false
      → (x : ℕ) → mem x (numbers_in home n) ≡ true → wide_key x ≡ false
  unfolding numbers
  numbers-narrow none w b u x e = clash (sym e)
  numbers-narrow (some n) w b u x e = split (eqb n.code 1)
      (λ q. range-narrow keys each x (cc (mem-once x (spelled n.code keys))))
      (λ q. each x (cc (mem-once x (spelled n.code keys))))
    where
      keys : List ℕ
      keys = map (identity_key home) (used n)

      each : (x : ℕ) → mem x keys ≡ true → wide_key x ≡ false
      each = keys-narrow (used n) w (or_r (ltb 10 n.code) (any bad_identity (used n)) b) u

-- ---- owners ----

-- one at least, and no more than may be, entered by a lawful placing
pub owners-good : (p : Placing) → Lawful p → (l : List ℕ) (a : ℕ) → mem a l ≡ true → length (p.owners.entered l) ≤ max_owners
    → ((x : ℕ) → mem x l ≡ true → wide_key x ≡ false) → good_owners p (p.owners.entered l) ≡ true
owners-good p laws l a there few n =
    let os = p.owners.entered l in
    and_in (lt-ltb 0 (length os) (mem-some a os (laws.owners.holds a l ∙ there)))
    (and_in (le-leb (length os) max_owners few)
    (and_in (laws.owners.stays l)
    (all-mem (λ a. not (wide_key a)) os (λ x e. not_in (wide_key x) (n x (sym (laws.owners.holds x l) ∙ e))))))
  where
    mem-some : (a : ℕ) (l : List ℕ) → mem a l ≡ true → 0 < length l
    mem-some a [] e = clash (sym e)
    mem-some a (x ∷ l) e = omega arith

-- the asker and those listed: in range, and at most one more than are listed
pub asker-narrow : (asker : Number) (n : Option Numbers) → wide_number asker ≡ false → bad_list n ≡ false → untaken n ≡ false
    → (x : ℕ) → mem x (asker_and asker n) ≡ true → wide_key x ≡ false
asker-narrow asker n a b u x e = split (eqb x (key asker))
    (λ f. ap wide_key (eqb-true x (key asker) f) ∙ key-narrow asker a)
    (λ f. numbers-narrow asker.extension n (or_r (wide asker.ssi) (wide asker.extension) a) b u x
    (cc (sym e, mem-once x (key asker ∷ numbers_in asker.extension n))))

pub asker-few : (p : Placing) → Lawful p → (asker : Number) (n : Option Numbers)
    → length (p.owners.entered (asker_and asker n)) ≤ suc (length (numbers_in asker.extension n))
asker-few p laws asker n =
    let l = key asker ∷ numbers_in asker.extension n in
    let count = laws.owners.counted (once l) ∙ ap length (once-same (once l) (once-once l)) in
    omega (arith, count, length-once l)

pub asker-among : (asker : Number) (n : Option Numbers) → mem (key asker) (asker_and asker n) ≡ true
asker-among asker n = mem-once (key asker) (key asker ∷ numbers_in asker.extension n) ∙ cc (eqb_same (key asker))

-- ---- parameters ----

over-small : (codes : ℕ) (new old : Option ℕ) → too_large codes new ≡ false → too_large codes old ≡ false → too_large codes (over new old) ≡ false
over-small codes none old p q = q
over-small codes (some v) old p q = p

over-name : (new old : Option (List ℕ)) → bad_name new ≡ false → bad_name old ≡ false → bad_name (over new old) ≡ false
over-name none old p q = q
over-name (some v) old p q = p

-- a list of seven tests none of which holds
seven : (a b c d e f g : Bool) → any (λ (b : Bool). b) (a ∷ b ∷ c ∷ d ∷ e ∷ f ∷ g ∷ []) ≡ false
    → (a ≡ false) × (b ≡ false) × (c ≡ false) × (d ≡ false) × (e ≡ false) × (f ≡ false) × (g ≡ false)
seven a b c d e f g h =
    let h₁ = any-no (λ (b : Bool). b) a (b ∷ c ∷ d ∷ e ∷ f ∷ g ∷ []) h in
    let h₂ = any-no (λ (b : Bool). b) b (c ∷ d ∷ e ∷ f ∷ g ∷ []) h₁.1 in
    let h₃ = any-no (λ (b : Bool). b) c (d ∷ e ∷ f ∷ g ∷ []) h₂.1 in
    let h₄ = any-no (λ (b : Bool). b) d (e ∷ f ∷ g ∷ []) h₃.1 in
    let h₅ = any-no (λ (b : Bool). b) e (f ∷ g ∷ []) h₄.1 in
    let h₆ = any-no (λ (b : Bool). b) f (g ∷ []) h₅.1 in
    (h₁.0, h₂.0, h₃.0, h₄.0, h₅.0, h₆.0, (any-no (λ (b : Bool). b) g [] h₆.1).0)

-- each parameter is within its range
pub record InRange (p : Parameters) : Type 0 where
  pub set_reference : too_large 8 p.set_reference ≡ false
  pub acknowledged_call : too_large 2 p.acknowledged_call ≡ false
  pub broadcast : too_large 2 p.broadcast ≡ false
  pub name : bad_name p.name ≡ false
  pub class : too_large 8 p.class ≡ false
  pub lifetime : too_large 4 p.lifetime ≡ false
  pub temporary : too_large 8 p.temporary ≡ false

pub in-range : (p : Parameters) → bad_parameters p ≡ false → InRange p
in-range p h =
    let t = seven (too_large 8 p.set_reference) (too_large 2 p.acknowledged_call) (too_large 2 p.broadcast) (bad_name p.name)
    (too_large 8 p.class) (too_large 4 p.lifetime) (too_large 8 p.temporary) h in
    record { set_reference = t.0; acknowledged_call = t.1; broadcast = t.2; name = t.3; class = t.4; lifetime = t.5; temporary = t.6 }

pub replaced-good : (new old : Parameters) → bad_parameters new ≡ false → bad_parameters old ≡ false → bad_parameters (replaced new old) ≡ false
replaced-good new old h k =
    let a = in-range new h in
    let b = in-range old k in
    cc (
      over-small 8 new.set_reference old.set_reference a.set_reference b.set_reference,
      over-small 2 new.acknowledged_call old.acknowledged_call a.acknowledged_call b.acknowledged_call,
      over-small 2 new.broadcast old.broadcast a.broadcast b.broadcast,
      over-name new.name old.name a.name b.name,
      over-small 8 new.class old.class a.class b.class,
      over-small 4 new.lifetime old.lifetime a.lifetime b.lifetime,
      over-small 8 new.temporary old.temporary a.temporary b.temporary,
    )

-- ---- marks ----

pub begun-good : (acknowledgement : Bool) → good_mark (begun acknowledgement) ≡ true
begun-good true = refl
begun-good false = refl

expired-good : (state : ℕ) → good_mark (fresh (expired state)) ≡ true
expired-good state = split (eqb state leaving) (λ e. rw e refl) (λ e. rw e refl)

pub ticked-good : (m : Mark) → good_mark m ≡ true → good_mark (ticked m) ≡ true
ticked-good m h = split (timed m.state)
    (λ e. split (leb T1 (m.ticks + 1))
    (λ f. cc (expired-good m.state))
    (λ f. cc (lt-ltb (m.ticks + 1) T1 (leb-false T1 (m.ticks + 1) f))))
    (λ e. cc)

-- what is left where something is
pub left-good : (m m' : Mark) → good_mark m ≡ true → some m ≡ some m' → good_mark m' ≡ true
left-good m m' h e = let q : m ≡ m' = cc in sym (ap good_mark q) ∙ h

pub answered-good : (kind : AnswerKind) (result : ℕ) (m : Mark) → answered kind result ≡ some m → good_mark m ≡ true
answered-good Assignment result m e = split (eqb result 1) (λ y. left-good (fresh confirmed) m refl (cc)) (λ n. clash (cc))
answered-good Deassignment result m e = split (eqb result 1) (λ y. clash (cc)) (λ n. left-good (fresh would_not_leave) m refl (cc))

pub parted-good : (o : Delete) (m : Mark) → parted o ≡ some m → good_mark m ≡ true
parted-good o m e = split (awaits o) (λ y. left-good (fresh leaving) m refl (cc)) (λ n. clash (cc))
