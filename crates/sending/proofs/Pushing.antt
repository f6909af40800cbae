-- Laws of orders laid one behind the other in lent room.
use mathlib.Core.Path.{◌≡◌, sym, ap, ◌∙◌}
use mathlib.Core.List.{List, [], ◌∷◌, ◌++◌, map, append-nil, map-append}
use Prim.Native.Nat.{ℕ, ◌+◌, ◌≤◌, ◌<◌}
use native.Mathlib.Numerals.{add-one}
use native.Mathlib.Omega.{arith}
use borrow.Author.Tests.{le-leb}
use lib.ListN.{length, get_or, set, take, drop, length-append, length-map, take-append-drop, get_or-map}
use lib.Seq.{take-suc, paste, paste-suc, take-length, take-append_seam, drop-append-add, drop-drop}
use Rattle.rules.specs.Lists.{join}
use Rattle.rules.specs.Outgoing.{Outgoing, orders}
use Rattle.rules.proofs.Walks.{join-append}
use Rattle.order.specs.Walks.{onto}
use Rattle.store.specs.Storage.{Rows}
use Rattle.replies.specs.Sending.{order_row}
use Rattle.sending.specs.Pushed.{pushed}

-- rows that fit are laid
pub pushed-fits : (room : Rows) (at : ℕ) (rows : Rows) → at + length rows ≤ length room → pushed room at rows ≡ paste room at rows (length rows)
pushed-fits room at rows h = rw (le-leb (at + length rows) (length room) h)

pub length-rows : (kind g : ℕ) (radios : List ℕ) → length (map order_row (orders kind g radios)) ≡ length radios
length-rows kind g radios = length-map (orders kind g radios) order_row ∙ length-map radios (λ (r : ℕ). record { kind = kind; radio = r; group = g })

pub paste-onto : {A : Type 0} (k s o : List A) (at n : ℕ) → at ≡ length k → n ≡ length s → paste (onto k o) at s n ≡ onto (k ++ s) o
paste-onto k s o at n e m =
    rw (
      e,
      m,
      take-append_seam k (drop (length k) o),
      take-length s,
      drop-append-add k (drop (length k) o) (length s),
      drop-drop (length s)
          (length k) o,
      length-append k s,
    )

-- one more order stands in the room
pub push-turn : (radios : List ℕ) (out out₀ : List (List ℕ)) (at kind g i : ℕ) → i < length radios → at + length radios ≤ length out₀
    → out ≡ paste out₀ at (map order_row (orders kind g radios)) i
    → (row : List ℕ) → row ≡ order_row (record { kind = kind; radio = get_or radios i 0; group = g })
    → set out (at + i) row ≡ paste out₀ at (map order_row (orders kind g radios)) (i + 1)
push-turn radios out out₀ at kind g i h r e row q =
    let rows = map order_row (orders kind g radios) in
    let one : ℕ → Outgoing = λ r. record { kind = kind; radio = r; group = g } in
    let n : length rows ≡ length radios = length-map (orders kind g radios) order_row ∙ length-map radios one in
    let x : get_or rows i (order_row (one 0)) ≡ row = get_or-map order_row (orders kind g radios) i (one 0)
    ∙ ap order_row (get_or-map one radios i 0) ∙ sym q in
    rw add-one (ap (λ (z : List (List ℕ)). set z (at + i) row) e
    ∙ ap (set (paste out₀ at rows i) (at + i)) (sym x)
    ∙ paste-suc out₀ at rows i (order_row (one 0)) (omega arith) (omega arith))

module _ (f : ℕ → List Outgoing) (gs : List ℕ) where
  pub join-turn : (i : ℕ) → i < length gs → join f (take (i + 1) gs) ≡ join f (take i gs) ++ f (get_or gs i 0)
  join-turn i h = rw (add-one, take-suc gs i 0 h, join-append f (take i gs) (get_or gs i 0 ∷ []), append-nil)

  pub join_front : (i : ℕ) → length (join f (take i gs)) ≤ length (join f gs)
  join_front i =
      let e = ap (join f) (sym (take-append-drop i gs)) ∙ join-append f (take i gs) (drop i gs) in
      omega (arith, ap length e, length-append (join f (take i gs)) (join f (drop i gs)))

  -- a turn that lays the next group's orders
  pub send-turn : (out out' out₀ : List (List ℕ)) (i at n : ℕ) → i < length gs → at ≡ length (join f (take i gs)) → n ≡ length (f (get_or gs i 0))
      → out ≡ onto (map order_row (join f (take i gs))) out₀ → out' ≡ paste out at (map order_row (f (get_or gs i 0))) n
      → (at + n ≡ length (join f (take (i + 1) gs))) × (out' ≡ onto (map order_row (join f (take (i + 1) gs))) out₀)
  send-turn out out' out₀ i at n h a m e d =
      let k = join f (take i gs) in
      let s = f (get_or gs i 0) in
      rw (join-turn i h) (
        rw (length-append k s) (omega arith),
        d ∙ ap (λ (z : List (List ℕ)). paste z at (map order_row s) n) e
            ∙ paste-onto (map order_row k) (map order_row s) out₀ at n (a ∙ sym (length-map k order_row)) (m ∙ sym (length-map s order_row))
            ∙ ap (λ (z : List (List ℕ)). onto z out₀) (sym (map-append order_row k s)),
      )
