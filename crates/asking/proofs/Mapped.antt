-- A turn of a walk that lays what is made of each element onto the front of a room.
use mathlib.Core.Path.{◌≡◌, sym, ◌∙◌}
use mathlib.Core.List.{List, map}
use Prim.Native.Nat.{ℕ, ◌+◌, ◌≤◌, ◌<◌}
use lib.ListN.{length, get_or, take, set, length-map, get_or-map}
use native.Mathlib.Omega.{arith}
use Rattle.order.specs.Walks.{onto}
use Rattle.order.proofs.Copying.{copy-turn}

pub map-turn : {A B : Type 0} (f : A → B) (l : List A) (room out : List B) (i : ℕ) (x : B) (d : A) → i < length l → length l ≤ length room
    → out ≡ onto (take i (map f l)) room → x ≡ f (get_or l i d)
    → (length (set out i x) ≡ length room) × (set out i x ≡ onto (take (i + 1) (map f l)) room)
map-turn f l room out i x d p q e h =
    copy-turn (map f l) room out i x (f d) (omega (arith, length-map l f)) (omega (arith, length-map l f)) e (h ∙ sym (get_or-map f l i d))
