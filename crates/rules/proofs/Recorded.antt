-- What a DEFINE record says, read off its places: its identities one by one; and a record with every element in it, read whole.
use Prim.Native.Nat.{ℕ, zero, suc, ◌+◌, ◌*◌, ◌<◌}
use mathlib.Core.Path.{◌≡◌, refl, ◌∙◌, ap}
use mathlib.Core.Bool.{Bool, true, false}
use mathlib.Core.List.{List, [], ◌∷◌, ◌++◌}
use mathlib.Core.Option.{some}
use lib.ListN.{length, get_or, replicate}
use native.Mathlib.Omega.{arith}
use Rattle.rules.specs.Number.{Number, Identity, plain, key}
use Rattle.rules.specs.Named.{numbers}
use Rattle.rules.specs.Parameters.{Parameters, no_parameters}
use Rattle.rules.specs.Order.{Define, define_groups, define_radios, define_owners}
use Rattle.rules.specs.Recorded.{identity_at, identities_at, numbers_at, parameters_in, define_of}

-- ---- the identities of a list, one by one ----

pub length-identities : (places : List ℕ) (k n : ℕ) → length (identities_at places k n) ≡ n
length-identities places k zero = refl
length-identities places k (suc n) = ap suc (length-identities places (k + 4) n)

pub identities-at : (places : List ℕ) (k n i : ℕ) (d : Identity) → i < n → get_or (identities_at places k n) i d ≡ identity_at places (k + 4 * i)
identities-at places k zero i d h = absurd (omega arith)
identities-at places k (suc n) zero d h = let e : k ≡ k + 4 * 0 = omega arith in ap (identity_at places) e
identities-at places k (suc n) (suc i) d h =
    let e : k + 4 + 4 * i ≡ k + 4 * suc i = omega arith in
    identities-at places (k + 4) n i d (omega arith) ∙ ap (identity_at places) e

-- ---- a record read whole, and the same without its options ----

-- n places that are not in use, then others
abbrev spare : ℕ → List ℕ → List ℕ
spare n l = replicate n 0 ++ l

-- no call; group 5; the O-bit; set reference 3; owners 7 and 8, this with an extension; acknowledged call yes; broadcast no;
-- name AB; assign radio 9; acknowledgement requested; class 5; lifetime 2; temporary 6
abbrev places : ℕ → List ℕ
places options =
    2 ∷ 0 ∷ 1 ∷ 0 ∷ 1 ∷ 2 ∷ 0 ∷ 5 ∷ 0 ∷ spare 36 (options ∷ 1 ∷ 3 ∷ 1 ∷ 1 ∷ 3 ∷ 2 ∷ 0 ∷ 7 ∷ 0 ∷ 3 ∷ 0 ∷ 8 ∷ 100 ∷ spare 32 (1 ∷ 1 ∷ 1 ∷ 2
    ∷ 1 ∷ 2 ∷ 65 ∷ 66 ∷ spare 14 (1 ∷ 1 ∷ 1 ∷ 2 ∷ 0 ∷ 9 ∷ 0 ∷ spare 36 (1 ∷ 1 ∷ 1 ∷ 5 ∷ 1 ∷ 2 ∷ 1 ∷ 6 ∷ spare 2 []))))

all-places : length (places 1) ≡ 166
all-places = refl

-- the order that a record says, part by part
pub record Says (o : Define) (gs os rs : List ℕ) (requested : Bool) (ps : Parameters) : Type 0 where
  pub call : o.call ≡ false
  pub groups : define_groups o ≡ gs
  pub owners : define_owners o ≡ os
  pub radios : define_radios o ≡ rs
  pub acknowledgement : o.acknowledgement ≡ requested
  pub parameters : o.parameters ≡ ps

-- asker 1 of extension 4, which the plain numbers take
abbrev ours : ℕ → Number
ours = plain 4

pub with-options : let owners = key (ours 1) ∷ key (ours 7) ∷ key (plain 100 8) ∷ [] in
    Says (define_of (ours 1) (places 1)) (key (ours 5) ∷ []) owners (key (ours 9) ∷ []) true (record {
      set_reference = some 3;
      acknowledged_call = some 0;
      broadcast = some 1;
      name = some (65 ∷ 66 ∷ []);
      class = some 5;
      lifetime = some 2;
      temporary = some 6;
    })
unfolding define_of numbers_at parameters_in key numbers
with-options = record { call = refl; groups = refl; owners = refl; radios = refl; acknowledgement = refl; parameters = refl }

pub without-options : Says (define_of (ours 1) (places 0)) (key (ours 5) ∷ []) (key (ours 1) ∷ []) [] false no_parameters
unfolding define_of numbers_at parameters_in key numbers
without-options = record { call = refl; groups = refl; owners = refl; radios = refl; acknowledgement = refl; parameters = refl }
