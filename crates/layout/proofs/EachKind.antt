-- What is computed once over the list of kinds holds of each kind: the one place where the kinds are gone through.
-- Assumes nothing.
use mathlib.Core.Path.{◌≡◌}
use mathlib.Core.Bool.{Bool}
use mathlib.Core.List.{List, [], ◌∷◌, map}
use lib.Dec.{T}
use Rattle.layout.specs.declared.Kind.{Kind}
use Rattle.layout.specs.declared.Kind.TheVariants.{Define, DefineAck, Cancel, CancelAck}
use Rattle.layout.specs.declared.Kind.TheVariants.{Assign, AssigningAck, Deassign, DeassigningAck, Delete, DeleteAck}
use Rattle.layout.specs.Row.{all}
use Rattle.layout.specs.Kinds.{kinds}
use Rattle.layout.proofs.Tests.{left, right}

-- something for each of these kinds
abbrev Each : (Kind → Type 0) → List Kind → Type 0
Each P [] = Unit
Each P (kind ∷ more) = P kind × Each P more

every : (P : Kind → Type 0) → Each P kinds → (kind : Kind) → P kind
every P t Define = t.0
every P t DefineAck = t.1.0
every P t Cancel = t.1.1.0
every P t CancelAck = t.1.1.1.0
every P t Assign = t.1.1.1.1.0
every P t AssigningAck = t.1.1.1.1.1.0
every P t Deassign = t.1.1.1.1.1.1.0
every P t DeassigningAck = t.1.1.1.1.1.1.1.0
every P t Delete = t.1.1.1.1.1.1.1.1.0
every P t DeleteAck = t.1.1.1.1.1.1.1.1.1.0

-- a test that all kinds pass
pub every-test : (p : Kind → Bool) → T (all p kinds) → (kind : Kind) → T (p kind)
every-test p t = every (λ kind. T (p kind)) (each kinds t)
  where
    each : (l : List Kind) → T (all p l) → Each (λ kind. T (p kind)) l
    each [] t = tt
    each (kind ∷ l) t = (left (p kind) (all p l) t, each l (right (p kind) (all p l) t))

-- two functions that give all kinds the same
pub every-same : {A : Type 0} (f g : Kind → A) → map f kinds ≡ map g kinds → (kind : Kind) → f kind ≡ g kind
every-same f g e = every (λ kind. f kind ≡ g kind) (each kinds e)
  where
    each : (l : List Kind) → map f l ≡ map g l → Each (λ kind. f kind ≡ g kind) l
    each [] e = tt
    each (kind ∷ l) e = (cc, each l (cc))
