-- The largest lengths are reached: each kind has a record that is as long.
-- Assumes nothing.
use Prim.Native.Nat.{ℕ, ◌^◌}
use mathlib.Core.Path.{◌≡◌, refl}
use mathlib.Core.List.{List}
use lib.Dec.{T, ltb}
use lib.ListN.{length}
use Rattle.layout.specs.declared.Kind.{Kind}
use Rattle.layout.specs.Row.{all, present}
use Rattle.layout.specs.Shape.{span, spans, rows_of, repeated, unrolled}
use Rattle.layout.specs.Kinds.{table_of}
use Rattle.layout.specs.Write.{lay}
use Rattle.layout.specs.Frame.{rows, places, valid}
use Rattle.layout.specs.Length.{items_length, shape_length, elements_length, frame_length}
use Rattle.layout.specs.Figures.{largest_length}
use Rattle.layout.specs.Fullest.{full, full_of, fullest}
use Rattle.layout.proofs.EachKind.{every-test, every-same}

-- a record as it is handed over: all its places, and values of 32 bits
pub record Reaches (kind : Kind) (s : List ℕ) : Type 0 where
  pub size : length s ≡ places
  pub words : T (all (λ v. ltb v (2 ^ 32)) s)
  pub fine : T (valid kind s)
  pub long : frame_length kind s ≡ largest_length kind

-- each computed once over all kinds
pub reached : (kind : Kind) → Reaches kind (fullest kind)
unfolding fullest full_of full valid lay present rows unrolled rows_of repeated span spans table_of
    items_length shape_length elements_length frame_length largest_length
reached kind =
    record {
      size = every-same (λ kind. length (fullest kind)) (λ kind. places) refl kind;
      words = every-test (λ kind. all (λ v. ltb v (2 ^ 32)) (fullest kind)) tt kind;
      fine = every-test (λ kind. valid kind (fullest kind)) tt kind;
      long = every-same (λ kind. frame_length kind (fullest kind)) largest_length refl kind;
    }
