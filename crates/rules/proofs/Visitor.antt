-- Two radios with one SSI and two extensions are kept apart.
use Prim.Native.Nat.{ℕ}
use mathlib.Core.Path.{◌≡◌, refl, ◌∙◌, ap}
use mathlib.Core.Bool.{Bool, false, cond, ◌&&◌}
use mathlib.Core.List.{List, [], ◌∷◌}
use mathlib.Core.Option.{Option, none, some}
use lib.Dec.{eqb}
use borrow.Author.Tests.{ne_eqb}
use Rattle.rules.specs.Lists.{mem, turned}
use Rattle.rules.specs.Number.{Number, key}
use Rattle.rules.specs.Mark.{Mark}
use Rattle.rules.specs.Order.{Step, define_groups, define_radios, delete_groups}
use Rattle.rules.specs.World.{World}
use Rattle.rules.specs.Effect.{effect}
use Rattle.rules.specs.Change.{after}
use Rattle.rules.specs.Refusals.{accepted}
use Rattle.rules.specs.History.{History, world, refusal_in}
use Rattle.rules.specs.Visitor.{Visitor, About, answers, deassigns, assigns, Apart}
use Rattle.rules.proofs.Tests.{split, and-false}
use Rattle.rules.proofs.Keys.{keys-same}

-- what leaves a mark as it is
pub turned_same : (f : Mark → Option Mark) → ((m : Mark) → f m ≡ some m) → (o : Option Mark) → turned f o ≡ o
turned_same f h none = refl
turned_same f h (some m) = h m

module _ (ours theirs : Number) (v : Visitor ours theirs) where
  apart : eqb (key ours) (key theirs) ≡ false
  apart = keys-same ours theirs v.narrow_ours v.narrow_theirs
      ∙ ap (λ (b : Bool). eqb ours.ssi theirs.ssi && b) (ne_eqb ours.extension theirs.extension v.extension)
      ∙ and-false (eqb ours.ssi theirs.ssi)

  not_listed : (l : List ℕ) → l ≡ key theirs ∷ [] → mem (key ours) l ≡ false
  not_listed l e = ap (mem (key ours)) e ∙ rw apart refl

  -- the effect of such an order on the other's pair
  untouched : (w : World) (s : Step) → About theirs s → (g : ℕ) → (after w (effect w s)).mark g (key ours) ≡ w.mark g (key ours)
  untouched w _ (answers a e) g = turned_same _ (λ m. rw (e, apart, and-false (eqb g (key a.group))) refl) (w.mark g (key ours))
  untouched w _ (deassigns o room d p e) g =
      let none-leaves = and-false (mem g (delete_groups o)) in
      turned_same _
      (λ m. rw (d, p, not_listed _ e) (split o.deassign (λ q. rw (q, none-leaves) refl) (λ q. rw (q, none-leaves) refl)))
      (w.mark g (key ours))
  untouched w _ (assigns o room e) g =
      rw (not_listed (define_radios o) e, and-false (mem g (define_groups o))) (turned_same some (λ m. refl) (w.mark g (key ours)))

  -- the pair's mark after a step that is accepted or not
  abbrev marked : History → Step → ℕ → Bool → Option Mark
  marked h s g taken = (cond taken (after (world h) (effect (world h) s)) (world h)).mark g (key ours)

  pub kept-apart : Apart ours theirs
  kept-apart = record {
    pairs = λ g. rw (apart, and-false (eqb g g)) refl;
    leaves = λ h s a g. split (accepted (refusal_in h s))
        (λ e. ap (λ (b : Bool). marked h s g b) e ∙ untouched (world h) s a g)
        (λ e. ap (λ (b : Bool). marked h s g b) e);
  }
