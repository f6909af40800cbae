-- The rows of an element that is there, shape by shape.
-- Assumes nothing.
use Prim.Native.Nat.{ℕ, ◌+◌, ◌*◌, ◌^◌, ◌≤◌, ◌<◌}
use mathlib.Core.Path.{◌≡◌, refl, ap, ◌∙◌, subst}
use mathlib.Core.Bool.{true, ◌&&◌}
use mathlib.Core.List.{List, [], ◌∷◌}
use native.Mathlib.Omega.{arith}
use lib.Dec.{T, leb, ltb, leb→le, ltb→lt}
use lib.ListN.{take}
use Rattle.refusal.specs.declared.Refusal.TheVariants.{Reserved, NoGroup, NothingFollows, TypeThree}
use Rattle.layout.specs.declared.Items.{Items}
use Rattle.layout.specs.declared.Items.TheVariants.{Numbers, Letters}
use Rattle.layout.specs.declared.Shape.{Shape}
use Rattle.layout.specs.declared.Shape.TheVariants.{Number, Choice, Identity, Ending, Missing, Nothing}
use Rattle.layout.specs.declared.Shape.TheVariants as shape
use Rattle.layout.specs.Row.{Condition, is, nothing_since, present}
use Rattle.layout.specs.Shape.{No, codes_of, times, stride, rows_of, span}
use Rattle.table.specs.Sound.{sound}
use Rattle.table.proofs.Walks.{Walk}
use Rattle.layout.proofs.Tests.{left, right}

-- ---- shape by shape
pub sound-number : (s : Shape) (p w : ℕ) → s ≡ Number w → T (sound s p) → (0 < w) × (w ≤ 24)
unfolding sound
sound-number s p w e t =
    let u : T (ltb 0 w && leb w 24) = subst (λ (x : Shape). T (sound x p)) e t in
    (ltb→lt 0 w (left (ltb 0 w) (leb w 24) u), leb→le w 24 (right (ltb 0 w) (leb w 24) u))

pub sound-choice : (s : Shape) (p w n : ℕ) → s ≡ Choice w n → T (sound s p) → (0 < w) × (w ≤ 24)
unfolding sound
sound-choice s p w n e t = sound-number (Number w) p w refl (subst (λ (x : Shape). T (sound x p)) e t)

pub sound-missing : (s : Shape) (p q : ℕ) → s ≡ Missing q → T (sound s p) → q < p
unfolding sound
sound-missing s p q e t = ltb→lt q p (subst (λ (x : Shape). T (sound x p)) e t)

pub sound-nothing : (s : Shape) (p o : ℕ) → s ≡ Nothing o → T (sound s p) → o < p
unfolding sound
sound-nothing s p o e t = ltb→lt o p (subst (λ (x : Shape). T (sound x p)) e t)

-- every shape has a row
pub span-some : (s : Shape) → 0 < span s
unfolding span
span-some (Number w) = omega arith
span-some (Choice w n) = omega arith
span-some Identity = omega arith
span-some (shape.List Numbers) = omega arith
span-some (shape.List Letters) = omega arith
span-some Ending = omega arith
span-some (Missing q) = omega arith
span-some (Nothing o) = omega arith

-- the places of a list
pub list-room : (s : Shape) (items : Items) → s ≡ shape.List items → span s ≡ 1 + stride items * times items
unfolding span
list-room s items e = ap span e ∙ omega arith

-- ---- under the element's condition
-- the first row of each shape hangs on it; so what passes without it, passes under it where it holds
pub shape-under : (W : Walk) (s : Shape) (hang : List Condition) (at p : ℕ) (x y : W.State) (r : W.Result) → present (take p (W.values x)) hang ≡ true
    → W.Goes (rows_of s [] p) at p x y r → W.Goes (rows_of s hang p) at p x y r
unfolding rows_of
shape-under W (Number w) hang at p x y r on f = W.under w 0 (2 ^ w) Reserved 0 [] hang [] at p x y r on f
shape-under W (Choice w n) hang at p x y r on f = W.under w 1 n Reserved 0 [] hang [] at p x y r on f
shape-under W Identity hang at p x y r on f = W.under 2 1 3 Reserved 0 [] hang _ at p x y r on f
shape-under W (shape.List items) hang at p x y r on f = W.under 4 1 (codes_of items) Reserved 0 [] hang _ at p x y r on f
shape-under W Ending hang at p x y r on f = W.under 1 0 1 TypeThree 0 [] hang [] at p x y r on f
shape-under W (Missing q) hang at p x y r on f = W.under 0 0 0 NoGroup 1 (is q No ∷ []) hang [] at p x y r on f
shape-under W (Nothing o) hang at p x y r on f = W.under 0 0 0 NothingFollows 1 (nothing_since o ∷ []) hang [] at p x y r on f
