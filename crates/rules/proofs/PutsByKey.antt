-- Keys put among entries by rising keys: their order makes no difference; and rising keys put from the last down.
use mathlib.Core.Path.{◌≡◌, refl, sym, ◌∙◌, ap}
use mathlib.Core.Bool.{Bool, true, cond}
use mathlib.Core.List.{List, [], ◌∷◌, ◌++◌}
use mathlib.Core.Option.{Option, none, some}
use Rattle.rules.specs.Lists.{any, rises}
use Rattle.rules.specs.Entries.{find, entry}
use Rattle.rules.specs.Placing.{puts}
use Rattle.rules.specs.ByNumber.{put, lower, by_key}
use Rattle.rules.proofs.Tests.{split}
use Rattle.rules.proofs.Rises.{Over, Climbs}
use Rattle.rules.proofs.ByKey.{Linear, not_back, apart, key-climbs, same_entries, by_key_lem}
use Rattle.rules.proofs.Puts.{puts-append, form-puts, find-puts}

module _ {K X : Type 0} {same below : K → K → Bool} (o : Linear same below) (F : K → X) where
  -- two lists of keys that have the same keys
  pub puts-same : (l : List (K × X)) (a b : List K) → rises (lower below) l ≡ true → ((k : K) → any (same k) a ≡ any (same k) b)
      → puts (by_key below) l a F ≡ puts (by_key below) l b F
  puts-same l a b r h =
      let laws = by_key_lem o in
      let climbs : (ks : List K) → Climbs (lower below) (puts (by_key below) l ks F) =
      λ ks. key-climbs o (puts (by_key below) l ks F) (form-puts same o.sound o.itself (by_key below) laws l ks F r) in
      same_entries o (puts (by_key below) l a F) (puts (by_key below) l b F) (climbs a) (climbs b)
      (λ k. find-puts same o.sound o.itself (by_key below) laws l a F r k
      ∙ ap (λ (t : Bool). cond t (some (F k)) (find same l k)) (h k)
      ∙ sym (find-puts same o.sound o.itself (by_key below) laws l b F r k))

-- ---- a key among entries ----

module _ {K X : Type 0} (below : K → K → Bool) where
  -- the key is above all of them
  abbrev pub Above : K → List (K × X) → Type 0
  Above k [] = Unit {0}
  Above k (e ∷ l) = (below e.0 k ≡ true) × Above k l

  -- the key is below all of them
  abbrev pub Under : K → List (K × X) → Type 0
  Under k [] = Unit {0}
  Under k (e ∷ l) = (below k e.0 ≡ true) × Under k l

  -- keys that are all below the entries
  abbrev pub Clear : List K → List (K × X) → Type 0
  Clear [] l = Unit {0}
  Clear (k ∷ ks) l = Under k l × Clear ks l

module _ {K : Type 0} (below : K → K → Bool) where
  -- keys that are all below another
  abbrev pub Lower : K → List K → Type 0
  Lower k [] = Unit {0}
  Lower k (j ∷ js) = (below j k ≡ true) × Lower k js

  -- the last of rising keys is above all others
  pub climbs-last : (ks : List K) (k : K) → Climbs below (ks ++ (k ∷ [])) → Lower k ks × Climbs below ks
  climbs-last [] k c = (tt, tt)
  climbs-last (j ∷ js) k c = let r = climbs-last js k c.1 in ((last js c.0, r.0), (front js c.0, r.1))
    where
      last : (js : List K) → Over below j (js ++ (k ∷ [])) → below j k ≡ true
      last [] h = h.0
      last (x ∷ js) h = last js h.1

      front : (js : List K) → Over below j (js ++ (k ∷ [])) → Over below j js
      front [] h = tt
      front (x ∷ js) h = (h.0, front js h.1)

-- all keys are below no entries
pub clear_none : {K : Type 0} (X : Type 0) (below : K → K → Bool) (ks : List K) → Clear {K = K} {X = X} below ks []
clear_none X below [] = tt
clear_none X below (k ∷ ks) = (tt, clear_none X below ks)

module _ {K X : Type 0} {same below : K → K → Bool} (o : Linear same below) where
  under-trans : (j k : K) (l : List (K × X)) → below j k ≡ true → Under below k l → Under below j l
  under-trans j k [] h u = tt
  under-trans j k (e ∷ l) h u = (o.carries j k e.0 h u.0, under-trans j k l h u.1)

  -- keys below one that is below the entries, or among them the first
  pub clear-lower : (k : K) (ks : List K) (v : Option X) (l : List (K × X)) → Lower below k ks → Under below k l → Clear below ks (entry k v l)
  clear-lower k [] v l h u = tt
  clear-lower k (j ∷ js) v l h u = (first v, clear-lower k js v l h.1 u)
    where
      first : (v : Option X) → Under below j (entry k v l)
      first none = under-trans j k l h.0 u
      first (some x) = (h.0, under-trans j k l h.0 u)

  -- a key that is below entries is not found among them
  pub find-under : (k : K) (a b : List (K × X)) → Under below k b → find same (a ++ b) k ≡ find same a k
  find-under k [] [] u = refl
  find-under k [] (e ∷ b) u = cc (apart o k e.0 u.0, find-under k [] b u.1)
  find-under k (e ∷ a) b u = split (same k e.0) (λ q. cc) (λ q. cc (find-under k a b u))

  -- put among entries of which the last are above the key, and among entries of which the first are below it
  put_under : (a b : List (K × X)) (k : K) (v : X) → Under below k b → put below (a ++ b) k v ≡ put below a k v ++ b
  put_under [] [] k v u = refl
  put_under [] (e ∷ b) k v u = cc (u.0, not_back o k e.0 u.0)
  put_under (e ∷ a) b k v u = split (below e.0 k)
      (λ h. cc (put_under a b k v u))
      (λ h. split (below k e.0) (λ q. cc) (λ q. cc))

  put-above : (a b : List (K × X)) (k : K) (v : X) → Above below k a → put below (a ++ b) k v ≡ a ++ put below b k v
  put-above [] b k v h = refl
  put-above (e ∷ a) b k v h = cc (h.0, put-above a b k v h.1)

  above-put : (k j : K) (v : X) (l : List (K × X)) → below j k ≡ true → Above below k l → Above below k (put below l j v)
  above-put k j v [] b h = (b, tt)
  above-put k j v (e ∷ l) b h = split (below e.0 j)
      (λ p. rw p (h.0, above-put k j v l b h.1))
      (λ p. split (below j e.0) (λ q. rw (p, q) (b, h)) (λ q. rw (p, q) (b, h.1)))

module _ {K X : Type 0} {same below : K → K → Bool} (o : Linear same below) (F : K → X) where
  puts-clear : (ks : List K) (a b : List (K × X)) → Clear below ks b → puts (by_key below) (a ++ b) ks F ≡ puts (by_key below) a ks F ++ b
  puts-clear [] a b c = refl
  puts-clear (k ∷ ks) a b c =
      ap (λ (l : List (K × X)). puts (by_key below) l ks F) (put_under o a b k (F k) c.0) ∙ puts-clear ks (put below a k (F k)) b c.1

  above-puts : (k : K) (ks : List K) (l : List (K × X)) → Lower below k ks → Above below k l → Above below k (puts (by_key below) l ks F)
  above-puts k [] l h a = a
  above-puts k (j ∷ js) l h a = above-puts k js (put below l j (F j)) h.1 (above-put o k j (F j) l h.0 a)

  -- the last of rising keys comes behind what is below it and before what is above it, in the place of its own entry
  pub puts-last : (ks : List K) (k : K) (v : Option X) (a b : List (K × X)) → Lower below k ks → Above below k a → Under below k b
      → puts (by_key below) (a ++ entry k v b) (ks ++ (k ∷ [])) F ≡ puts (by_key below) a ks F ++ ((k, F k) ∷ b)
  puts-last ks k v a b h low high =
      let p = puts (by_key below) a ks F in
      puts-append (by_key below) (a ++ entry k v b) ks (k ∷ []) F
      ∙ ap (λ (l : List (K × X)). put below l k (F k)) (puts-clear ks a (entry k v b) (clear-lower o k ks v b h high))
      ∙ put-above o p (entry k v b) k (F k) (above-puts k ks a h low)
      ∙ ap (λ (l : List (K × X)). p ++ l) (own v)
    where
      own : (v : Option X) → put below (entry k v b) k (F k) ≡ (k, F k) ∷ b
      own none = put_under o [] b k (F k) high
      own (some x) = cc (o.strict k)
