-- The row that is put is the row of the group after the define.
use mathlib.Core.Path.{◌≡◌, refl, sym, ap, subst, ◌∙◌}
use mathlib.Core.Bool.{true, false, true≢false}
use mathlib.Core.List.{List, [], ◌++◌}
use mathlib.Core.Option.{Option, none, some}
use Prim.Native.Nat.{ℕ, ◌+◌, ◌≤◌, ◌<◌}
use native.Mathlib.Omega.{arith}
use lib.Dec.{eqb}
use lib.ListN.{length, get_or, take, drop, replicate}
use lib.Seq.{get_or_at, length-take-le}
use Rattle.rules.specs.Lists.{present, mem, rising, Rising}
use Rattle.rules.specs.Owners.{added}
use Rattle.rules.specs.Parameters.{Parameters, no_parameters, replaced, bad_name}
use Rattle.rules.specs.Recorded.{optional_name, parameters_in}
use Rattle.rules.specs.Entries.{find}
use Rattle.rules.specs.Ledger.{Group}
use Rattle.rules.specs.Steps.{group_after}
use Rattle.rules.proofs.ListLaws.{rising-same}
use Rattle.rules.proofs.ByNumber.{numbers-linear}
use Rattle.rows.specs.Layout.{group_words}
use Rattle.order.specs.Row.{order_row_of}
use Rattle.store.specs.Lists.{Plain}
use Rattle.store.specs.Storage.{Rows, placing, group_of, group_row, groups_of}
use Rattle.std.specs.Prelude.{Result}
use Rattle.std.specs.Prelude.{Ok, Err}
use Rattle.store.proofs.Rows.{length-items}
use Rattle.store.proofs.HalvingLaws.{item-at}
use Rattle.store.proofs.Parting.{Parted}
use Rattle.making.specs.Row.{made_row}
use Rattle.making.proofs.Making.{made-is, blank-row}
use Rattle.making.proofs.OrderRows.{order_row, order-group}
use Rattle.defining.specs.Groups.{made_group, row_for, Grows, FineOrder}
use Rattle.defining.specs.Joining.{Fits}

-- the order's row of a record with a good name
pub order-fine : (places : List ℕ) → bad_name (optional_name places) ≡ false → FineOrder (order_row_of places)
unfolding parameters_in
order-fine places good =
    let back = ap (λ (e : ℕ × Group). e.1.parameters) (order-group places good) in
    record {
      name = rw back good;
      plain = ap (λ (p : Parameters). group_row (0, record { owners = []; parameters = p })) back ∙ sym (order_row places);
    }

-- a named group's row at its place, or none: there is room for its owners, and the row for it is that of the group by the law
module _ (l : List (ℕ × Group)) (named come : List ℕ) (w : Grows l named come) (rows : Rows) (left g : ℕ) (m : mem g named ≡ true)
    (order : List ℕ) (o : FineOrder order) (h : left ≤ length rows) (plain : Plain group_of group_row left rows)
    (same : find eqb (groups_of left rows) g ≡ find eqb l g) where
  abbrev new : Parameters
  new = (group_of order).1.parameters

  -- the row that stands at the place is the group's
  record Own (i : ℕ) : Type 0 where
    inside : i < left
    group : Group
    says : group_of (get_or rows i []) ≡ (g, group)
    found : find eqb l g ≡ some group

  own : (i : ℕ) → Parted numbers-linear g (groups_of left rows) (Ok i) → Own i
  own i p = go (find eqb (groups_of left rows) g) refl p.stands
    where
      n : length (groups_of left rows) ≡ left
      n = length-items group_of group_row rows left h

      go : (v : Option Group) → find eqb (groups_of left rows) g ≡ v → true ≡ present v → Own i
      go none q e = absurd (true≢false e)
      go (some x) q e =
          let inside : i < left = omega (arith, p.inside, n) in
          let at : get_or (groups_of left rows) i (group_of []) ≡ (g, x) =
          ap (λ (z : List (ℕ × Group)). get_or z i (group_of [])) (rw q at p.parts)
          ∙ get_or_at (take i (groups_of left rows)) (g, x) (drop (i + 1) (groups_of left rows)) (group_of []) i
          (length-take-le i (groups_of left rows) (omega (arith, n))) in
          record { inside = inside; group = x; says = sym (item-at group_of rows left i inside) ∙ at; found = sym same ∙ q }

  pub row_fits : (place : Result ℕ ℕ) → Parted numbers-linear g (groups_of left rows) place → Fits place rows come
  row_fits (Err i) p = tt
  row_fits (Ok i) p =
      let r = own i p in
      let os = ap (λ (e : ℕ × Group). e.1.owners) r.says in
      record {
        rises = subst Rising (sym os) (w.fine g r.group r.found).1;
        few = rw os (w.few g r.group m r.found);
      }

  made-anew : (i : ℕ) → Own i
      → made_row g order (get_or rows i []) (rising ((group_of (get_or rows i [])).1.owners ++ come)) ≡ group_row (g, made_group come new l g)
  made-anew i r =
      let x = r.group in
      let os = rising (x.owners ++ come) in
      ap (λ (z : List ℕ). made_row g order (get_or rows i []) (rising (z ++ come))) (ap (λ (e : ℕ × Group). e.1.owners) r.says)
      ∙ (λ t. made_row g (sym o.plain t) ((sym (plain i r.inside) ∙ ap group_row r.says) t) os)
      ∙ made-is g g new x os o.name (w.fine g x r.found).0 (w.few g x m r.found)
      ∙ ap (λ (v : Option Group). group_row (g, group_after placing (added come) new v)) (sym r.found)

  made-first : find eqb l g ≡ none → made_row g order (replicate group_words 0) come ≡ group_row (g, made_group come new l g)
  made-first q =
      (λ t. made_row g (sym o.plain t) (blank-row t) come)
      ∙ made-is g 0 new (record { owners = []; parameters = no_parameters }) come o.name (refl, omega arith) w.fits
      ∙ ap (λ (os : List ℕ). group_row (g, record { owners = os; parameters = replaced new no_parameters })) (sym (rising-same come w.rises))
      ∙ ap (λ (v : Option Group). group_row (g, group_after placing (added come) new v)) (sym q)

  pub row_made : (place : Result ℕ ℕ) → Parted numbers-linear g (groups_of left rows) place
      → row_for place g order come rows ≡ group_row (g, made_group come new l g)
  row_made (Err i) p = made-first (sym same ∙ missing (find eqb (groups_of left rows) g) p.stands)
    where
      missing : (v : Option Group) → false ≡ present v → v ≡ none
      missing none e = refl
      missing (some x) e = absurd (true≢false (sym e))
  row_made (Ok i) p = made-anew i (own i p)
