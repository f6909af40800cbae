-- `deleting::Pairs::push_all` meets its contract.
use mathlib.Core.Path.{◌≡◌, sym, ap, ◌∙◌}
use mathlib.Core.List.{List, map}
use native.Mathlib.Omega.{arith}
use Prim.Native.Nat.{ℕ, ◌-◌}
use lib.ListN.{length, take, drop, length-map}
use lib.Seq.{paste}
use borrow.Author.Rules.{rules}
use Rattle.rules.specs.Ledger.{radios_of}
use Rattle.store.specs.Storage.{pair_of}
use Rattle.deleting.specs.Deassigned.{deassign_rows, radio_in}
use Rattle.deleting.proofs.DeassignedLaws.{Spans, spans}
use Rattle.deleting.proofs.deassigned.Pairs.push_all.Goals as goal
use Rattle.deleting.proofs.deassigned.Pairs.push_all.Goals.{After-stretch_of-stretch}

stretch : (c : After-stretch_of-stretch) → Spans c.args.self.rows.now c.args.group.0 c.stretch_of-stretch.result
stretch c = spans c.args.self.rows.now c.args.self.stretches c.args.group.0 c.stretch_of-stretch.result c.stretch_of-stretch.ensures

-- as many rows as the group has radios
rows : (c : After-stretch_of-stretch) →
    let s = c.stretch_of-stretch.result in
    length (take (s.to - s.from) (drop s.from c.args.self.rows.now)) ≡ length (radios_of c.args.group.0 (map pair_of c.args.self.rows.now))
rows c =
    let s = c.stretch_of-stretch.result in
    sym (length-map (take (s.to - s.from) (drop s.from c.args.self.rows.now)) radio_in) ∙ ap length (stretch c).radios

pub offset_bounds-self-stretch : goal.offset_bounds-self-stretch
offset_bounds-self-stretch c =
    let s = stretch (goal.at.offset_bounds-self-stretch c).After-stretch_of-stretch in
    let o = s.ordered in
    let i = s.inside in
    search rules

pub slice_bounds-rows-count : goal.slice_bounds-rows-count
slice_bounds-rows-count c = (stretch (goal.at.slice_bounds-rows-count c).After-stretch_of-stretch).ordered

pub slice_bounds-rows-start : goal.slice_bounds-rows-start
slice_bounds-rows-start c = (stretch (goal.at.slice_bounds-rows-start c).After-stretch_of-stretch).ordered

pub slice_bounds-rows-end : goal.slice_bounds-rows-end
slice_bounds-rows-end c = (stretch (goal.at.slice_bounds-rows-end c).After-stretch_of-stretch).inside

pub push_rows-requires : goal.push_rows-requires
push_rows-requires c = let d = (goal.at.push_rows-requires c).After-stretch_of-stretch in omega (arith, rows d, c.requires)

pub returns : goal.returns
returns c =
    let d = (goal.at.returns c).After-stretch_of-stretch in
    let a = c.args in
    let n = length (take (c.stretch_of-stretch.result.to - c.stretch_of-stretch.result.from) (drop c.stretch_of-stretch.result.from a.self.rows.now)) in
    (rows d, c.push_rows.ensures ∙ ap (λ (l : List ℕ). paste a.out.now a.at (deassign_rows a.group.0 l) n) (stretch d).radios)
