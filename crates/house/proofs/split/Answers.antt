-- `house::split` meets its contract: a line with a heading is long enough, and its part starts behind six digits.
use mathlib.Core.Path.{sym, ◌∙◌}
use native.Mathlib.Omega.{arith}
use Rattle.house.proofs.Headings.{long-enough, split-frame, split-bad}
use Rattle.house.proofs.split.Goals as goal

pub slice_bounds-result-count : goal.slice_bounds-result-count
slice_bounds-result-count c = let long = long-enough _ _ (sym c.heading.ensures ∙ c.in-Some.is) in omega arith

pub slice_bounds-result-start : goal.slice_bounds-result-start
slice_bounds-result-start c = let long = long-enough _ _ (sym c.heading.ensures ∙ c.in-Some.is) in omega arith

pub returns-in-Some : goal.returns-in-Some
returns-in-Some c = split-frame _ _ (sym c.heading.ensures ∙ c.in-Some.is)

pub returns-in-None : goal.returns-in-None
returns-in-None c = split-bad _ (sym c.heading.ensures ∙ c.in-None.is)
