-- `defining::form_fault` meets its contract.
use mathlib.Core.Path.{ap}
use Rattle.rules.specs.Recorded.{define_of}
use Rattle.defining.specs.declared.parts.Parts.{Parts}
use borrow.Author.Tests.{eq-eqb, ne_eqb}
use Rattle.defining.proofs.refusing.form_fault.Goals as goal

pub returns-then-bad_order : goal.returns-then-bad_order
unfolding define_of
returns-then-bad_order c = rw (← c.bad_order.ensures, c.if-bad_order.true)

pub returns-then-place-eq-YES : goal.returns-then-place-eq-YES
unfolding define_of
returns-then-place-eq-YES c = rw (← c.bad_order.ensures, c.if-bad_order.false, eq-eqb _ _ c.if-place-eq-YES.true)

pub returns : goal.returns
unfolding define_of
returns c = rw (← c.bad_order.ensures, c.if-bad_order.false, ne_eqb _ _ c.if-place-eq-YES.false) (ap (λ (p : Parts). p.fault) c.requires)
