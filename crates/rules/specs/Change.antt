-- What an effect makes of what stands.
use Rattle.std.specs.Prelude.{cond, not, ◌&&◌, ◌||◌}
use Rattle.std.proofs.Math.Option.{some}
use Rattle.rules.specs.Lists.{turned, mem}
use Rattle.rules.specs.Parameters.{no_parameters, replaced}
use Rattle.rules.specs.Owners.{owns_from}
use Rattle.rules.specs.World.{World}
use Rattle.rules.specs.Effect.{Effect}

-- what an accepted step makes of each fact
abbrev pub after : World → Effect → World
after w e = record {
  stands = λ g. mem g e.makes || (not (e.removes g) && w.stands g);
  owner = λ g a. cond (mem g e.makes) (owns_from e.owners (w.owner g a) a) (not (e.removes g) && w.owner g a);
  parameters = λ g. cond (mem g e.makes)
      (replaced e.parameters (w.parameters g))
      (cond (e.removes g) no_parameters (w.parameters g));
  mark = λ g r. cond (mem g e.makes && mem r e.assigns)
      (some e.begins)
      (turned (e.turns g r) (w.mark g r));
}
