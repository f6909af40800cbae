-- What a turn says of a pair that the order names, in the documents' terms: the state that it gives, or nothing where it takes the pair away.
use Rattle.std.specs.Prelude.{[], ◌∷◌}
use Rattle.rules.specs.Mark.{Mark, leaving, ticked}
use Rattle.refusal.specs.Says.{Says, accepted}
use Rattle.turning.specs.declared.Turn.{Turn}
use Rattle.turning.specs.declared.Turn.TheVariants.{Tick, Remove, Leave}

abbrev pub turn_says : Turn → Mark → Says
turn_says Tick m = accepted ((ticked m).state ∷ [])
turn_says Remove m = accepted []
turn_says Leave m = accepted (leaving ∷ [])
