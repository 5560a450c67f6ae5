-- The code's shifts and sums are the map's.
use mathlib.Core.Path.{refl}
use Rattle.field.specs.Field.{◌⊕◌}
use Rattle.pairs.specs.Shifts.{up}
use Rattle.sums.specs.Maps.{quotient, wrapped}
use Rattle.sums.proofs.built_in.wrap.Goals as goal

pub returns : goal.returns
unfolding up quotient wrapped ◌⊕◌
returns c = refl
