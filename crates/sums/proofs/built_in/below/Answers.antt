-- The code's shifts and sums are the map's.
use Rattle.std.proofs.Common.{refl}
use Rattle.field.specs.Field.{◌⊕◌}
use Rattle.pairs.specs.Shifts.{up}
use Rattle.sums.specs.Maps.{lower}
use Rattle.sums.proofs.built_in.below.Goals as goal

pub returns : goal.returns
unfolding up lower ◌⊕◌
returns c = refl
