-- The code's shifts and sums are the map's.
use Rattle.std.proofs.Common.{refl}
use Rattle.field.specs.Field.{◌⊕◌}
use Rattle.sums.specs.Maps.{upper}
use Rattle.sums.proofs.built_in.above.Goals as goal

pub returns : goal.returns
unfolding upper ◌⊕◌
returns c = refl
