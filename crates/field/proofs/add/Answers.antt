-- The sum is exclusive or by its definition.
use Rattle.std.proofs.Common.{refl}
use Rattle.field.specs.Field.{◌⊕◌}
use Rattle.field.proofs.add.Goals as goal

pub returns : goal.returns
unfolding ◌⊕◌
returns c = refl
