-- The code's masks, shifts and sums are an additive map, which is two remainders at the powers of 2.
use native.Mathlib.Omega.{arith}
use Rattle.field.specs.Field.{◌⊕◌}
use Rattle.pairs.specs.Shifts.{low, part, up}
use Rattle.pairs.proofs.Lesser.{quotients, lesser}
use Rattle.pairs.proofs.Fold.{lesser_is}
use Rattle.pairs.proofs.reduce_pair.Goals as goal

pub returns : goal.returns
unfolding low part up quotients lesser ◌⊕◌
returns c = lesser_is c.args.v (omega arith)
