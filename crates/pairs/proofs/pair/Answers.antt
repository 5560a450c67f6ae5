-- Shifts, masks and sums give an additive map, which is the two points' values at the powers of 2.
use mathlib.Core.Path.{◌∙◌}
use Rattle.field.specs.Field.{◌⊕◌}
use Rattle.pairs.specs.Shifts.{low, part, up}
use Rattle.pairs.proofs.Fold.{halves, both, both_is}
use native.Mathlib.Omega.{arith}
use Rattle.pairs.proofs.pair.Goals as goal

pub returns : goal.returns
unfolding low part up halves both ◌⊕◌
returns c = c.reduce_pair.ensures ∙ both_is c.before.args.u (omega arith)
