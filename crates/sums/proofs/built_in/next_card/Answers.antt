-- An additive map, which is a product in each of the two bytes at the powers of 2.
use native.Mathlib.Omega.{arith}
use Rattle.field.specs.Field.{◌⊕◌}
use Rattle.pairs.specs.Shifts.{low, part, up}
use Rattle.sums.specs.Maps.{turned, times, settled}
use Rattle.sums.proofs.Next.{next_is}
use Rattle.sums.proofs.built_in.next_card.Goals as goal

pub returns : goal.returns
unfolding low part up turned times settled ◌⊕◌
returns c = next_is c.args.v (omega arith)
