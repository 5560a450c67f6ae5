-- Where the rest is under a half the number below is the nearest; at an exact half that or the one above, whichever is even.
use Rattle.std.proofs.Common.{refl, arith}
use Rattle.rounding.proofs.Rounding.{lower, middle}
use Rattle.rounding.proofs.nearest_even.Goals as goal

pub returns-in-Less : goal.returns-in-Less
returns-in-Less c = lower _ _ _ (omega arith) refl (grind (arith, c.in-Less.ensures))

pub returns-in-Equal : goal.returns-in-Equal
returns-in-Equal c = middle _ _ _ (omega arith) (omega arith) (omega arith) (omega arith) (grind (arith, c.in-Equal.ensures))
