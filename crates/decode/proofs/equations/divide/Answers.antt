-- Times the inverse.
use Rattle.decode.proofs.Steps.{quotient}
use native.Mathlib.Omega.{arith}
use Rattle.decode.proofs.equations.divide.Goals as goal

pub returns : goal.returns
returns c = quotient _ _ _ _ (omega arith) c.invert.ensures.1 c.mul.ensures
