-- The map and the bytes behind it, up to p, are within their limits.
use Prim.Native.Nat.{◌+◌}
use Rattle.slip.proofs.Judging.{Judged}
use Rattle.slip.proofs.read.Given as goal

abbrev pub invariant-loop-i : goal.invariant-loop-i
invariant-loop-i l = Judged l.slips l.at l.i (l.at + 1 + l.i)
