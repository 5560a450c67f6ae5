-- A position that stands there often enough, and none below it may be proposed.
use Prim.Native.Nat.{◌-◌}
use Rattle.window.proofs.Proposed.{Reached}
use Rattle.window.proofs.lowest.Given as goal

abbrev pub invariant-loop-m : goal.invariant-loop-m
invariant-loop-m l = Reached l.w l.m l.c l.p

abbrev pub decreases-loop-m : goal.decreases-loop-m
decreases-loop-m l = 45 - l.p
