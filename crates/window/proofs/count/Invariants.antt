-- The counts are those of the bytes passed.
use Prim.Native.Nat.{◌≤◌}
use lib.ListN.{length, take}
use Rattle.window.specs.Count.{Counts}
use Rattle.window.proofs.count.Given as goal

abbrev pub invariant-loop-b : goal.invariant-loop-b
invariant-loop-b l = (l.b-index ≤ length l.w) × Counts (take l.b-index l.w) l.c
