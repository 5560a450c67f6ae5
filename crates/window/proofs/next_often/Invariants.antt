-- None from p on and before q is counted four times.
use Prim.Native.Nat.{ℕ, ◌≤◌, ◌<◌}
use lib.ListN.{get_or}
use Rattle.window.proofs.next_often.Given as goal

abbrev pub invariant-loop-q : goal.invariant-loop-q
invariant-loop-q l = (i : ℕ) → l.p ≤ i → i < l.q → get_or l.c i 0 < 4
