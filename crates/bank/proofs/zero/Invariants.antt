-- Zeros as far as was passed, and the rest as it was.
use mathlib.Core.Path.{◌≡◌}
use mathlib.Core.List.{◌++◌}
use lib.ListN.{drop, replicate}
use Rattle.bank.proofs.zero.Given as goal

abbrev pub invariant-loop-b : goal.invariant-loop-b
invariant-loop-b l = l.bank ≡ replicate l.b-index 0 ++ drop l.b-index l.initial.bank
