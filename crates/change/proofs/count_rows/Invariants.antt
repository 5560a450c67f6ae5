-- Nine rows counted by a loop. Invariant: n is how many of the rows passed are not 0.
use mathlib.Core.Path.{◌≡◌}
use Rattle.base.specs.Base.{tally}
use Rattle.change.specs.Change.{nonzero_at}
use Rattle.change.proofs.count_rows.Given as goal

abbrev pub invariant-loop-row : goal.invariant-loop-row
invariant-loop-row l = l.n ≡ tally l.row-index (nonzero_at l.fn.rows)
