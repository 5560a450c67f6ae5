-- Nine rows added to a card by a loop. Invariant: the rows passed are added, and nothing else is changed.
use Rattle.change.proofs.Made.{Rows}
use Rattle.change.proofs.add_rows.Given as goal

abbrev pub invariant-loop-row : goal.invariant-loop-row
invariant-loop-row l = Rows l.initial.block l.j l.fn.rows l.row l.block
