-- The block number, and the rest of the line after it.
use Rattle.text.proofs.Pieces.{added}
use Rattle.lines.proofs.two_numbers_line.Goals as goal

pub returns : goal.returns
returns c = rw (c.from.ensures, c.from-2.ensures) at (added c.number.ensures c.number_line.ensures)
