-- The block number, and the word after it, which ends the line.
use Rattle.text.proofs.Pieces.{added}
use Rattle.lines.proofs.none_line.Goals as goal

pub returns : goal.returns
returns c = rw c.from.ensures at (added c.number.ensures c.put.ensures)
