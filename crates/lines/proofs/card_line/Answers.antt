-- The block number, the card after it, and the rest of the line.
use Rattle.text.proofs.Pieces.{added}
use Rattle.lines.proofs.card_line.Goals as goal

pub returns : goal.returns
returns c = rw (c.from.ensures, c.from-2.ensures, c.from-3.ensures) at (added c.number.ensures (added c.labelled.ensures c.number_line.ensures))
