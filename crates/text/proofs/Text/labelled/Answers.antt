-- The word, and the digits after it.
use Rattle.text.proofs.Pieces.{added}
use Rattle.text.proofs.Text.labelled.Goals as goal

pub returns : goal.returns
returns c = added c.put.ensures c.number.ensures
