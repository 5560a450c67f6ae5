-- The word and the number, and a newline after them.
use Rattle.std.proofs.Common.{append_assoc}
use Rattle.text.proofs.Pieces.{added}
use Rattle.text.proofs.Text.number_line.Goals as goal

pub returns : goal.returns
returns c = let whole = added c.labelled.ensures c.put.ensures in rw append_assoc at whole
