-- Five pieces, one after the other.
use Rattle.text.proofs.Pieces.{added}
use Rattle.lines.proofs.totals_line.Goals as goal

pub returns : goal.returns
returns c =
    let whole =
    added c.labelled.ensures
    (added c.labelled-2.ensures (added c.labelled-3.ensures (added c.labelled-4.ensures c.number_line.ensures)))
    in
    rw (c.from.ensures, c.from-2.ensures, c.from-3.ensures, c.from-4.ensures, c.from-5.ensures) at whole
