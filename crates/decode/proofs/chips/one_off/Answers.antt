-- One chip, on the card or off it.
use Rattle.decode.proofs.Marked.{on, off}
use Rattle.decode.proofs.chips.one_off.Goals as goal

pub returns-then-p-j : goal.returns-then-p-j
returns-then-p-j c = on _ _ c.if-p-j.true

pub returns : goal.returns
returns c = off _ _ c.if-p-j.false
