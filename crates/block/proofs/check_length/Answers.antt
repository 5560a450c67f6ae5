-- One length alone.
use Rattle.block.proofs.Causes.{length_1, length_right}
use Rattle.block.proofs.check_length.Goals as goal

pub returns-then-n-ne45 : goal.returns-then-n-ne45
returns-then-n-ne45 c = length_1 _ c.if-n-ne45.true

pub returns : goal.returns
returns c = length_right _ c.if-n-ne45.false
