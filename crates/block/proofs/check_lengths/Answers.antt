-- The block's length first, and then the output's.
use mathlib.Core.Path.{sym, ◌∙◌}
use Rattle.answer.proofs.Causes.{handed_on}
use Rattle.block.proofs.Causes.{length_none, lengths_1, lengths_2, lengths_right}
use Rattle.block.proofs.check_lengths.Goals as goal

pub returns-in_err-check_length : goal.returns-in_err-check_length
returns-in_err-check_length c = handed_on _ _ c.from_residual.ensures.1 ∙ lengths_1 _ _ _ c.in_err-check_length.ensures

pub returns-then-o-ne45 : goal.returns-then-o-ne45
returns-then-o-ne45 c = lengths_2 _ _ (length_none _ (sym c.in_ok-check_length.ensures)) c.if-o-ne45.true

pub returns : goal.returns
returns c = lengths_right _ _ (length_none _ (sym c.in_ok-check_length.ensures)) c.if-o-ne45.false
