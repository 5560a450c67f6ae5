-- Clean where the marks are lawful, else their refusal.
use mathlib.Core.Path.{sym}
use Rattle.block.proofs.Done.{clean_accepted, clean_refused}
use Rattle.block.proofs.clean_under.Goals as goal

pub returns-in_err-check : goal.returns-in_err-check
returns-in_err-check c = clean_refused _ _ c.args.m c.from_residual.ensures.1 c.in_err-check.ensures

pub returns : goal.returns
returns c = clean_accepted c.args.m (sym c.in_ok-check.ensures)
