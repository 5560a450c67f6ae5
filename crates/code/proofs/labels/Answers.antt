-- The table is the definition's list, in figures.
use mathlib.Core.Path.{sym}
use Rattle.code.proofs.BuiltIn.{figures, in_figures}
use Rattle.code.proofs.labels.Goals as goal

pub returns : goal.returns
unfolding figures
returns c = sym in_figures
