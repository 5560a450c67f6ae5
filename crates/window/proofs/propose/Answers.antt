-- Refused by the marks.
use mathlib.Core.Path.{refl}
use Rattle.window.proofs.Proposed.{refusal_is}
use Rattle.window.proofs.propose.Goals as goal

pub returns-in_err-check : goal.returns-in_err-check
returns-in_err-check c = record {
  kept = refl;
  proposed = refusal_is c.args.w.now c.args.m c.from_residual.result c.in_err-check.field-0.0 c.from_residual.ensures.1 c.in_err-check.ensures;
}
