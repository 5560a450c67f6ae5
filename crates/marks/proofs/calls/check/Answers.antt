-- What is asked for is within its range, and the record's own refusal is handed on: `own_some` says that it has its number.
use mathlib.Core.Path.{sym, ◌∙◌}
use Rattle.answer.proofs.Causes.{number_given, handed_on}
use Rattle.marks.proofs.Laws.{own_some}
use Rattle.marks.proofs.calls.check.Goals as goal

pub returns-in_err-check : goal.returns-in_err-check
returns-in_err-check c =
    let e = c.in_err-check.field-0.0 in
    handed_on _ e c.from_residual.ensures.1
    ∙ sym (own_some _ _ _ (sym c.asked_in_range.ensures ∙ c.if-not-asked_in_range.false) c.in_err-check.ensures (number_given e))
