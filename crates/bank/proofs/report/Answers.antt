-- The five totals that the loop has counted are those of the bank.
use mathlib.Core.Path.{refl, sym, ◌∙◌}
use Rattle.answer.proofs.Causes.{number_given}
use Rattle.bank.proofs.Causes.{report_is, by_first, by_second, sized}
use Rattle.bank.proofs.Done.{report_said, report_refused, report_done}
use Rattle.bank.proofs.report.Goals as goal

pub returns-in_err-check_size : goal.returns-in_err-check_size
returns-in_err-check_size c =
    let e = c.in_err-check_size.field-0.0 in
    rw (report_said _ e c.from_residual.ensures.1)
    (report_refused _ _ _ (report_is _ _ ∙ by_first _ _ _ c.in_err-check_size.ensures (number_given e)) (number_given e))

pub returns-in_err-check : goal.returns-in_err-check
returns-in_err-check c =
    let e = c.in_err-check.field-0.0 in
    rw (report_said _ e c.from_residual-in_err-check.ensures.1)
    (report_refused _ _ _ (report_is _ _ ∙ by_second _ 0 _ c.in_ok-check_size.ensures refl ∙ sym c.in_err-check.ensures) (number_given e))

pub count_blocks-requires : goal.count_blocks-requires
count_blocks-requires c = ((sized _ (sym c.in_ok-check_size.ensures)).1, sym c.in_ok-check.ensures)

pub returns : goal.returns
returns c =
    report_done _ _ c.count_blocks.result (report_is _ _ ∙ by_second _ 0 _ c.in_ok-check_size.ensures refl ∙ sym c.in_ok-check.ensures)
    c.count_blocks.ensures
