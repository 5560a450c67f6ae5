-- A bank of a right length is made zeros, whatever it held.
use Rattle.answer.proofs.Causes.{refusal_said, number_given}
use Rattle.bank.proofs.Causes.{clear_is}
use Rattle.bank.proofs.Done.{clear_refused, clear_done}
use Rattle.bank.proofs.clear.Goals as goal

pub returns-in_err-check_size : goal.returns-in_err-check_size
returns-in_err-check_size c =
    let e = c.in_err-check_size.field-0.0 in
    rw (refusal_said _ e c.from_residual.ensures.1) (clear_refused _ _ (clear_is _ _ c.in_err-check_size.ensures) (number_given e))

pub returns : goal.returns
returns c = clear_done _ _ (clear_is _ _ c.in_ok-check_size.ensures) c.zero.ensures
