-- The registers in the bytes, the write on them, and their bytes written back where it is done.
use mathlib.Core.Path.{refl}
use Rattle.answer.specs.Answer.{done, refused, refusal_number}
use Rattle.answer.proofs.Causes.{refusal_said}
use Rattle.capi.proofs.Written.{write_back, write_left, refusal_coded}
use Rattle.capi.proofs.write_bytes.Goals as goal

pub returns-in_err-write : goal.returns-in_err-write
returns-in_err-write c =
    let e = c.in_err-write.field-0.0 in
    rw (refusal_said _ e c.from_residual.ensures.1)
    (write_left c.args.r.now c.args.a c.args.v c.args.bank.now c.args.out.now c.args.w.now _ (refused (refusal_number e)) c.write.new.r _ _ _ _
    c.from_bytes-registers.ensures.0 c.in_err-write.ensures refl (refusal_coded e))

pub returns : goal.returns
returns c =
    write_back c.args.r.now c.args.a c.args.v c.args.bank.now c.args.out.now c.args.w.now _ done c.write.new.r _ _ _ 0 c.from_bytes-registers.ensures.0
    c.in_ok-write.ensures refl refl _ c.to_bytes.ensures
