-- The bytes are written where nothing is refused; then they are four, and those of the new record are copied over them all.
use mathlib.Core.Path.{refl, ap}
use native.Mathlib.Omega.{arith}
use lib.ListN.{length}
use Rattle.answer.specs.Answer.{done, refused, refusal_number}
use Rattle.answer.proofs.Causes.{refusal_said}
use Rattle.capi.proofs.Written.{four, whole_says, left_says, refusal_coded}
use Rattle.capi.proofs.mark_bytes.Goals as goal

pub copy_from_slice-requires : goal.copy_from_slice-requires
copy_from_slice-requires c =
    omega (
      arith,
      ap length c.to_bytes.ensures,
      four c.args.m.now c.args.call _ done c.mark.new.m 0 c.from_slice-record.ensures.0 c.in_ok-mark.ensures refl refl,
    )

pub returns-in_err-mark : goal.returns-in_err-mark
returns-in_err-mark c =
    let e = c.in_err-mark.field-0.0 in
    rw (refusal_said _ e c.from_residual.ensures.1)
    (left_says c.args.m.now c.args.call _ (refused (refusal_number e)) c.mark.new.m _ c.from_slice-record.ensures.0 c.in_err-mark.ensures refl
    (refusal_coded e))

pub returns : goal.returns
returns c =
    whole_says c.args.m.now c.args.call _ done c.mark.new.m 0 c.from_slice-record.ensures.0 c.in_ok-mark.ensures refl refl _ _ c.to_bytes.ensures
    c.copy_from_slice.ensures.after
