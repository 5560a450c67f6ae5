-- What mending block k says is what patrol says of the bank.
use mathlib.Core.Path.{refl, sym, ◌∙◌}
use native.Mathlib.Omega.{arith}
use Rattle.answer.proofs.Causes.{number_given}
use Rattle.marks.specs.Marks.{marks_cause}
use Rattle.reading.proofs.Handed.{fault_said}
use Rattle.block.proofs.Causes.{mend_marks}
use Rattle.bank.proofs.Causes.{patrol_is, by_first, by_second}
use Rattle.bank.proofs.Done.{part_length, part_is, back_is, patrol_refused, patrol_done}
use Rattle.bank.proofs.patrol.Goals as goal

pub returns-in_err-check_place : goal.returns-in_err-check_place
returns-in_err-check_place c =
    let e = c.in_err-check_place.field-0.0 in
    rw (fault_said _ e c.from_residual.ensures.1)
    (patrol_refused _ _ _ _ _ (patrol_is _ _ _ ∙ by_first _ _ _ c.in_err-check_place.ensures.cause (number_given e)) (number_given e))

pub returns : goal.returns
returns c =
    let bank = c.args.bank.now in
    let k = c.args.k in
    let m = c.args.m in
    let room = c.in_ok-check_place.ensures.room in
    patrol_done bank k _ (part_is bank k) m _ _ _ _ _
    (patrol_is _ _ m ∙ by_second _ 0 (marks_cause m) c.in_ok-check_place.ensures.cause refl
    ∙ sym (mend_marks _ m (part_length bank k room)))
    c.mend.ensures (back_is bank k c.mend.new.block) (omega (arith, room)) (c.mend.auto.block ∙ part_length bank k room)
