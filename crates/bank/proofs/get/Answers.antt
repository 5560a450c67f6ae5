-- What a reading of block k says is what get says of the bank, which is not touched.
use mathlib.Core.Path.{refl, sym, ap, ◌∙◌}
use native.Mathlib.Omega.{arith}
use Rattle.std.specs.Prelude.{Err}
use Rattle.answer.proofs.Causes.{number_given}
use Rattle.marks.specs.Marks.{marks_cause}
use Rattle.reading.specs.Reading.{reading_answer}
use Rattle.reading.proofs.Handed.{fault_said}
use Rattle.reading.specs.declared.Fault.{Fault}
use Rattle.block.proofs.Causes.{read_marks}
use Rattle.bank.proofs.Causes.{get_2, get_is, patrol_is, by_first, by_second}
use Rattle.bank.proofs.Done.{part_length, part_is, get_refused, get_done}
use Rattle.bank.proofs.get.Goals as goal

pub returns-then-out-ne45 : goal.returns-then-out-ne45
returns-then-out-ne45 c =
    rw (ap (λ (f : Fault). reading_answer (Err f)) c.into.ensures) (get_refused _ _ _ _ _ 2 (get_2 _ _ _ _ c.if-out-ne45.true) (λ z. omega arith))

pub returns-in_err-check_place : goal.returns-in_err-check_place
returns-in_err-check_place c =
    let e = c.in_err-check_place.field-0.0 in
    rw (fault_said _ e c.from_residual.ensures.1)
    (get_refused _ _ _ _ _ _ (get_is _ _ _ _ c.if-out-ne45.false ∙ patrol_is _ _ _ ∙ by_first _ _ _ c.in_err-check_place.ensures.cause (number_given e))
    (number_given e))

pub returns : goal.returns
returns c =
    let bank = c.args.bank.now in
    let k = c.args.k in
    let m = c.args.m in
    let out = c.if-out-ne45.false in
    let room = c.in_ok-check_place.ensures.room in
    get_done bank k _ (part_is bank k) m _ _ _ _ _ _
    (get_is _ _ m _ out ∙ patrol_is _ _ m ∙ by_second _ 0 (marks_cause m) c.in_ok-check_place.ensures.cause refl
    ∙ sym (read_marks _ m _ (part_length bank k room) out))
    c.read_noted.ensures
