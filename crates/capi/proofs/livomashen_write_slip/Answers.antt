-- The reading of which the number is the code, and its slip; or it is no reading's code.
use mathlib.Core.Path.{sym, ap, ◌∙◌, subst}
use Rattle.answer.specs.Answer.{Answer}
use Rattle.slip.specs.Slip.{HasSlip}
use Rattle.slip.specs.Calls.{WriteSlipDone}
use Rattle.slip.specs.Wrote.{Refused, wrote_said}
use Rattle.slip.proofs.Fit.{write_fits}
use Rattle.slip.proofs.Writing.{write_bad}
use Rattle.capi.specs.Codes.{code}
use Rattle.capi.proofs.Slips.{asked_some, asked_none}
use Rattle.capi.proofs.livomashen_write_slip.Goals as goal

-- the number is not the code of what its parts tell: nothing that has a slip is asked for
pub returns-then-of_reading-answer : goal.returns-then-of_reading-answer
returns-then-of_reading-answer c =
    let n = asked_none c.args.answer (λ e. c.if-of_reading-answer.true (c.of_reading.ensures ∙ ap code c.reading_in-r.ensures ∙ e)) in
    record {
      wrote = Refused 16;
      says = write_bad _ _ _ _ (λ h. (subst (HasSlip c.args.k) n h).1);
      coded = c.from.ensures ∙ c.number.ensures;
    }

pub of_wrote-requires : goal.of_wrote-requires
of_wrote-requires c = write_fits _ _ _ _ _ _ c.write.ensures

pub returns : goal.returns
returns c =
    let n = asked_some c.args.answer (sym (c.of_reading.ensures ∙ ap code c.reading_in-r.ensures) ∙ c.if-of_reading-answer.false) in
    record {
      wrote = wrote_said c.write.result;
      says = subst (λ (a : Answer). WriteSlipDone c.args.slips.now c.args.at c.args.k a (wrote_said c.write.result) c.write.new.slips)
          (c.reading_in-r.ensures ∙ sym n) c.write.ensures;
      coded = c.of_wrote.ensures;
    }
