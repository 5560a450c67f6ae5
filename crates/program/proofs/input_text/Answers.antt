-- Each way that it goes puts the text of the input.
use Rattle.std.proofs.Common.{ℕ, subst}
use Rattle.text.specs.Put.{Added}
use Rattle.lines.specs.Lines.{refused_line}
use Rattle.program.proofs.Said.{found, put_refused, put_counted, counted_fits}
use Rattle.program.proofs.input_text.Goals as goal

pub bank_text-requires : goal.bank_text-requires
bank_text-requires c = counted_fits _ _ _ c.in-Ok.ensures

pub returns-in-Ok : goal.returns-in-Ok
returns-in-Ok c = put_counted (found c.in-Some.ensures.cases c.from_slice-m.ensures.0) c.in-Ok.ensures c.bank_text.ensures

pub returns-in-Err : goal.returns-in-Err
returns-in-Err c =
    put_refused (found c.in-Some.ensures.cases c.from_slice-m.ensures.0) c.in-Err.ensures
    (subst (λ (n : ℕ). Added (refused_line n) c.args.text.now c.refused_line-in-Err.new.text) c.number-in-Err.ensures c.refused_line-in-Err.ensures)
