-- A clean block by its sums and the marks' check, any other by the decoder; the output is written only where the block is corrected.
use mathlib.Core.Path.{sym, subst, ◌∙◌}
use native.Mathlib.Omega.{arith}
use lib.ListN.{length}
use Rattle.base.proofs.Tally.{passes}
use Rattle.answer.specs.Answer.{clean}
use Rattle.code.specs.Block.{Block}
use Rattle.reading.specs.Reading.{reading_answer}
use Rattle.decode.specs.Decode.{Decoded, reading_of}
use Rattle.block.specs.Read.{ReadDone}
use Rattle.block.proofs.Causes.{lengths_none, read_lengths, read_marks}
use Rattle.block.proofs.Done.{clean_read, corrects_read, read_handed, read_done}
use Rattle.block.proofs.read.Goals as goal

-- both are 45 bytes, since the call is not refused
pub unwrap-block-requires : goal.unwrap-block-requires
unwrap-block-requires c =
    c.as_array.ensures.variant.1 (lengths_none (length c.args.received.now) (length c.args.out.now) (sym c.in_ok-check_lengths.ensures)).0

pub unwrap-output-requires : goal.unwrap-output-requires
unwrap-output-requires c =
    c.as_mut_array.ensures.variant.1 (lengths_none (length c.args.received.now) (length c.args.out.now) (sym c.in_ok-check_lengths.ensures)).1

pub returns-in_err-check_lengths : goal.returns-in_err-check_lengths
returns-in_err-check_lengths c =
    read_handed c.args.received.now c.args.m c.args.out.now _ _ c.from_residual.ensures.1 (read_lengths _ _ c.args.m _ c.in_err-check_lengths.ensures)

pub returns-in_err-check : goal.returns-in_err-check
returns-in_err-check c =
    let b = c.args.received.now in
    let m = c.args.m in
    let out = c.args.out.now in
    let h = lengths_none (length b) (length out) (sym c.in_ok-check_lengths.ensures) in
    let whole = rw c.unwrap-output.ensures at c.as_mut_array.ensures.cases in
    rw whole.same
    (read_handed b m out _ _ c.from_residual-in_err-check.ensures.1 (c.in_err-check.ensures ∙ sym (read_marks (length b) m (length out) h.0 h.1)))

pub returns-then-is_zero : goal.returns-then-is_zero
returns-then-is_zero c =
    let b = c.args.received.now in
    let m = c.args.m in
    let out = c.args.out.now in
    let h = lengths_none (length b) (length out) (sym c.in_ok-check_lengths.ensures) in
    let lawful = sym c.in_ok-check.ensures in
    let bb : Block b = record { long = h.0; bytes = λ p l. omega (arith, c.type_inv.received p) } in
    let whole = rw c.unwrap-block.ensures at c.as_array.ensures.cases in
    read_done b m out clean _ (read_marks (length b) m (length out) h.0 h.1 ∙ lawful) (rw (c.copy_block.ensures.0 ∙ whole.same)
    (clean_read m lawful b bb c.of_block-s.result (c.of_block-s.ensures.block h.0) (passes c.is_zero.ensures c.if-is_zero.true) out))

pub returns-in-Ok : goal.returns-in-Ok
returns-in-Ok c =
    let b = c.args.received.now in
    let m = c.args.m in
    let out = c.args.out.now in
    let h = lengths_none (length b) (length out) (sym c.in_ok-check_lengths.ensures) in
    let w = rw ((rw c.unwrap-block.ensures at c.as_array.ensures.cases).same, (rw c.unwrap-output.ensures at c.as_mut_array.ensures.cases).same)
    at c.correct.ensures in
    subst (λ (d : Decoded). ReadDone b m out (reading_answer (reading_of d)) b c.correct.new.out) c.in-Ok.is
    (corrects_read m b h.0 (λ p l. omega (arith, c.type_inv.received p)) c.of_block-s.result (c.of_block-s.ensures.block h.0)
    c.correct.result w.decoded out h.1 _ w.output)

pub returns-in-Err : goal.returns-in-Err
returns-in-Err c =
    let b = c.args.received.now in
    let m = c.args.m in
    let out = c.args.out.now in
    let h = lengths_none (length b) (length out) (sym c.in_ok-check_lengths.ensures) in
    let w = rw ((rw c.unwrap-block.ensures at c.as_array.ensures.cases).same, (rw c.unwrap-output.ensures at c.as_mut_array.ensures.cases).same)
    at c.correct.ensures in
    subst (λ (d : Decoded). ReadDone b m out (reading_answer (reading_of d)) b c.correct.new.out) c.in-Err.is
    (corrects_read m b h.0 (λ p l. omega (arith, c.type_inv.received p)) c.of_block-s.result (c.of_block-s.ensures.block h.0)
    c.correct.result w.decoded out h.1 _ w.output)
