-- A clean block by its sums and the marks' check, any other by the decoder; the block is not touched.
use mathlib.Core.Path.{sym, subst}
use native.Mathlib.Omega.{arith}
use lib.ListN.{length}
use Rattle.base.proofs.Tally.{passes}
use Rattle.reading.specs.Reading.{reading_answer}
use Rattle.decode.specs.Decode.{Decoded, reading_of}
use Rattle.block.specs.Read.{LookDone}
use Rattle.block.proofs.Causes.{length_none, mend_length}
use Rattle.block.proofs.Done.{clean_looked, decoded_looked, look_handed}
use Rattle.block.proofs.look.Goals as goal

pub returns-in_err-check_length : goal.returns-in_err-check_length
returns-in_err-check_length c =
    look_handed c.args.block.now c.args.m _ _ c.from_residual.ensures.1 (mend_length _ _ c.args.m c.in_err-check_length.ensures)

pub returns-then-is_zero : goal.returns-then-is_zero
returns-then-is_zero c =
    let l = length_none (length c.args.block.now) (sym c.in_ok-check_length.ensures) in
    clean_looked c.args.m c.args.block.now (record { long = l; bytes = λ p h. omega (arith, c.type_inv.block p) }) c.of_block-s.result
    (c.of_block-s.ensures.block l) (passes c.is_zero.ensures c.if-is_zero.true) _ c.clean_under.ensures

pub returns-in-Ok : goal.returns-in-Ok
returns-in-Ok c =
    let b = c.args.block.now in
    let m = c.args.m in
    let l = length_none (length b) (sym c.in_ok-check_length.ensures) in
    subst (λ (d : Decoded). LookDone b m (reading_answer (reading_of d)) b) c.in-Ok.is
    (decoded_looked m b l (λ p h. omega (arith, c.type_inv.block p)) c.of_block-s.result (c.of_block-s.ensures.block l) c.decode.result c.decode.ensures)

pub returns-in-Err : goal.returns-in-Err
returns-in-Err c =
    let b = c.args.block.now in
    let m = c.args.m in
    let l = length_none (length b) (sym c.in_ok-check_length.ensures) in
    subst (λ (d : Decoded). LookDone b m (reading_answer (reading_of d)) b) c.in-Err.is
    (decoded_looked m b l (λ p h. omega (arith, c.type_inv.block p)) c.of_block-s.result (c.of_block-s.ensures.block l) c.decode.result c.decode.ensures)
