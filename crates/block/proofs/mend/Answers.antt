-- A clean block by its sums and the marks' check, any other by the decoder; where it is corrected, the change is made in the block itself.
use mathlib.Core.Path.{sym, subst, ◌∙◌}
use native.Mathlib.Omega.{arith}
use lib.ListN.{length}
use Rattle.base.proofs.Tally.{passes}
use Rattle.code.specs.Block.{Block}
use Rattle.change.specs.Change.{applied}
use Rattle.std.specs.Prelude.{Ok}
use Rattle.reading.specs.Reading.{reading_answer}
use Rattle.decode.specs.Decode.{Decoded, Decodes, reading_of, change_of}
use Rattle.block.specs.Read.{MendDone}
use Rattle.block.proofs.Causes.{length_none, mend_length, mend_marks}
use Rattle.block.proofs.Done.{clean_mended, decoded_read, mend_handed, mend_done}
use Rattle.block.proofs.Done.{decoded_noted, applied_delivered, made_lawful, fault_mended}
use Rattle.block.proofs.mend.Goals as goal

pub returns-in_err-check_length : goal.returns-in_err-check_length
returns-in_err-check_length c =
    mend_handed c.args.block.now c.args.m c.args.w.now _ _ c.from_residual.ensures.1 (mend_length _ _ c.args.m c.in_err-check_length.ensures)

pub returns-then-is_zero : goal.returns-then-is_zero
returns-then-is_zero c =
    let l = length_none (length c.args.block.now) (sym c.in_ok-check_length.ensures) in
    clean_mended c.args.m c.args.block.now (record { long = l; bytes = λ p h. omega (arith, c.slice_known-1.given p) }) c.of_block-s.result
    (c.of_block-s.ensures.block l) (passes c.is_zero.ensures c.if-is_zero.true) _ c.clean_under.ensures c.args.w.now

pub returns-in-Err : goal.returns-in-Err
returns-in-Err c =
    let b = c.args.block.now in
    let m = c.args.m in
    let w = c.args.w.now in
    let l = length_none (length b) (sym c.in_ok-check_length.ensures) in
    subst (λ (d : Decoded). MendDone b m w (reading_answer (reading_of d)) b w) c.in-Err.is
    (fault_mended m b l (λ p h. omega (arith, c.slice_known-1.given p)) c.of_block-s.result (c.of_block-s.ensures.block l)
    c.decode.result c.decode.ensures _ c.in-Err.is w)

pub returns-in-Ok : goal.returns-in-Ok
returns-in-Ok c =
    let b = c.args.block.now in
    let m = c.args.m in
    let l = length_none (length b) (sym c.in_ok-check_length.ensures) in
    let s = c.of_block-s.result in
    let is = c.of_block-s.ensures.block l in
    let bb : Block b = record { long = l; bytes = λ p h. omega (arith, c.slice_known-1.given p) } in
    let d = Ok c.in-Ok.made in
    let w = subst (Decodes s m) c.in-Ok.is c.decode.ensures in
    let lawful = made_lawful s m c.in-Ok.made w in
    mend_done b m c.args.w.now _ _ _ (mend_marks (length b) m l ∙ lawful) (rw c.apply.ensures (decoded_read m lawful b bb s is d w))
    (decoded_noted m lawful b bb s is d w c.changed.result c.changed.ensures
    c.args.w.now _ _ (applied_delivered (reading_answer (reading_of d)) _ (applied b (change_of d)) c.apply.ensures) c.add.ensures)
