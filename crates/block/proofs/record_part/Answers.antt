-- Each of the returns is a part of the output that starts where the output starts.
use mathlib.Core.Path.{refl, sym}
use lib.Seq.{length-take-le}
use native.Mathlib.Omega.{arith}
use Rattle.block.proofs.Causes.{part_short, part_whole, part_none}
use Rattle.block.proofs.record_part.Goals as goal
use Rattle.block.proofs.record_part.Goals.{else-out-eq45-via-then-out-eq45+else-was_corrected, else-out-eq45-via-else-out-eq45}

pub slice_bounds-result-end : goal.slice_bounds-result-end
slice_bounds-result-end c = sym (length-take-le 34 c.args.out.now (omega (arith, c.if-out-eq45.true)))

pub returns-then-was_corrected : goal.returns-then-was_corrected
returns-then-was_corrected c = (part_whole _ _ _ c.if-out-eq45.true c.was_corrected.ensures c.if-was_corrected.true, refl, refl)

pub returns : goal.returns
returns c = (
  elim c.else-out-eq45.branch [
    | else-out-eq45-via-then-out-eq45+else-was_corrected w ↦ part_none _ _ _ w.if-out-eq45.true w.was_corrected.ensures w.if-was_corrected.false
    | else-out-eq45-via-else-out-eq45 w ↦ part_short _ _ w.if-out-eq45.false
  ],
  refl,
  refl,
)
