use Prim.Native.Nat.{◌<◌}
use Rattle.window.proofs.Counted.{count_le, one_counted}
use native.Mathlib.Omega.{arith}
use Rattle.window.proofs.count.Goals as goal

pub overflow_add-c : goal.overflow_add-c
overflow_add-c c =
    let a : c.from.result < 256 = omega (arith, c.from.ensures, c.fits-w c.loop-b.b-index) in
    record {
      fits = omega (arith, c.told-w, count_le c.args.w.now c.loop-b.c c.loop-b.b-index (omega arith) c.loop-b.invariant.1 c.from.result a);
    }

pub loop-b-preserved : goal.loop-b-preserved
loop-b-preserved c = (
  omega arith,
  one_counted c.args.w.now c.loop-b.c c.loop-b.b-index (omega arith) c.loop-b.invariant.1 c.from.result
      (omega (arith, c.from.ensures, c.fits-w c.loop-b.b-index)) c.from.ensures,
)
