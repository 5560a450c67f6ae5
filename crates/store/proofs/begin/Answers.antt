-- All 45 bytes are written: 34 copied, two zeros, and card 4.
use Rattle.std.proofs.Common.{arith}
use Rattle.store.proofs.Written.{begun}
use Rattle.store.proofs.begin.Goals as goal

pub returns : goal.returns
returns c =
    begun c.args.rec.now c.args.card c.args.out.now _ _ c.told-rec (omega arith) c.told-out c.copy_from_slice.ensures.after c.copy_from_slice-2.ensures.after
