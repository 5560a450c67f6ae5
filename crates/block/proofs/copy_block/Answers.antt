-- Three moves from the front, the last of which goes over three bytes again.
use mathlib.Core.Path.{refl}
use Rattle.block.proofs.Copy.{three_moves}
use Rattle.block.proofs.copy_block.Goals as goal

pub returns : goal.returns
returns c =
    (three_moves c.args.from.now c.args.to.now c.told-from c.told-to _ _ _ c.copy_sixteen.ensures c.copy_sixteen-2.ensures c.copy_sixteen-3.ensures, refl)
