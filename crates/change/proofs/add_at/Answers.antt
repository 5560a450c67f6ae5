-- A sum stored at one position; past the end no position is changed.
use Rattle.change.proofs.Made.{added, not_added}
use Rattle.change.proofs.add_at.Goals as goal

pub returns-then-at-block : goal.returns-then-at-block
returns-then-at-block c = added c.args.block.now _ c.args.x _ c.if-at-block.true c.add.ensures

pub returns-else-at-block : goal.returns-else-at-block
returns-else-at-block c = not_added c.args.block.now _ c.args.x c.if-at-block.false
