-- The two further positions change places where q stands before p.
use Rattle.change.proofs.Listed.{turned_is, kept_is}
use Rattle.change.proofs.in_order.Goals as goal

pub returns-then-d : goal.returns-then-d
returns-then-d c = turned_is c.args.d c.if-d.true

pub returns : goal.returns
returns c = kept_is c.args.d c.if-d.false
