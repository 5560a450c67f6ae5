-- The bytes one by one are the first of the slip: four, five or six.
use mathlib.Core.Path.{◌≡◌}
use native.Mathlib.Omega.{arith}
use Rattle.slip.proofs.Stores.{put_is}
use Rattle.slip.proofs.put.Goals as goal

pub returns-then-size-eq4-clause-slips_after : goal.returns-then-size-eq4-clause-slips_after
returns-then-size-eq4-clause-slips_after c = put_is c.args.slips.now c.args.slip.now c.args.at c.args.size 3 c.if-size-eq4.true c.requires.2 c.requires.3

pub returns-then-size-eq5-clause-slips_after : goal.returns-then-size-eq5-clause-slips_after
returns-then-size-eq5-clause-slips_after c = put_is c.args.slips.now c.args.slip.now c.args.at c.args.size 4 c.if-size-eq5.true c.requires.2 c.requires.3

pub returns-clause-slips_after : goal.returns-clause-slips_after
returns-clause-slips_after c =
    let all : c.args.size ≡ 6 = omega (arith, c.if-size-eq5.false, c.if-size-eq4.false, c.requires.0, c.requires.1) in
    put_is c.args.slips.now c.args.slip.now c.args.at c.args.size 5 all c.requires.2 c.requires.3
