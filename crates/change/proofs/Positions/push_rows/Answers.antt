use mathlib.Core.Path.{refl}
use mathlib.Core.Bool.{true, ◌&&◌}
use Prim.Native.Nat.{◌*◌}
use native.Mathlib.Omega.{arith}
use Rattle.base.proofs.Tally.{one_le}
use Rattle.base.proofs.Tests.{and_yes}
use Rattle.change.specs.Change.{nonzero_at, row_test}
use Rattle.change.proofs.Listed.{no_rows, rows_none, rows_more, few_those}
use Rattle.change.proofs.Positions.push_rows.Goals as goal

pub returns-then-j-gt4 : goal.returns-then-j-gt4
returns-then-j-gt4 c = no_rows c.args.self.now c.args.j c.args.rows c.if-j-gt4.true

pub loop-i-init : goal.loop-i-init
loop-i-init c = rows_none c.args.self.now c.args.j c.args.rows

pub push-requires : goal.push-requires
push-requires c =
    omega (
      arith,
      c.loop-i.invariant.count,
      few_those c.loop-i.i (9 * c.args.j) (row_test c.args.rows),
      one_le (nonzero_at c.args.rows c.loop-i.i && true),
      c.requires,
    )

pub loop-i-preserved : goal.loop-i-preserved
loop-i-preserved c =
    rows_more c.args.self.now c.loop-i.self c.push.new.self c.args.j c.args.rows c.loop-i.i _ _ (omega (arith, c.if-j-gt4.false)) c.loop-i-test.true
    (and_yes (nonzero_at c.args.rows c.loop-i.i)) refl c.loop-i.invariant c.push.ensures
