-- Every position that is passed over stands there too seldom, or is marked; so is none left, or the one that is not marked is the lowest.
use mathlib.Core.Path.{sym, ap, ◌∙◌}
use native.Mathlib.Omega.{arith}
use borrow.Author.Tests.{lt-ltb}
use Rattle.window.specs.Window.{position_below}
use Rattle.window.proofs.Proposed.{from_start, further, lowest_at, lowest_none}
use Rattle.window.proofs.lowest.Goals as goal

pub returns-in_err-p : goal.returns-in_err-p
returns-in_err-p c =
    let none = from_start c.args.w.now c.args.m c.count.new.c c.count.ensures 45 (omega arith) c.in_err-p.ensures in
    c.from_residual.ensures ∙ ap (position_below 45) (lowest_none c.args.w.now c.args.m none)

pub loop-m-init : goal.loop-m-init
loop-m-init c =
    let next = c.in_ok-p.ensures in record {
      position = next.1;
      often = next.2;
      below = from_start c.args.w.now c.args.m c.count.new.c c.count.ensures c.in_ok-p.p (omega (arith, next.1)) next.3;
    }

pub returns-in_err-p-2 : goal.returns-in_err-p-2
returns-in_err-p-2 c =
    let none = further c.args.w.now c.args.m c.count.new.c c.count.ensures c.loop-m.p c.loop-m.invariant _ c.is_unmarked.ensures c.loop-m-test.true
    45 (omega arith) c.in_err-p-2.ensures in
    c.from_residual-in_err-p-2.ensures ∙ ap (position_below 45) (lowest_none c.args.w.now c.args.m none)

pub loop-m-preserved : goal.loop-m-preserved
loop-m-preserved c =
    let next = c.in_ok-p-2.ensures in record {
      position = next.1;
      often = next.2;
      below = further c.args.w.now c.args.m c.count.new.c c.count.ensures c.loop-m.p c.loop-m.invariant _ c.is_unmarked.ensures c.loop-m-test.true
          c.in_ok-p-2.p (omega (arith, next.1)) next.3;
    }

pub returns : goal.returns
returns c =
    let is = lowest_at c.args.w.now c.args.m c.count.new.c c.count.ensures c.loop-m.p c.loop-m.invariant _ c.is_unmarked.ensures c.loop-m-test.false in
    rw (sym is) (simp (lt-ltb c.loop-m.p 45 c.loop-m.invariant.position))
